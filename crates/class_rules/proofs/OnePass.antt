-- One pass over the entries with a pending one gives those that count, because learners do not fall (23).
use Rattle.std.specs.Prelude.{ℕ, ◌+◌, ◌≤◌, ◌<◌, List, [], ◌∷◌, ◌≡◌, refl}
use Rattle.std.proofs.Common.{ap, sym, arith}
use Rattle.rules.specs.Formula.{Formula, Holds, not, test, choose, Formula.◌≐◌, Formula.◌≼◌, Formula.◌then◌, Formula.never}
use Rattle.rules.specs.FormulaLaws.{Case, decide, passes, fails, test_and, choose_yes, Case.it_does}
use Rattle.rules.specs.FormulaLaws.{Case.it_does_not}
use Rattle.class_rules.specs.Report.{Entry, class_of, all_in, is_counted, counted_in, counted}
use Rattle.class_rules.specs.Entries.{InOrder}
use Rattle.class_rules.proofs.Entries.{read-class}
use Rattle.class_rules.specs.OnePass.{superseding, printed, kept, one_pass}

-- the two halves of `is_counted`
abbrev none_higher : List Entry → Entry → Formula
none_higher before e = all_in (λ d. d.learner ≐ e.learner then d.turn ≼ e.turn) before

abbrev none_as_high : Entry → List Entry → Formula
none_as_high e behind = all_in (λ d. d.learner ≐ e.learner then d.turn + 1 ≼ e.turn) behind

-- Before an entry to come, the pending one stands for all that were seen.
record Pending (seen : List Entry) (p : Entry) : Type 0 where
  is_seen : (d : Entry) → Holds (none_higher seen d) → p.learner ≡ d.learner → p.turn ≤ d.turn
  highest : (d : Entry) → p.learner ≤ d.learner → (p.learner ≡ d.learner → p.turn ≤ d.turn) → Holds (none_higher seen d)

-- an entry that supersedes it, or of another learner, is pending
pending_next : (seen : List Entry) (p e : Entry) → Pending seen p → p.learner ≤ e.learner
    → (p.learner ≡ e.learner → p.turn ≤ e.turn)
    → Pending (e ∷ seen) e
unfolding all_in
pending_next seen p e w up over = record {
  is_seen = λ d h. h.0;
  highest = λ d more high. (high, w.highest d (omega arith) (λ same. omega (arith, over (omega arith), high (omega arith))));
}

-- else it stays pending
pending_stays : (seen : List Entry) (p e : Entry) → Pending seen p → p.learner ≡ e.learner → e.turn ≤ p.turn
    → Pending (e ∷ seen) p
unfolding all_in
pending_stays seen p e w same low = record {
  is_seen = λ d h. w.is_seen d h.1;
  highest = λ d up high. ((λ met. omega (arith, high (omega arith))), w.highest d up high);
}

-- entries of higher learners are not in the way
others : (p : Entry) (before : ℕ) (es : List Entry) → p.learner < before → InOrder before es → Holds (none_as_high p es)
unfolding all_in
others p before [] l o = λ x. x
others p before (e ∷ more) l o = ((λ same. absurd (omega arith)), others p e.learner more (omega arith) o.2)

-- From a pending entry on: it counts if none behind it is as high, and then come those that count behind it.
abbrev PassFrom : List Entry → Entry → List Entry → Type 0
PassFrom seen p rest = one_pass (p ∷ []) rest ≡ choose (none_as_high p rest) (p ∷ counted_in seen rest) (counted_in seen rest)

-- It does so while learners do not fall and the pending entry stands for those seen.
pass : (seen : List Entry) (p : Entry) (rest : List Entry) → InOrder p.learner rest → Pending seen p → PassFrom seen p rest
unfolding all_in is_counted counted_in one_pass printed kept superseding
pass seen p [] o w = sym (choose_yes (not never) (p ∷ []) [] (λ x. x))
pass seen p (e ∷ more) o w =
    go (decide (p.learner ≐ e.learner)) (decide (p.turn ≼ e.turn)) (pass (e ∷ seen) e more o.2) (pass (e ∷ seen) p more)
  where
    -- the second half decides where the pending one lets the entry count
    counts : (p.learner ≡ e.learner → p.turn ≤ e.turn) → test (is_counted seen e more) ≡ test (none_as_high e more)
    counts over = test_and (none_higher seen e) (none_as_high e more) (w.highest e o.0 over)

    go : Case (p.learner ≐ e.learner) → Case (p.turn ≼ e.turn) → (Pending (e ∷ seen) e → PassFrom (e ∷ seen) e more)
        → (InOrder p.learner more → Pending (e ∷ seen) p → PassFrom (e ∷ seen) p more) → PassFrom seen p (e ∷ more)
    go (it_does same) (it_does high) next stays =
        rw (
          passes (p.learner ≐ e.learner) same,
          passes (p.turn ≼ e.turn) high,
          fails (none_as_high p (e ∷ more)) (λ h. omega (arith, h.0 (sym same))),
          counts (λ _. high),
        )
        (next (pending_next seen p e w o.0 (λ _. high)))
    go (it_does same) (it_does_not low) next stays =
        rw (
          passes (p.learner ≐ e.learner) same,
          fails (p.turn ≼ e.turn) low,
          test_and (e.learner ≐ p.learner then e.turn + 1 ≼ p.turn) (none_as_high p more) (λ _. omega arith),
          fails (is_counted seen e more) (λ h. low (w.is_seen e h.0 same)),
        )
        (stays (rw same o.2) (pending_stays seen p e w same (omega arith)))
    go (it_does_not differs) _ next stays =
        rw (
          fails (p.learner ≐ e.learner) differs,
          counts (λ same. absurd (differs same)),
          passes (none_as_high p (e ∷ more)) (others p e.learner (e ∷ more) (omega arith) (omega arith, o.1, o.2)),
        )
        (ap (λ (l : List Entry). p ∷ l) (next (pending_next seen p e w o.0 (λ same. absurd (differs same)))))

-- The theorem: the one pass gives the entries that count.
pub one_pass_lem : (file : List ℕ) → one_pass [] (class_of file).entries ≡ counted (class_of file)
unfolding one_pass printed kept counted_in is_counted all_in
one_pass_lem file = go (class_of file).entries (read-class file).ordered
  where
    go : (es : List Entry) → InOrder 0 es → one_pass [] es ≡ counted_in [] es
    go [] o = refl
    go (e ∷ more) o =
        rw (test_and (not never) (none_as_high e more) (λ x. x))
        (pass (e ∷ []) e more o.2 (record { is_seen = λ d h. h.0; highest = λ d up high. (high, λ x. x) }))
