-- What is printed from the start is the report.
use Rattle.std.specs.Prelude.{ℕ, zero, suc, ◌+◌, List, [], ◌∷◌, ◌++◌, ◌≡◌, Ok, Err}
use Rattle.std.proofs.Common.{append_assoc, ap, sym, ◌∙◌}
use Rattle.std.proofs.Math.Path.{refl}
use Rattle.number.specs.Number.{limit32, read_at, Reading}
use Rattle.number.specs.declared.Unread.TheVariants.{CutShort, Bad}
use Rattle.rules.specs.Formula.{Formula, choose, Formula.◌≼◌}
use Rattle.rules.specs.FormulaLaws.{Case, decide, passes, fails, Case.it_does, Case.it_does_not}
use Rattle.sheet_counts.specs.declared.Tally.{Tally}
use Rattle.sheet_counts.specs.Answers.{no_counts}
use Rattle.class_rules.specs.Report.{Entry, Class, stopped, followed, met, fits, sheet_at, entries_at, class_of, head, entry_lines}
use Rattle.class_rules.specs.Report.{last_line, report}
use Rattle.class_rules.specs.OnePass.{learner_of, printed, kept, one_pass, kept_learner}
use Rattle.class_rules.specs.Totals.{raised_by, raised_more, lines_more}
use Rattle.class_rules.proofs.OnePass.{one_pass_lem}
use Rattle.class_rules.proofs.Totals.{sums_totals}
use Rattle.class.specs.StillPrinted.{end_text, sheet_text, length_text, turn_text, learner_text, entries_text, count_text, report_from}
use Rattle.class.specs.Steps.{begun}

-- The lines of a class by one pass from a pending entry on, and the last line with the sums as a tally has them.
text_by : List Entry → Tally → Class → List ℕ
text_by pending t c = let es = one_pass pending c.entries in entry_lines es ++ last_line (raised_by t es) c.stop

-- an entry prints what it makes come of the pending one, and then what follows
followed-text : (pending : List Entry) (t : Tally) (e : Entry) (c : Class)
    → entry_lines (printed pending e) ++ text_by (kept pending e ∷ []) (raised_by t (printed pending e)) c
    ≡ text_by pending t (followed e c)
unfolding text_by one_pass
followed-text pending t e c =
    let a = printed pending e in
    let b = one_pass (kept pending e ∷ []) c.entries in
    rw (lines_more a b, raised_more t a b) (sym (append_assoc (entry_lines a) (entry_lines b) _))

module _ (pending : List Entry) (t : Tally) where
  -- a number that stops both, or what follows in both
  met-text : (r : Reading) (f : ℕ → ℕ → List ℕ) (g : ℕ → ℕ → Class) → ((v n : ℕ) → f v n ≡ text_by pending t (g v n))
      → met r (end_text pending t) f ≡ text_by pending t (met r stopped g)
  unfolding met end_text text_by one_pass
  met-text (Ok (v, n)) f g h = h v n
  met-text (Err (Bad n)) f g h = refl
  met-text (Err CutShort) f g h = refl

  -- a check that stops both, or what follows in both
  check-text : (f : Formula) (stop : ℕ) (x : List ℕ) (c : Class) → x ≡ text_by pending t c
      → choose f x (end_text pending t stop) ≡ text_by pending t (choose f c (stopped stop))
  unfolding end_text text_by one_pass
  check-text f stop x c e = go (decide f)
    where
      go : Case f → choose f x (end_text pending t stop) ≡ text_by pending t (choose f c (stopped stop))
      go (it_does h) = rw (passes f h) e
      go (it_does_not n) = rw (fails f n) refl

-- From a place on, what is printed are the lines of the class that stands there.
entries_text_lem : (file : List ℕ) (left at : ℕ) (pending : List Entry) (t : Tally)
    → entries_text file left at pending t ≡ text_by pending t (entries_at file left at (learner_of pending))
unfolding entries_text entries_at learner_text turn_text length_text sheet_text end_text text_by one_pass learner_of
entries_text_lem file zero at pending t = refl
entries_text_lem file (suc left) at pending t =
    met-text pending t _ _ _ (λ learner a.
    met-text pending t _ _ _ (λ turn b.
    met-text pending t _ _ _ (λ size c.
    check-text pending t (fits file c size) 22 _ _
    (check-text pending t (learner_of pending ≼ learner) 23 _ _
    (entry (record { learner = learner; turn = turn; sheet = sheet_at file c size }) (c + size) (entries_text_lem file left))))))
  where
    entry : (e : Entry) (next : ℕ)
        → ((n : ℕ) (p : List Entry) (u : Tally) → entries_text file left n p u ≡ text_by p u (entries_at file left n (learner_of p)))
        → entry_lines (printed pending e) ++ entries_text file left next (kept pending e ∷ []) (raised_by t (printed pending e))
        ≡ text_by pending t (followed e (entries_at file left next e.learner))
    entry e next so =
        let u = raised_by t (printed pending e) in
        ap (λ (l : List ℕ). entry_lines (printed pending e) ++ l)
        (so next (kept pending e ∷ []) u
        ∙ ap (λ (n : ℕ). text_by (kept pending e ∷ []) u (entries_at file left next n)) (kept_learner pending e))
        ∙ followed-text pending t e (entries_at file left next e.learner)

-- The theorem: from the start that is the report.
pub begun-report : (file : List ℕ) → report_from file 0 begun ≡ report file
unfolding report_from begun report count_text class_of text_by learner_of
begun-report file =
    ap (λ (x : List ℕ). head ++ x)
    (met-text [] no_counts (read_at limit32 file 0) _ _ (λ v n. entries_text_lem file v n [] no_counts)
    ∙ rw (one_pass_lem file, sums_totals file) refl)
