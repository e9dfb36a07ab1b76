-- "bytes after the last sheet are not read": they change nothing in the report.
use Prim.Native.Nat.{ℕ, zero, suc, ◌+◌, ◌≤◌, ◌<◌}
use mathlib.Core.List.{List, [], ◌∷◌, ◌++◌}
use Rattle.std.specs.Prelude.{◌≡◌, Ok}
use Rattle.std.proofs.Math.Path.{refl, ap}
use Rattle.std.proofs.Common.{sym, ◌∙◌, arith}
use Rattle.std.proofs.Math.ListN.{length, drop, length-append, length-drop}
use Rattle.std.proofs.Math.Seq.{take-append-le, drop-append-le}
use Rattle.number.specs.Number.{limit32, more, first, read_at}
use Rattle.number.specs.Encode.{Groups, one, several, groups}
use Rattle.number.specs.Decode.{more_last, more_on}
use Rattle.number.specs.NumberCases.{At, good, reading_as, judged-value, read_ends}
use Rattle.number.specs.NumberRoundTrip.{value-next}
use Rattle.rules.specs.Formula.{Formula, Holds, choose, Formula.◌≼◌}
use Rattle.rules.specs.FormulaLaws.{choose_yes, choose_case}
use Rattle.class_rules.specs.Report.{Class, stopped, followed, met, fits, sheet_at, entries_at, class_of, counted, head}
use Rattle.class_rules.specs.Report.{entry_lines, totals, last_line, report}
use Rattle.class_rules.specs.Entries.{met_case}

-- a number that ends in some bytes ends there whatever follows
more-behind : (xs ys : List ℕ) → more xs < length xs → more (xs ++ ys) ≡ more xs
more-behind [] ys h = absurd (omega arith)
more-behind (b ∷ bs) ys h = go (groups b) (more-behind bs ys)
  where
    go : Groups b → (more bs < length bs → more (bs ++ ys) ≡ more bs) → more (b ∷ (bs ++ ys)) ≡ more (b ∷ bs)
    go (one l) ih = more_last b (bs ++ ys) l ∙ sym (more_last b bs l)
    go (several l) ih = more_on b (bs ++ ys) l ∙ ap suc (ih (omega (arith, more_on b bs l))) ∙ sym (more_on b bs l)

-- where a choice does not stop, it is made behind the same if what it chooses is
choose-behind : (f f' : Formula) (n : ℕ) (c c' : Class) → 1 ≤ n → (Holds f → Holds f') → (Holds f → c.stop ≡ 0 → c' ≡ c)
    → (choose f c (stopped n)).stop ≡ 0 → choose f' c' (stopped n) ≡ choose f c (stopped n)
choose-behind f f' n c c' l to same =
    choose_case (λ x. x.stop ≡ 0 → choose f' c' (stopped n) ≡ x) f c (stopped n)
    (λ h z. choose_yes f' c' (stopped n) (to h) ∙ same h z) (λ _ z. absurd (omega arith))

module _ (file after : List ℕ) where
  -- and is read as it is without that
  read_behind : (at v next : ℕ) → at ≤ length file → read_at limit32 file at ≡ Ok (v, next)
      → read_at limit32 (file ++ after) at ≡ Ok (v, next)
  read_behind at v next inside e = go v next (reading_as limit32 file at (Ok (v, next)) e)
    where
      d : drop at (file ++ after) ≡ drop at file ++ after
      d = drop-append-le at file after inside

      go : (v next : ℕ) → At limit32 file at (Ok (v, next)) → read_at limit32 (file ++ after) at ≡ Ok (v, next)
      go v next (good l s h) =
          let m : more (drop at file ++ after) ≡ more (drop at file) = more-behind (drop at file) after l in
          read_ends limit32 (file ++ after) at (rw (d, m) (omega (arith, length-append (drop at file) after)))
          ∙ rw (d, m, take-append-le (suc (more (drop at file))) (drop at file) after l)
          (judged-value limit32 (first (drop at file)) (at + suc (more (drop at file))) s h)

  -- a number that does not stop, and what follows it
  met-behind : (a : ℕ) (g g' : ℕ → ℕ → Class) → a ≤ length file → ((v n : ℕ) → n ≤ length file → (g v n).stop ≡ 0 → g' v n ≡ g v n)
      → (met (read_at limit32 file a) stopped g).stop ≡ 0
      → met (read_at limit32 (file ++ after) a) stopped g' ≡ met (read_at limit32 file a) stopped g
  unfolding met
  met-behind a g g' inside same =
      met_case (λ c. c.stop ≡ 0 → met (read_at limit32 (file ++ after) a) stopped g' ≡ c) (read_at limit32 file a) g
      (λ z. absurd (omega arith)) (λ z. absurd (omega arith))
      (λ v n e z. rw (read_behind a v n inside e) (same v n (value-next limit32 file a v n e).2 z))

  -- the entries, one after the other
  entries_behind : (left at before : ℕ) → at ≤ length file → (entries_at file left at before).stop ≡ 0
      → entries_at (file ++ after) left at before ≡ entries_at file left at before
  unfolding entries_at
  entries_behind zero at before inside = λ _. refl
  entries_behind (suc left) at before inside =
      met-behind at _ _ inside (λ learner a in-a.
      met-behind a _ _ in-a (λ turn b in_b.
      met-behind b _ _ in_b (λ size c in_c.
      let d : drop c (file ++ after) ≡ drop c file ++ after = drop-append-le c file after in_c in
      let all : List ℕ → Class = λ bytes.
      followed (record { learner = learner; turn = turn; sheet = sheet_at bytes c size })
      (entries_at bytes left (c + size) learner) in
      choose-behind (fits file c size) (fits (file ++ after) c size) 22 _ _ (omega arith)
      (λ h. (h.0, omega (arith, h.1, ap length d, length-append (drop c file) after)))
      (λ h. choose-behind (before ≼ learner) (before ≼ learner) 23 (all file) (all (file ++ after)) (omega arith) (λ up. up)
      (λ _ z.
      rw (
        d,
        take-append-le size (drop c file) after h.1,
        entries_behind left (c + size) learner (omega (arith, h.1, length-drop c file)) z,
      ))))))

  -- The theorem: where the report does not stop, bytes after the last sheet change nothing.
  pub not-read : (class_of file).stop ≡ 0 → report (file ++ after) ≡ report file
  unfolding class_of report
  not-read z =
      ap (λ (c : Class). head ++ entry_lines (counted c) ++ last_line (totals (counted c)) c.stop)
      (met-behind 0 _ _ (omega arith) (λ count at inside. entries_behind count at 0 inside) z)
