-- A whole sheet from a fresh session: its first number refused, or its records.
use Rattle.std.specs.Prelude.{ℕ, List, [], ◌∷◌, ◌≡◌, refl}
use Rattle.std.proofs.Math.Path.{ap}
use Rattle.session.specs.Table.{Wrote, read}
use Rattle.session.specs.TableLaws.{wrote_none}
use Rattle.session.specs.Fresh.{fresh_session}
use Rattle.rules.specs.Formula.{Holds, not, Formula.◌≐◌, Formula.◌and◌}
use Rattle.rules.specs.FormulaLaws.{choose_yes, choose_no}
use Rattle.rules.specs.Sound.{sound, kept}
use Rattle.record.specs.RecordReading.{Behind, Refused}
use Rattle.record.specs.Sheet.{head_refusal, head_at}
use Rattle.laws.specs.FreshKept.{fresh_kept}
use Rattle.laws.specs.ByName.{kept-sound}
use Rattle.sheet.specs.WholeSheet.{head_first, head-number}
use Rattle.sheet.specs.SheetPrinted.{Printed, print_sheet}
use Rattle.sheet.specs.PrintLaws.{print_head, print_records}
use Rattle.sheet_counts.specs.Answers.{answered, is_refused, is_start, how_many, counts_in, counts_of}
use Rattle.sheet_counts.specs.AnswerCases.{answers-head, answers_records}
use Rattle.sheet_counts.specs.CountingRun.{tally_of, left_from, counts_from}

pub fresh-sound : Holds (sound fresh_session)
fresh-sound = kept-sound fresh_session fresh_kept

pub fresh_keeps : (ws : List ℕ) → read ws ≡ fresh_session → Holds (kept (read ws))
fresh_keeps ws e = rw e fresh_kept

-- one answer, which is refused and no start
one-refused : (n : ℕ) → (n ≡ 0 → ⊥)
    → (how_many is_refused (answered 0 n 0 0 ∷ []) ≡ 1) × (how_many is_start (answered 0 n 0 0 ∷ []) ≡ 0)
unfolding how_many
one-refused n f = (choose_yes (not (n ≐ 0)) 1 0 f, choose_no (0 ≐ 11 and n ≐ 0) 1 0 (λ h. f h.1))

module _ (sheet ws : List ℕ) (fresh : read ws ≡ fresh_session) where
  pub whole-refused : (n : ℕ) → head_at sheet ≡ Refused n
      → (tally_of 1 1 0 (read ws) ≡ counts_of sheet) × Wrote ws ws (print_sheet sheet fresh_session).session
  unfolding counts_of counts_in
  whole-refused n e =
      let f = (head-number sheet n e).1 in
      let o = one-refused (head_refusal sheet) f in
      let s = ap (λ (p : Printed). p.session) (print_head sheet fresh_session fresh-sound f) in
      (rw (answers-head sheet fresh_session fresh-sound f, s, o.0, o.1, fresh), rw (s, ← fresh) (wrote_none ws))

  pub whole-behind : (first : ℕ) → head_at sheet ≡ Behind first
      → (counts_from sheet first (read ws) ≡ counts_of sheet)
      × (left_from sheet first (read ws) ≡ (print_sheet sheet fresh_session).session)
  unfolding counts_of counts_from left_from
  whole-behind first e =
      let h = head_first sheet first e in
      let a = answers_records sheet fresh_session fresh-sound h.0 in
      let p = print_records sheet fresh_session fresh-sound h.0 in
      rw (fresh, h.1, a, p) (refl, refl)
