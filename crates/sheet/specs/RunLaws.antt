-- Laws of a run, one for each case, and that steps past the sheet's length change nothing.
use Prim.Native.Nat.{ℕ, zero, suc, ◌+◌, ◌≤◌, ◌<◌}
use Rattle.std.specs.Prelude.{List, ◌≡◌, length}
use Rattle.std.proofs.Math.Path.{refl}
use Rattle.std.proofs.Common.{sym, ◌∙◌, arith}
use Rattle.session.specs.Table.{Session}
use Rattle.rules.specs.Formula.{Holds, not, Formula.◌≐◌, Formula.◌≼◌}
use Rattle.rules.specs.FormulaLaws.{Case, decide, choose_yes, choose_no, Case.it_does, Case.it_does_not}
use Rattle.rules.specs.Sound.{sound}
use Rattle.rules.specs.Step.{step}
use Rattle.record.specs.RecordReading.{record_at}
use Rattle.record.specs.RecordRoundTrip.{record_forward}
use Rattle.record.specs.Sheet.{head_refusal, first_record}
use Rattle.sheet.specs.Run.{Lines, has_room, with_line, ended, ended_by, run_from, run_sheet, run_at}

module _ (sheet : List ℕ) (at k : ℕ) (s : Session) (l : Lines) where
  -- the sheet's end
  pub run_end : (n : ℕ) → length sheet ≤ at → run_from sheet n at k s l ≡ ended s l at k 0
  unfolding run_from
  run_end zero h = refl
  run_end (suc n) h = choose_yes (length sheet ≼ at) _ _ h

  module _ (n : ℕ) (before : at < length sheet) where
    begun : length sheet ≤ at → ⊥
    begun h = omega arith

    -- no room for a line
    pub run-full : (Holds (has_room l) → ⊥) → run_from sheet (suc n) at k s l ≡ ended s l at (k + 1) 1
    unfolding run_from
    run-full unmet = choose_no (length sheet ≼ at) _ _ begun ∙ choose_yes (not (has_room l)) _ _ unmet

    module _ (room : Holds (has_room l)) where
      pub run-unsound : (Holds (sound s) → ⊥) → run_from sheet (suc n) at k s l ≡ ended_by s l at (k + 1) 2
      unfolding run_from
      run-unsound unmet =
          choose_no (length sheet ≼ at) _ _ begun ∙ choose_no (not (has_room l)) _ _ (λ f. f room)
          ∙ choose_yes (not (sound s)) _ _ unmet

      module _ (is : Holds (sound s)) where
        -- a record that is refused as it is read
        pub run-refused : ((record_at sheet at).refused ≡ 0 → ⊥)
            → run_from sheet (suc n) at k s l ≡ ended_by s l at (k + 1) (record_at sheet at).refused
        unfolding run_from
        run-refused unmet =
            choose_no (length sheet ≼ at) _ _ begun ∙ choose_no (not (has_room l)) _ _ (λ f. f room)
            ∙ choose_no (not (sound s)) _ _ (λ f. f is)
            ∙ choose_yes (not ((record_at sheet at).refused ≐ 0)) _ _ unmet

        -- one more record
        pub run_on : (record_at sheet at).refused ≡ 0
            → run_from sheet (suc n) at k s l
            ≡ run_from sheet n (record_at sheet at).next (k + 1) (step s (record_at sheet at).operation).leaves
            (with_line l (k + 1) (step s (record_at sheet at).operation).refused (step s (record_at sheet at).operation).made)
        unfolding run_from
        run_on z =
            choose_no (length sheet ≼ at) _ _ begun ∙ choose_no (not (has_room l)) _ _ (λ f. f room)
            ∙ choose_no (not (sound s)) _ _ (λ f. f is)
            ∙ choose_no (not ((record_at sheet at).refused ≐ 0)) _ _ (λ f. f z)

-- before the sheet's end
pub below : (sheet : List ℕ) (at : ℕ) → (length sheet ≤ at → ⊥) → at < length sheet
below sheet at f = omega arith

-- as many steps as another
abbrev Same : List ℕ → ℕ → ℕ → ℕ → ℕ → Session → Lines → Type 0
Same sheet n m at k s l = run_from sheet n at k s l ≡ run_from sheet m at k s l

abbrev Again : List ℕ → ℕ → ℕ → Type 0
Again sheet n m = (at k : ℕ) (s : Session) (l : Lines) → length sheet ≤ n + at → length sheet ≤ m + at → Same sheet n m at k s l

-- "Each record takes a byte at least, so that the sheet's length is steps enough."
pub steps_enough : (sheet : List ℕ) (n m at k : ℕ) (s : Session) (l : Lines)
    → length sheet ≤ n + at
    → length sheet ≤ m + at
    → run_from sheet n at k s l ≡ run_from sheet m at k s l
steps_enough sheet zero m at k s l hn hm =
    run_end sheet at k s l zero (omega arith) ∙ sym (run_end sheet at k s l m (omega arith))
steps_enough sheet (suc n) zero at k s l hn hm =
    run_end sheet at k s l (suc n) (omega arith) ∙ sym (run_end sheet at k s l zero (omega arith))
steps_enough sheet (suc n) (suc m) at k s l hn hm =
    ends (decide (length sheet ≼ at)) (λ x q t r y z. steps_enough sheet n m x q t r y z)
  where
    reads : at < length sheet → Holds (has_room l) → Holds (sound s) → Case ((record_at sheet at).refused ≐ 0) → Again sheet n m
        → Same sheet (suc n) (suc m) at k s l
    reads b o i (it_does_not unmet) again =
        run-refused sheet at k s l n b o i unmet ∙ sym (run-refused sheet at k s l m b o i unmet)
    reads b o i (it_does z) again =
        let f = (record_forward sheet at z).onward in
        run_on sheet at k s l n b o i z ∙ again _ _ _ _ (omega arith) (omega arith) ∙ sym (run_on sheet at k s l m b o i z)

    sounds : at < length sheet → Holds (has_room l) → Case (sound s) → Again sheet n m → Same sheet (suc n) (suc m) at k s l
    sounds b o (it_does_not unmet) again = run-unsound sheet at k s l n b o unmet ∙ sym (run-unsound sheet at k s l m b o unmet)
    sounds b o (it_does i) again = reads b o i (decide ((record_at sheet at).refused ≐ 0)) again

    rooms : at < length sheet → Case (has_room l) → Again sheet n m → Same sheet (suc n) (suc m) at k s l
    rooms b (it_does_not unmet) again = run-full sheet at k s l n b unmet ∙ sym (run-full sheet at k s l m b unmet)
    rooms b (it_does o) again = sounds b o (decide (sound s)) again

    ends : Case (length sheet ≼ at) → Again sheet n m → Same sheet (suc n) (suc m) at k s l
    ends (it_does h) again = run_end sheet at k s l (suc n) h ∙ sym (run_end sheet at k s l (suc m) h)
    ends (it_does_not unmet) again = rooms (below sheet at unmet) (decide (has_room l)) again

-- the cases of a whole sheet
module _ (sheet : List ℕ) (s : Session) (l : Lines) where
  module _ (room : Holds (has_room l)) where
    pub sheet_unsound : (Holds (sound s) → ⊥) → run_sheet sheet s l ≡ ended_by s l 0 0 2
    unfolding run_sheet
    sheet_unsound unmet = choose_no (not (has_room l)) _ _ (λ f. f room) ∙ choose_yes (not (sound s)) _ _ unmet

    pub sheet_refused : Holds (sound s) → (head_refusal sheet ≡ 0 → ⊥) → run_sheet sheet s l ≡ ended_by s l 0 0 (head_refusal sheet)
    unfolding run_sheet
    sheet_refused is unmet =
        choose_no (not (has_room l)) _ _ (λ f. f room) ∙ choose_no (not (sound s)) _ _ (λ f. f is)
        ∙ choose_yes (not (head_refusal sheet ≐ 0)) _ _ unmet

    pub sheet_runs : Holds (sound s) → head_refusal sheet ≡ 0
        → run_sheet sheet s l ≡ run_from sheet (length sheet) (first_record sheet) 0 s l
    unfolding run_sheet
    sheet_runs is z =
        choose_no (not (has_room l)) _ _ (λ f. f room) ∙ choose_no (not (sound s)) _ _ (λ f. f is)
        ∙ choose_no (not (head_refusal sheet ≐ 0)) _ _ (λ f. f z)

-- a sheet from a place on
module _ (sheet : List ℕ) (k : ℕ) (s : Session) (l : Lines) where
  pub run-start : run_at sheet 0 k s l ≡ run_sheet sheet s l
  unfolding run_at
  run-start = choose_yes (0 ≐ 0) (run_sheet sheet s l) _ refl

  pub run-behind : (at : ℕ) → (at ≡ 0 → ⊥) → run_at sheet at k s l ≡ run_from sheet (length sheet) at k s l
  unfolding run_at
  run-behind at f = choose_no (at ≐ 0) (run_sheet sheet s l) _ f
