-- Laws of what is printed, one for each case, and that steps past the sheet's length change nothing.
use Prim.Native.Nat.{ℕ, zero, suc, ◌+◌, ◌≤◌, ◌<◌}
use Rattle.std.specs.Prelude.{List, [], ◌≡◌, length}
use Rattle.std.proofs.Math.Path.{refl}
use Rattle.std.proofs.Common.{ap, sym, ◌∙◌, arith}
use Rattle.lines.specs.Line.{line}
use Rattle.session.specs.Table.{Session}
use Rattle.rules.specs.Formula.{Holds, not, Formula.◌≐◌, Formula.◌≼◌}
use Rattle.rules.specs.FormulaLaws.{Case, decide, choose_yes, choose_no, Case.it_does, Case.it_does_not}
use Rattle.rules.specs.Sound.{sound}
use Rattle.rules.specs.Step.{step}
use Rattle.record.specs.RecordReading.{record_at}
use Rattle.record.specs.RecordRoundTrip.{record_forward}
use Rattle.record.specs.Sheet.{head_refusal, first_record}
use Rattle.sheet.specs.SheetPrinted.{prints, after, print_from, print_sheet, print_at}
use Rattle.sheet.specs.RunLaws.{below}

module _ (sheet : List ℕ) (at k : ℕ) (s : Session) where
  -- the sheet's end
  pub print_end : (n : ℕ) → length sheet ≤ at → print_from sheet n at k s ≡ prints [] s
  unfolding print_from
  print_end zero h = refl
  print_end (suc n) h = choose_yes (length sheet ≼ at) _ _ h

  module _ (n : ℕ) (before : at < length sheet) where
    begun : length sheet ≤ at → ⊥
    begun h = omega arith

    pub print_unsound : (Holds (sound s) → ⊥) → print_from sheet (suc n) at k s ≡ prints (line (k + 1) 2 0) s
    unfolding print_from
    print_unsound unmet = choose_no (length sheet ≼ at) _ _ begun ∙ choose_yes (not (sound s)) _ _ unmet

    module _ (is : Holds (sound s)) where
      -- a record that is refused as it is read
      pub print_refused : ((record_at sheet at).refused ≡ 0 → ⊥)
          → print_from sheet (suc n) at k s ≡ prints (line (k + 1) (record_at sheet at).refused 0) s
      unfolding print_from
      print_refused unmet =
          choose_no (length sheet ≼ at) _ _ begun ∙ choose_no (not (sound s)) _ _ (λ f. f is)
          ∙ choose_yes (not ((record_at sheet at).refused ≐ 0)) _ _ unmet

      -- one more record
      pub print_on : (record_at sheet at).refused ≡ 0
          → print_from sheet (suc n) at k s
          ≡ after (line (k + 1) (step s (record_at sheet at).operation).refused (step s (record_at sheet at).operation).made)
          (print_from sheet n (record_at sheet at).next (k + 1) (step s (record_at sheet at).operation).leaves)
      unfolding print_from
      print_on z =
          choose_no (length sheet ≼ at) _ _ begun ∙ choose_no (not (sound s)) _ _ (λ f. f is)
          ∙ choose_no (not ((record_at sheet at).refused ≐ 0)) _ _ (λ f. f z)

-- as much as in another number of steps
abbrev Same : List ℕ → ℕ → ℕ → ℕ → ℕ → Session → Type 0
Same sheet n m at k s = print_from sheet n at k s ≡ print_from sheet m at k s

abbrev Again : List ℕ → ℕ → ℕ → Type 0
Again sheet n m = (at k : ℕ) (s : Session) → length sheet ≤ n + at → length sheet ≤ m + at → Same sheet n m at k s

-- Each record takes a byte at least, so that the sheet's length is steps enough.
pub prints_enough : (sheet : List ℕ) (n m : ℕ) → Again sheet n m
prints_enough sheet zero m at k s hn hm = print_end sheet at k s zero (omega arith) ∙ sym (print_end sheet at k s m (omega arith))
prints_enough sheet (suc n) zero at k s hn hm =
    print_end sheet at k s (suc n) (omega arith) ∙ sym (print_end sheet at k s zero (omega arith))
prints_enough sheet (suc n) (suc m) at k s hn hm = ends (decide (length sheet ≼ at)) (prints_enough sheet n m)
  where
    reads : at < length sheet → Holds (sound s) → Case ((record_at sheet at).refused ≐ 0) → Again sheet n m
        → Same sheet (suc n) (suc m) at k s
    reads b i (it_does_not unmet) again = print_refused sheet at k s n b i unmet ∙ sym (print_refused sheet at k s m b i unmet)
    reads b i (it_does z) again =
        let f = (record_forward sheet at z).onward in
        let x = line (k + 1) (step s (record_at sheet at).operation).refused (step s (record_at sheet at).operation).made in
        print_on sheet at k s n b i z ∙ ap (after x) (again _ _ _ (omega arith) (omega arith))
        ∙ sym (print_on sheet at k s m b i z)

    sounds : at < length sheet → Case (sound s) → Again sheet n m → Same sheet (suc n) (suc m) at k s
    sounds b (it_does_not unmet) again = print_unsound sheet at k s n b unmet ∙ sym (print_unsound sheet at k s m b unmet)
    sounds b (it_does i) again = reads b i (decide ((record_at sheet at).refused ≐ 0)) again

    ends : Case (length sheet ≼ at) → Again sheet n m → Same sheet (suc n) (suc m) at k s
    ends (it_does h) again = print_end sheet at k s (suc n) h ∙ sym (print_end sheet at k s (suc m) h)
    ends (it_does_not unmet) again = sounds (below sheet at unmet) (decide (sound s)) again

-- the cases of a whole sheet
module _ (sheet : List ℕ) (s : Session) where
  pub print_none : (Holds (sound s) → ⊥) → print_sheet sheet s ≡ prints (line 0 2 0) s
  unfolding print_sheet
  print_none unmet = choose_yes (not (sound s)) _ _ unmet

  module _ (is : Holds (sound s)) where
    pub print_head : (head_refusal sheet ≡ 0 → ⊥) → print_sheet sheet s ≡ prints (line 0 (head_refusal sheet) 0) s
    unfolding print_sheet
    print_head unmet = choose_no (not (sound s)) _ _ (λ f. f is) ∙ choose_yes (not (head_refusal sheet ≐ 0)) _ _ unmet

    pub print_records : head_refusal sheet ≡ 0 → print_sheet sheet s ≡ print_from sheet (length sheet) (first_record sheet) 0 s
    unfolding print_sheet
    print_records z = choose_no (not (sound s)) _ _ (λ f. f is) ∙ choose_no (not (head_refusal sheet ≐ 0)) _ _ (λ f. f z)

-- the lines from a place on
module _ (sheet : List ℕ) (k : ℕ) (s : Session) where
  pub print_start : print_at sheet 0 k s ≡ print_sheet sheet s
  unfolding print_at
  print_start = choose_yes (0 ≐ 0) (print_sheet sheet s) _ refl

  pub print_behind : (at : ℕ) → (at ≡ 0 → ⊥) → print_at sheet at k s ≡ print_from sheet (length sheet) at k s
  unfolding print_at
  print_behind at f = choose_no (at ≐ 0) (print_sheet sheet s) _ f
