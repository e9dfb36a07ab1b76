-- Laws of a sheet's answers, one for each case, and that steps past the sheet's length change nothing.
use Prim.Native.Nat.{ℕ, zero, suc, ◌+◌, ◌≤◌, ◌<◌}
use Rattle.std.specs.Prelude.{List, [], ◌∷◌, ◌≡◌, length}
use Rattle.std.proofs.Math.Path.{refl}
use Rattle.std.proofs.Common.{ap, sym, ◌∙◌, arith}
use Rattle.session.specs.Table.{Session}
use Rattle.rules.specs.Formula.{Holds, not, Formula.◌≐◌, Formula.◌≼◌}
use Rattle.rules.specs.FormulaLaws.{Case, decide, choose_yes, choose_no, Case.it_does, Case.it_does_not}
use Rattle.rules.specs.Sound.{sound}
use Rattle.rules.specs.Step.{step}
use Rattle.record.specs.RecordReading.{record_at}
use Rattle.record.specs.RecordRoundTrip.{record_forward}
use Rattle.record.specs.Sheet.{head_refusal, first_record}
use Rattle.sheet.specs.RunLaws.{below}
use Rattle.sheet_counts.specs.Answers.{Answered, answered, answer_to, answers_from, answers_on}

-- the answers from a place on, one law for each case
module _ (sheet : List ℕ) (at k : ℕ) (s : Session) where
  pub answers-end : (n : ℕ) → length sheet ≤ at → answers_from sheet n at k s ≡ []
  unfolding answers_from
  answers-end zero h = refl
  answers-end (suc n) h = choose_yes (length sheet ≼ at) _ _ h

  module _ (n : ℕ) (before : at < length sheet) where
    begun : length sheet ≤ at → ⊥
    begun h = omega arith

    pub answers-unsound : (Holds (sound s) → ⊥) → answers_from sheet (suc n) at k s ≡ answered (k + 1) 2 0 0 ∷ []
    unfolding answers_from
    answers-unsound unmet = choose_no (length sheet ≼ at) _ _ begun ∙ choose_yes (not (sound s)) _ _ unmet

    module _ (is : Holds (sound s)) where
      pub answers-refused : ((record_at sheet at).refused ≡ 0 → ⊥)
          → answers_from sheet (suc n) at k s ≡ answered (k + 1) (record_at sheet at).refused 0 0 ∷ []
      unfolding answers_from
      answers-refused unmet =
          choose_no (length sheet ≼ at) _ _ begun ∙ choose_no (not (sound s)) _ _ (λ f. f is)
          ∙ choose_yes (not ((record_at sheet at).refused ≐ 0)) _ _ unmet

      pub answers_on_lem : (record_at sheet at).refused ≡ 0
          → answers_from sheet (suc n) at k s
          ≡ answer_to k s (record_at sheet at).operation
          ∷ answers_from sheet n (record_at sheet at).next (k + 1) (step s (record_at sheet at).operation).leaves
      unfolding answers_from
      answers_on_lem z =
          choose_no (length sheet ≼ at) _ _ begun ∙ choose_no (not (sound s)) _ _ (λ f. f is)
          ∙ choose_no (not ((record_at sheet at).refused ≐ 0)) _ _ (λ f. f z)

-- as many answers as in another number of steps
abbrev Same : List ℕ → ℕ → ℕ → ℕ → ℕ → Session → Type 0
Same sheet n m at k s = answers_from sheet n at k s ≡ answers_from sheet m at k s

abbrev Again : List ℕ → ℕ → ℕ → Type 0
Again sheet n m = (at k : ℕ) (s : Session) → length sheet ≤ n + at → length sheet ≤ m + at → Same sheet n m at k s

-- Each record takes a byte at least, so that the sheet's length is steps enough.
pub answers_enough : (sheet : List ℕ) (n m : ℕ) → Again sheet n m
answers_enough sheet zero m at k s hn hm =
    answers-end sheet at k s zero (omega arith) ∙ sym (answers-end sheet at k s m (omega arith))
answers_enough sheet (suc n) zero at k s hn hm =
    answers-end sheet at k s (suc n) (omega arith) ∙ sym (answers-end sheet at k s zero (omega arith))
answers_enough sheet (suc n) (suc m) at k s hn hm = ends (decide (length sheet ≼ at)) (answers_enough sheet n m)
  where
    reads : at < length sheet → Holds (sound s) → Case ((record_at sheet at).refused ≐ 0) → Again sheet n m
        → Same sheet (suc n) (suc m) at k s
    reads b i (it_does_not unmet) again =
        answers-refused sheet at k s n b i unmet ∙ sym (answers-refused sheet at k s m b i unmet)
    reads b i (it_does z) again =
        let f = (record_forward sheet at z).onward in
        let a = answer_to k s (record_at sheet at).operation in
        answers_on_lem sheet at k s n b i z
        ∙ ap (λ (l : List Answered). a ∷ l) (again _ _ _ (omega arith) (omega arith))
        ∙ sym (answers_on_lem sheet at k s m b i z)

    sounds : at < length sheet → Case (sound s) → Again sheet n m → Same sheet (suc n) (suc m) at k s
    sounds b (it_does_not unmet) again = answers-unsound sheet at k s n b unmet ∙ sym (answers-unsound sheet at k s m b unmet)
    sounds b (it_does i) again = reads b i (decide ((record_at sheet at).refused ≐ 0)) again

    ends : Case (length sheet ≼ at) → Again sheet n m → Same sheet (suc n) (suc m) at k s
    ends (it_does h) again = answers-end sheet at k s (suc n) h ∙ sym (answers-end sheet at k s (suc m) h)
    ends (it_does_not unmet) again = sounds (below sheet at unmet) (decide (sound s)) again

-- the cases of a whole sheet on a sound session
module _ (sheet : List ℕ) (s : Session) (is : Holds (sound s)) where
  pub answers-head : (head_refusal sheet ≡ 0 → ⊥) → answers_on sheet s ≡ answered 0 (head_refusal sheet) 0 0 ∷ []
  unfolding answers_on
  answers-head unmet = choose_no (not (sound s)) _ _ (λ f. f is) ∙ choose_yes (not (head_refusal sheet ≐ 0)) _ _ unmet

  pub answers_records : head_refusal sheet ≡ 0 → answers_on sheet s ≡ answers_from sheet (length sheet) (first_record sheet) 0 s
  unfolding answers_on
  answers_records z = choose_no (not (sound s)) _ _ (λ f. f is) ∙ choose_no (not (head_refusal sheet ≐ 0)) _ _ (λ f. f z)
