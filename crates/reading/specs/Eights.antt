-- Looking for a place by a test, eight places at a time: R i b says that b is what the test may answer at i.
use Rattle.std.specs.Prelude.{ℕ, ◌+◌, ◌≤◌, ◌<◌, ◌≡◌, Bool, true, false, Option, Some, None, MatchBool, MatchOption, unwrap_or}
use Rattle.std.proofs.Common.{arith, sym, ◌∙◌, length, get_or}
use Rattle.std.proofs.lemmas.List.FromFn.{get_or-range_with_len}
use Rattle.std.specs.List.{HoldsAt, AllWithin, range_with_len}
use Rattle.rules.specs.Formula.{Formula, test, Formula.some}
use Rattle.reading.specs.TestLaws.{right, wrong}
use Rattle.rules.specs.FormulaLaws.{passed, failed}

-- one of the eight places from b on passes, or none does
unfoldable pub OneOfEight : (ℕ → Bool → Type 0) → ℕ → Bool → Type 0
OneOfEight R b r = MatchBool r ((k : ℕ) × (k < 8) × R (b + k) true) ((k : ℕ) → k < 8 → R (b + k) false)

-- no place from b on and before e passes
abbrev pub NoneBy : (ℕ → Bool → Type 0) → (b e : ℕ) → Type 0
NoneBy R b e = (i : ℕ) → b ≤ i → i < e → R i false

-- the first place from b on and before e that passes, or none does
unfoldable pub NextBy : (ℕ → Bool → Type 0) → (b e : ℕ) → Option ℕ → Type 0
NextBy R b e r = MatchOption r (NoneBy R b e) (λ q. (b ≤ q) × (q < e) × NoneBy R b q × R q true)

-- a fact about the place before e that was found, or about e where there is none
unfoldable pub OrEnd : (ℕ → Type 0) → ℕ → Option ℕ → Type 0
OrEnd P e r = MatchOption r (P e) (λ q. P q × (q < e))

pub or_end : (P : ℕ → Type 0) (e : ℕ) (r : Option ℕ) → OrEnd P e r → P (unwrap_or r e)
unfolding OrEnd
or_end P e None x = x
or_end P e (Some q) x = x.0

-- what is told by a number is told by none where that is the end
pub none_at_end : (P : ℕ → Type 0) (e q : ℕ) → q ≤ e → e ≤ q → P q → OrEnd P e None
unfolding OrEnd
none_at_end P e q l m x =
    let is : q ≡ e = omega arith in
    rw is at x

pub before_end : (P : ℕ → Type 0) (e : ℕ) (r : Option ℕ) (q : ℕ) → r ≡ Some q → OrEnd P e r → P q × (q < e)
unfolding OrEnd
before_end P e r q is x = rw is at x

pub or_end_so : (P Q : ℕ → Type 0) (e : ℕ) (r : Option ℕ) → ((q : ℕ) → q ≤ e → P q → Q q) → OrEnd P e r → OrEnd Q e r
unfolding OrEnd
or_end_so P Q e None f x = f e (omega arith) x
or_end_so P Q e (Some q) f x = let l = x.1 in (f q (omega arith) x.0, l)

-- where the test answers what a formula says
pub one_of_eight : (R : ℕ → Bool → Type 0) (f : ℕ → Formula) (b : ℕ) (r : Bool) → OneOfEight R b r
    → ((i : ℕ) (c : Bool) → R i c → c ≡ test (f i)) → r ≡ test (some 8 (λ k. f (b + k)))
unfolding OneOfEight
one_of_eight R f b true h t = right _ (h.0, h.1, passed _ (sym (t (b + h.0) true h.2)))
one_of_eight R f b false h t = wrong _ (λ x. failed _ (sym (t (b + x.0) false (h x.0 x.1))) x.2)

-- what `any` answers over the numbers below eight
pub any_below_eight : (R : ℕ → Bool → Type 0) (b : ℕ) (r : Bool)
    → MatchBool r
    ((k : ℕ) × (k < length (range_with_len 0 8)) × HoldsAt (λ k. R (b + k) true) (range_with_len 0 8) k)
    (AllWithin (λ k. R (b + k) false) (range_with_len 0 8) 0 (length (range_with_len 0 8)))
    → OneOfEight R b r
unfolding OneOfEight
any_below_eight R b r h = go r h
  where
    at : (k : ℕ) → k < 8 → get_or (range_with_len 0 8) k 0 ≡ k
    at k l = get_or-range_with_len 0 8 k 0 l ∙ omega arith

    go : (r : Bool)
        → MatchBool r
        ((k : ℕ) × (k < length (range_with_len 0 8)) × HoldsAt (λ k. R (b + k) true) (range_with_len 0 8) k)
        (AllWithin (λ k. R (b + k) false) (range_with_len 0 8) 0 (length (range_with_len 0 8)))
        → OneOfEight R b r
    go true h = (h.0, h.1, rw (at h.0 h.1) at (h.2 0))
    go false h = λ k l. rw (at k l) at (h k 0 (omega arith) l)
