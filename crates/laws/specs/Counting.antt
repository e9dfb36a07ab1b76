-- How many places a formula holds at, where it is compared with another one or the places grow by one.
use Rattle.std.specs.Prelude.{ℕ, zero, suc, ◌+◌, ◌≤◌, ◌<◌, ◌≡◌, refl}
use Rattle.std.proofs.Common.{◌∙◌, arith, add-one}
use Rattle.rules.specs.Formula.{Formula, Holds, count}
use Rattle.rules.specs.FormulaLaws.{Case, decide, choose_yes, choose_no, Case.it_does, Case.it_does_not}
use Rattle.laws.specs.Places.{Places, places, Places.one, Places.two}

-- the last place counts or does not
pub count_yes : (n : ℕ) (f : ℕ → Formula) → Holds (f n) → count (suc n) f ≡ 1 + count n f
unfolding count
count_yes n f h = choose_yes (f n) (1 + count n f) (count n f) h

pub count_no : (n : ℕ) (f : ℕ → Formula) → (Holds (f n) → ⊥) → count (suc n) f ≡ count n f
unfolding count
count_no n f h = choose_no (f n) (1 + count n f) (count n f) h

-- the same with the count of places as the rules write it
pub count_next_yes : (n : ℕ) (f : ℕ → Formula) → Holds (f n) → count (n + 1) f ≡ 1 + count n f
count_next_yes n f h = rw add-one (count_yes n f h)

pub count_next_no : (n : ℕ) (f : ℕ → Formula) → (Holds (f n) → ⊥) → count (n + 1) f ≡ count n f
count_next_no n f h = rw add-one (count_no n f h)

-- a formula that holds nowhere
pub count_none : (n : ℕ) (f : ℕ → Formula) → ((i : ℕ) → i < n → Holds (f i) → ⊥) → count n f ≡ 0
unfolding count
count_none zero f h = refl
count_none (suc n) f h = count_no n f (h n (omega arith)) ∙ count_none n f (λ i l. h i (omega arith))

-- a formula holds at no more places than there are
pub count_most : (n : ℕ) (f : ℕ → Formula) → count n f ≤ n
unfolding count
count_most zero f = omega arith
count_most (suc n) f = go (decide (f n)) (count_most n f)
  where
    go : Case (f n) → count n f ≤ n → count (suc n) f ≤ suc n
    go (it_does x) l = rw (count_yes n f x) (omega arith)
    go (it_does_not x) l = rw (count_no n f x) (omega arith)

-- what holds at more places has the larger count
pub count-more : (n : ℕ) (f g : ℕ → Formula) → ((i : ℕ) → i < n → Holds (f i) → Holds (g i)) → count n f ≤ count n g
unfolding count
count-more zero f g h = omega arith
count-more (suc n) f g h = go (decide (f n)) (decide (g n)) (count-more n f g (λ i l. h i (omega arith)))
  where
    go : Case (f n) → Case (g n) → count n f ≤ count n g → count (suc n) f ≤ count (suc n) g
    go (it_does x) (it_does y) l = rw (count_yes n f x, count_yes n g y) (omega arith)
    go (it_does x) (it_does_not y) l = absurd (y (h n (omega arith) x))
    go (it_does_not x) (it_does y) l = rw (count_no n f x, count_yes n g y) (omega arith)
    go (it_does_not x) (it_does_not y) l = rw (count_no n f x, count_no n g y) l

pub count_same : (n : ℕ) (f g : ℕ → Formula) → ((i : ℕ) → i < n → Holds (f i) → Holds (g i))
    → ((i : ℕ) → i < n → Holds (g i) → Holds (f i)) → count n f ≡ count n g
count_same n f g to from =
    let a : count n f ≤ count n g = count-more n f g to in
    let b : count n g ≤ count n f = count-more n g f from in
    omega arith

-- f and g agree but at k, where g holds and f does not
pub count-one : (n : ℕ) (f g : ℕ → Formula) (k : ℕ) → k < n → (Holds (f k) → ⊥) → Holds (g k)
    → ((i : ℕ) → i < n → (k ≡ i → ⊥) → Holds (f i) → Holds (g i)) → ((i : ℕ) → i < n → (k ≡ i → ⊥) → Holds (g i) → Holds (f i))
    → count n g ≡ 1 + count n f
count-one zero f g k l out has to from = omega arith
count-one (suc n) f g k l out has to from =
    go (places k n) (λ m. count-one n f g k m out has (λ i b. to i (omega arith)) (λ i b. from i (omega arith)))
  where
    other : (k ≡ n → ⊥) → Case (f n) → count n g ≡ 1 + count n f → count (suc n) g ≡ 1 + count (suc n) f
    other ne (it_does x) e = rw (count_yes n f x, count_yes n g (to n (omega arith) ne x)) (omega arith)
    other ne (it_does_not x) e = rw (count_no n f x, count_no n g (λ y. x (from n (omega arith) ne y))) e

    go : Places k n → (k < n → count n g ≡ 1 + count n f) → count (suc n) g ≡ 1 + count (suc n) f
    go (one e) r =
        rw (
          count_yes n g (rw e at has),
          count_no n f (rw e at out),
          count_same n f g
              (λ i b. to i (omega arith) (λ q. omega arith)) (λ i b. from i (omega arith) (λ q. omega arith)),
        )
    go (two ne) r = other ne (decide (f n)) (r (omega arith))
