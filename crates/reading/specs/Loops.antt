-- What a loop over places makes of `each`, `some` and `count`: nothing seen yet, and one place more.
use Rattle.std.specs.Prelude.{ℕ, ◌+◌, ◌≡◌, refl, Bool, true, false, ◌&&◌, ◌||◌}
use Rattle.std.proofs.Common.{arith, add-one, ap, ◌∙◌}
use Rattle.std.proofs.Math.Bool.{and_comm}
use Rattle.std.specs.Int.{from_bool}
use Rattle.session.specs.Table.{pick}
use Rattle.rules.specs.Formula.{Formula, test, count, choose, Formula.each, Formula.some}
use Rattle.rules.specs.Bools.{elim_both, elim_either}

pub each_none : (f : ℕ → Formula) → test (each 0 f) ≡ true
unfolding test
each_none f = refl

pub each_more : (n : ℕ) (f : ℕ → Formula) → test (each (n + 1) f) ≡ (test (f n) && test (each n f))
unfolding test
each_more n f = rw add-one (elim_both (test (f n)) (test (each n f)))

-- the same, as `&=` has it
pub each_next : (n : ℕ) (f : ℕ → Formula) → test (each (n + 1) f) ≡ (test (each n f) && test (f n))
each_next n f = each_more n f ∙ and_comm (test (f n)) (test (each n f))

pub some_none : (f : ℕ → Formula) → test (some 0 f) ≡ false
unfolding test
some_none f = refl

pub some_more : (n : ℕ) (f : ℕ → Formula) → test (some (n + 1) f) ≡ (test (f n) || test (some n f))
unfolding test
some_more n f = rw add-one (elim_either (test (f n)) (test (some n f)))

pub count_none : (f : ℕ → Formula) → count 0 f ≡ 0
unfolding count
count_none f = refl

pub count-plus : (n : ℕ) (f : ℕ → Formula) → count (n + 1) f ≡ count n f + pick (test (f n)) 1 0
unfolding count
count-plus n f = rw add-one (go (test (f n)))
  where
    go : (b : Bool) → pick b (1 + count n f) (count n f) ≡ count n f + pick b 1 0
    go true = omega arith
    go false = omega arith

pub count-more : (n : ℕ) (f : ℕ → Formula) → count (n + 1) f ≡ choose (f n) (1 + count n f) (count n f)
unfolding count
count-more n f = rw add-one

pub count_next : (n : ℕ) (f : ℕ → Formula) → count (n + 1) f ≡ count n f + from_bool (test (f n))
count_next n f = count-plus n f ∙ ap (λ (k : ℕ). count n f + k) (go (test (f n)))
  where
    go : (b : Bool) → pick b 1 0 ≡ from_bool b
    go true = refl
    go false = refl
