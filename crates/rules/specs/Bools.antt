-- The test of a formula by the connectives on Booleans, as code computes them.
use Rattle.std.specs.Prelude.{ℕ, suc, ◌≡◌, refl, Bool, true, false, ◌&&◌, ◌||◌, not, eqb, leb, ltb}
use Rattle.session.specs.Table.{pick}
use Rattle.rules.specs.Formula.{Formula, test, choose, Formula.◌≐◌, Formula.◌≼◌, Formula.◌and◌, Formula.◌or◌}
use Rattle.rules.specs.Formula.{Formula.◌then◌, Formula.never}

pub test_eq : (a b : ℕ) → test (a ≐ b) ≡ eqb a b
unfolding test
test_eq a b = refl

pub test_le : (a b : ℕ) → test (a ≼ b) ≡ leb a b
unfolding test
test_le a b = refl

pub elim_both : (a b : Bool) → elim a as (λ _. Bool) [ true ↦ b | false ↦ false ] ≡ (a && b)
elim_both true b = refl
elim_both false b = refl

pub test-both : (f g : Formula) → test (f and g) ≡ (test f && test g)
unfolding test
test-both f g = elim_both (test f) (test g)

pub elim_either : (a b : Bool) → elim a as (λ _. Bool) [ true ↦ true | false ↦ b ] ≡ (a || b)
elim_either true b = refl
elim_either false b = refl

pub test_either : (f g : Formula) → test (f or g) ≡ (test f || test g)
unfolding test
test_either f g = elim_either (test f) (test g)

pub test_implies : (f g : Formula) → test (f then g) ≡ (not (test f) || test g)
unfolding test
test_implies f g = go (test f) (test g)
  where
    go : (a b : Bool) → elim a as (λ _. Bool) [ true ↦ b | false ↦ true ] ≡ (not a || b)
    go true b = refl
    go false b = refl

pub test-not : (f : Formula) → test (f then never) ≡ not (test f)
unfolding test
test-not f = go (test f)
  where
    go : (a : Bool) → elim a as (λ _. Bool) [ true ↦ false | false ↦ true ] ≡ not a
    go true = refl
    go false = refl

pub test_lt : (a b : ℕ) → test (suc a ≼ b) ≡ ltb a b
unfolding test
test_lt a b = refl

-- a mark that is 1 where a formula holds, else 0
pub chosen : (x : ℕ) (f : Formula) → x ≡ choose f 1 0 → eqb x 1 ≡ test f
chosen x f e = rw e (go (test f))
  where
    go : (b : Bool) → eqb (pick b 1 0) 1 ≡ b
    go true = refl
    go false = refl

-- the end of a list of choices
pub or_never : (b : Bool) → (b || test never) ≡ b
unfolding test
or_never true = refl
or_never false = refl

-- all of them, for `grind`
pub ruleset tests = (test_eq, test_le, test-both, test_either, test_implies, test-not, or_never)
