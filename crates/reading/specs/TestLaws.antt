-- From what a function answers to what a formula says, and back.
use Rattle.std.specs.Prelude.{ℕ, ◌+◌, ◌-◌, ◌≤◌, ◌≡◌, refl, Bool, true, false, not, eqb, leb}
use Rattle.std.proofs.Common.{sym, ap, ◌∙◌, inl, inr, arith}
use Rattle.std.proofs.lemmas.Bool.{not-true, not-false}
use Rattle.rules.specs.Formula.{Formula, Holds, test, Formula.◌≐◌, Formula.◌≼◌, Formula.◌and◌, Formula.◌or◌, Formula.◌then◌}
use Rattle.rules.specs.Formula.{Formula.never}
use Rattle.rules.specs.FormulaLaws.{Case, decide, passed, failed, passes, fails, test_and, test_or, test_then, Case.it_does}
use Rattle.rules.specs.FormulaLaws.{Case.it_does_not, test-same}

-- what an answer says, true or false
pub yes : {r : Bool} (f : Formula) → r ≡ test f → r ≡ true → Holds f
yes f e t = passed f (sym e ∙ t)

pub no : {r : Bool} (f : Formula) → r ≡ test f → r ≡ false → Holds f → ⊥
no f e t = failed f (sym e ∙ t)

-- the same, where the code asks whether it was false
pub yes_not : {r : Bool} (f : Formula) → r ≡ test f → not r ≡ false → Holds f
yes_not {r} f e t = yes f e (not-false r t)

pub no_not : {r : Bool} (f : Formula) → r ≡ test f → not r ≡ true → Holds f → ⊥
no_not {r} f e t = no f e (not-true r t)

-- an answer once the formula is known to hold or to fail
pub right : (f : Formula) → Holds f → true ≡ test f
right f h = sym (passes f h)

pub wrong : (f : Formula) → (Holds f → ⊥) → false ≡ test f
wrong f n = sym (fails f n)

-- the answer of the last part, where the parts before it are known
pub after : {r : Bool} (f g : Formula) → Holds f → r ≡ test g → r ≡ test (f and g)
after f g h e = e ∙ sym (test_and f g h)

pub beside : {r : Bool} (f g : Formula) → (Holds f → ⊥) → r ≡ test g → r ≡ test (f or g)
beside f g n e = e ∙ sym (test_or f g n)

pub ahead : {r : Bool} (f g : Formula) → (Holds g → ⊥) → r ≡ test f → r ≡ test (f or g)
ahead f g n e = e ∙ test-same f (f or g) inl go
  where
    go : Holds (f or g) → Holds f
    go (inl x) = x
    go (inr y) = absurd (n y)

pub given : {r : Bool} (f g : Formula) → Holds f → r ≡ test g → r ≡ test (f then g)
given f g h e = e ∙ sym (test_then f g h)

-- an answer to whether a formula does not hold
pub otherwise : {r : Bool} (f : Formula) → r ≡ test f → not r ≡ test (f then never)
otherwise {r} f e = go (decide f)
  where
    go : Case f → not r ≡ test (f then never)
    go (it_does h) = ap not (e ∙ passes f h) ∙ sym (fails (f then never) (λ n. n h))
    go (it_does_not n) = ap not (e ∙ fails f n) ∙ sym (passes (f then never) n)

-- a comparison of the code is the formula's test
pub equals : (a b : ℕ) → eqb a b ≡ test (a ≐ b)
unfolding test
equals a b = refl

pub at_most : (a b : ℕ) → leb a b ≡ test (a ≼ b)
unfolding test
at_most a b = refl

-- room for n more, below a limit
pub room_for : (a n top : ℕ) → n ≤ top → leb a (top - n) ≡ test (a + n ≼ top)
room_for a n top l = at_most a (top - n) ∙ test-same (a ≼ top - n) (a + n ≼ top) (λ x. omega arith) (λ x. omega arith)
