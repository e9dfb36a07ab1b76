-- `rules::arity_of` meets its contract: 0 and what is past the edition's last code are unknown (`choose_no`), and of a code in between
-- the number in the array is the one in `rules` (`choose_yes`).
use mathlib.Core.Path.{sym}
use native.Mathlib.Omega.{arith}
use Rattle.rules.specs.FormulaLaws.{choose_yes, choose_no}
use Rattle.rules.specs.Arity.{arity_of}
use Rattle.rules.specs.Step.{rules}
use Rattle.rules.proofs.arity_of.Goals as goal

pub returns-then-code-eq0 : goal.returns-then-code-eq0
unfolding arity_of
returns-then-code-eq0 c = sym (choose_no _ _ _ (λ x. let l = x.0.0 in omega arith))

pub returns-then-last_of-code : goal.returns-then-last_of-code
unfolding arity_of
returns-then-last_of-code c = sym (choose_no _ _ _ (λ x. omega (arith, x.1, c.last_of.ensures.answer, c.if-last_of-code.true)))

pub offset_bounds-i : goal.offset_bounds-i
offset_bounds-i c = omega (arith, c.last_of.ensures.few)

pub bounds-i : goal.bounds-i
bounds-i c = omega (arith, c.last_of.ensures.few)

pub returns : goal.returns
unfolding arity_of rules
returns c =
    let last = c.last_of.ensures in
    sym (choose_yes _ _ _ ((omega arith, omega (arith, last.few)), omega (arith, last.answer, c.if-last_of-code.false)))
