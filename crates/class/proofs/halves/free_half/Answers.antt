-- `class::halves::free_half` meets its contract, by whether a sheet is pending, and in which half.
use mathlib.Core.Path.{ap, sym, ◌∙◌}
use Rattle.rules.specs.Formula.{Formula.◌≐◌}
use Rattle.rules.specs.FormulaLaws.{choose_yes, choose_no}
use Rattle.class.specs.Halves.{free_half}
use Rattle.class.proofs.halves.free_half.Goals as goal

pub returns-in_default : goal.returns-in_default
unfolding free_half
returns-in_default c = sym (ap free_half c.in_default.is)

pub returns-then-sheet-eq0 : goal.returns-then-sheet-eq0
unfolding free_half
returns-then-sheet-eq0 c = sym (ap free_half c.in-Some.is ∙ choose_yes (_ ≐ 0) _ _ c.if-sheet-eq0.true)

pub returns-else-sheet-eq0 : goal.returns-else-sheet-eq0
unfolding free_half
returns-else-sheet-eq0 c = sym (ap free_half c.in-Some.is ∙ choose_no (_ ≐ 0) _ _ c.if-sheet-eq0.false)
