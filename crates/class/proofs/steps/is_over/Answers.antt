-- `class::steps::is_over` meets its contract, by whether nothing is left.
use mathlib.Core.Path.{ap, sym}
use Rattle.class.specs.Steps.{is_over, over-not}
use Rattle.class.proofs.steps.is_over.Goals as goal

pub returns-in-Nothing : goal.returns-in-Nothing
unfolding is_over
returns-in-Nothing c = ap is_over (sym c.in-Nothing.is)

pub returns-in_default : goal.returns-in_default
returns-in_default c = sym (over-not _ c.in_default.not-Nothing)
