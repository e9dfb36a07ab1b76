-- `class::steps::begin` meets its contract, by the definition of `begun`, with what `start` and `empty` give.
use Rattle.class.specs.Steps.{begun}
use mathlib.Core.Path.{refl}
use Rattle.class.proofs.steps.begin.Goals as goal

pub returns : goal.returns
unfolding begun
returns c = rw (c.start.ensures, c.empty.ensures) refl
