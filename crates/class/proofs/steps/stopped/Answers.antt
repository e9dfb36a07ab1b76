-- `class::steps::stopped` meets its contract: field by field, with what `start` and `from` give.
use mathlib.Core.Path.{refl}
use Rattle.class.proofs.steps.stopped.Goals as goal

pub returns : goal.returns
returns c = rw (c.from.ensures, c.start.ensures) refl
