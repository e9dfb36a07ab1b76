-- `class::steps::close` meets its contract: field by field, with what `start` gives.
use mathlib.Core.Path.{refl}
use Rattle.class.proofs.steps.close.Goals as goal

pub returns : goal.returns
returns c = rw c.start.ensures refl
