-- `class::steps::with_entry` meets its contract: field by field, with what `start` gives.
use mathlib.Core.Path.{refl}
use Rattle.class.proofs.steps.with_entry.Goals as goal

pub returns : goal.returns
returns c = rw c.start.ensures refl
