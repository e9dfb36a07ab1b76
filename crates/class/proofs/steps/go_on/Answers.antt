-- `class::steps::go_on` meets its contract, by the definitions of `going` and `begun`, with what `entry_or_line` gives.
use mathlib.Core.Path.{refl}
use Rattle.class.specs.Steps.{begun, going}
use Rattle.class.proofs.steps.go_on.Goals as goal

pub returns : goal.returns
unfolding begun going
returns c = rw (c.entry_or_line.ensures, c.begin.ensures) refl
