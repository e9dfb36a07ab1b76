-- `sheet::run_records` meets its contract: before each record the run from there is the whole run.
use Prim.Native.Nat.{◌-◌}
use mathlib.Core.Path.{◌≡◌}
use lib.ListN.{length}
use Rattle.sheet.specs.Going.{Running}
use Rattle.sheet.proofs.run_records.Given as goal

abbrev pub invariant-loop-at : goal.invariant-loop-at
invariant-loop-at l =
    Running l.sheet l.first l.done l.sure l.initial.memory l.initial.lines l.used l.memory l.lines l.at l.k l.behind × (length l.lines ≡ length l.initial.lines)

abbrev pub decreases-loop-at : goal.decreases-loop-at
decreases-loop-at l = length l.sheet - l.at
