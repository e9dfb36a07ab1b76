-- `reading::eights::next_where` meets its contract: none of the places before the first, and then before i, passes.
use Rattle.std.proofs.Common.{◌-◌, ◌≤◌}
use Rattle.reading.specs.Eights.{NoneBy}
use Rattle.reading.proofs.eights.next_where.Given as goal

abbrev pub invariant-loop-first : goal.invariant-loop-first
invariant-loop-first g l = (l.from ≤ l.first) × (l.first ≤ l.end) × NoneBy (goal.F-post g l.passes) l.from l.first

abbrev pub decreases-loop-first : goal.decreases-loop-first
decreases-loop-first g l = l.end - l.first

abbrev pub invariant-loop-i : goal.invariant-loop-i
invariant-loop-i g l = (l.from ≤ l.i) × NoneBy (goal.F-post g l.passes) l.from l.i
