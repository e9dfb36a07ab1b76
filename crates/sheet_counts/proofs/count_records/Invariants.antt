-- `sheet_counts::count_records` meets its contract: before each record the answers
-- so far are counted, and with those from there on they are the whole sheet's.
use Prim.Native.Nat.{◌-◌}
use lib.ListN.{length}
use Rattle.sheet_counts.specs.CountingRun.{Running}
use Rattle.sheet_counts.proofs.count_records.Given as goal

abbrev pub invariant-loop-at : goal.invariant-loop-at
invariant-loop-at l =
    Running l.sheet l.first l.initial.memory l.memory l.at l.records l.refused l.starts

abbrev pub decreases-loop-at : goal.decreases-loop-at
decreases-loop-at l = length l.sheet - l.at
