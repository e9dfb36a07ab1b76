-- `holding::letting::bury_all` meets its contract: the blocks before b are swept, one more by `buried-more`, which leaves who may hold
-- (`active_swept`), and those up to the next that is doomed by `buried_passed`; past the count of objects there is none (`buried-end`).
use Prim.Native.Nat.{◌≤◌, ◌+◌, ◌-◌}
use mathlib.Core.Path.{◌≡◌}
use Rattle.session.specs.Names.{most_objects}
use Rattle.session.specs.Table.{Wrote, read, sweep}
use Rattle.session.specs.declared.Field.TheVariants.{Objects, BlockState}
use Rattle.reading.specs.Holds.{Active}
use Rattle.holding.specs.Letting.{Unmarked, buried}
use Rattle.std.proofs.Common.{unwrap_or}
use Rattle.reading.specs.Eights.{OrEnd}
use Rattle.holding.proofs.letting.bury_all.Given as goal

abbrev pub invariant-loop-next : goal.invariant-loop-next
invariant-loop-next l =
    (l.n ≡ read l.initial.s Objects 0) × (l.n ≤ most_objects) × Unmarked (read l.initial.s) × Active (read l.initial.s)
    × OrEnd (λ b. Wrote l.initial.s l.s (sweep (read l.initial.s) BlockState b (buried (read l.initial.s)))) (l.n + 1) l.next

abbrev pub decreases-loop-next : goal.decreases-loop-next
decreases-loop-next l = l.n + 1 - unwrap_or l.next (l.n + 1)
