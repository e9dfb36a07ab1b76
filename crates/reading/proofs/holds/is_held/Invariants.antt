-- `reading::holds::is_held` meets its contract: the maker's hold passes it, and so does a task that holds (`held_by`).
-- Else no task below h holds it, and none is passed that does (`held_past`): at the end nobody holds it (`held_by_none`).
use Prim.Native.Nat.{◌+◌, ◌-◌, ◌≤◌}
use mathlib.Core.Path.{◌≡◌}
use lib.ListN.{length}
use Rattle.session.specs.Names.{object_places}
use Rattle.session.specs.Table.{read, words}
use Rattle.session.specs.declared.Field.TheVariants.{Objects, BlockHeld}
use Rattle.reading.specs.Holds.{Active, NoneHolds}
use Rattle.reading.specs.Eights.{OrEnd}
use Rattle.std.proofs.Common.{unwrap_or}
use Rattle.reading.proofs.holds.is_held.Given as goal

abbrev pub invariant-loop-next : goal.invariant-loop-next
invariant-loop-next l =
    (l.n ≡ read l.s Objects 0 + 1) × (l.n ≤ object_places) × (words ≤ length l.s) × Active (read l.s) × (read l.s BlockHeld l.b ≡ 1 → ⊥)
    × OrEnd (NoneHolds (read l.s) l.b) l.n l.next

abbrev pub decreases-loop-next : goal.decreases-loop-next
decreases-loop-next l = l.n - unwrap_or l.next l.n
