-- `holding::letting::drop_all_made` meets its contract: the blocks before b are swept, one more by `row_next`, and those up to the next
-- that t made by `made_passed`; past the count of objects none is held (`made-end`).
use Prim.Native.Nat.{◌≤◌, ◌+◌, ◌-◌}
use mathlib.Core.Path.{◌≡◌}
use Rattle.session.specs.Names.{most_objects}
use Rattle.session.specs.Table.{Wrote, read, sweep}
use Rattle.session.specs.declared.Field.TheVariants.{Objects, BlockHeld}
use Rattle.holding.specs.SweepRows.{rows}
use Rattle.holding.specs.Letting.{Unheld, made_row}
use Rattle.std.proofs.Common.{unwrap_or}
use Rattle.reading.specs.Eights.{OrEnd}
use Rattle.holding.proofs.letting.drop_all_made.Given as goal

abbrev pub invariant-loop-next : goal.invariant-loop-next
invariant-loop-next l =
    (l.n ≡ read l.initial.s Objects 0) × (l.n ≤ most_objects) × Unheld (read l.initial.s)
    × OrEnd (λ b. Wrote l.initial.s l.s (sweep (read l.initial.s) BlockHeld b (rows (made_row l.t) (read l.initial.s)))) (l.n + 1) l.next

abbrev pub decreases-loop-next : goal.decreases-loop-next
decreases-loop-next l = l.n + 1 - unwrap_or l.next (l.n + 1)
