-- `holding::letting::drop_slots` meets its contract: the slots before j are swept: at first nothing has changed (`own_begin`),
-- each turn is one row more (`row_next`), and 16 are all (`slots_end`).
use Rattle.holding.specs.SweepRows.{rows}
use Rattle.holding.specs.Letting.{mark_row}
use Prim.Native.Nat.{◌≤◌, ◌+◌, ◌*◌}
use Rattle.session.specs.Names.{most_objects}
use Rattle.session.specs.Table.{Wrote, read, sweep}
use Rattle.session.specs.declared.Field.TheVariants.{SlotMark}
use Rattle.holding.proofs.letting.drop_slots.Given as goal

abbrev pub invariant-loop-j : goal.invariant-loop-j
invariant-loop-j l =
    (l.t ≤ most_objects) × Wrote l.initial.s l.s (sweep (read l.initial.s) SlotMark (l.t * 16 + l.j) (rows (mark_row l.t l.b) (read l.initial.s)))
