-- `holding::granting::hold_slots` meets its contract: the slots before j are swept: at first nothing has changed (`own_begin`),
-- each turn is one row more (`row_next`), and 16 are all (`granted-end`).
use Prim.Native.Nat.{◌≤◌, ◌+◌, ◌*◌}
use Rattle.session.specs.Names.{most_objects}
use Rattle.session.specs.Table.{Wrote, read, sweep}
use Rattle.session.specs.declared.Field.TheVariants.{SlotMark}
use Rattle.holding.specs.SweepRows.{rows}
use Rattle.holding.specs.GrantedSlots.{grant_row}
use Rattle.holding.proofs.granting.hold_slots.Given as goal

abbrev pub invariant-loop-j : goal.invariant-loop-j
invariant-loop-j l =
    (l.t ≤ most_objects) × Wrote l.initial.s l.s (sweep (read l.initial.s) SlotMark (l.t * 16 + l.j) (rows (grant_row l.t) (read l.initial.s)))
