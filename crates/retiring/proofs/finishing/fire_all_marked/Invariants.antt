-- `retiring::finishing::fire_all_marked` meets its contract: the events before e are swept, one more each turn (`row_next`); past
-- the count of objects no mark is left (`fired-end`).
use Prim.Native.Nat.{◌≤◌}
use mathlib.Core.Path.{◌≡◌}
use Rattle.session.specs.Names.{most_objects}
use Rattle.session.specs.Table.{Wrote, read, sweep}
use Rattle.session.specs.declared.Field.TheVariants.{Objects, EventState}
use Rattle.holding.specs.SweepRows.{rows}
use Rattle.retiring.specs.Finish.{Within, fire_row}
use Rattle.retiring.proofs.finishing.fire_all_marked.Given as goal

abbrev pub invariant-loop-e : goal.invariant-loop-e
invariant-loop-e l =
    (l.n ≡ read l.initial.s Objects 0) × (l.n ≤ most_objects) × Within l.fires (read l.initial.s Objects 0) × Wrote l.initial.s l.s (sweep (read l.initial.s) EventState l.e (rows (fire_row l.fires) (read l.initial.s)))
