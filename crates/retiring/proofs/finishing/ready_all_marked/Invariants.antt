-- `retiring::finishing::ready_all_marked` meets its contract: the links before l are swept, one more each turn (`row_next`),
-- which leaves their sources; past the count of links none is open (`ready-end`).
use Prim.Native.Nat.{◌≤◌}
use mathlib.Core.Path.{◌≡◌}
use Rattle.session.specs.Names.{most_links}
use Rattle.session.specs.Table.{Wrote, read, sweep}
use Rattle.session.specs.declared.Field.TheVariants.{Links, LinkState}
use Rattle.holding.specs.SweepRows.{rows}
use Rattle.retiring.specs.TidyUnderWay.{Tidy}
use Rattle.retiring.specs.Finish.{ready_row}
use Rattle.retiring.proofs.finishing.ready_all_marked.Given as goal

abbrev pub invariant-loop-l : goal.invariant-loop-l
invariant-loop-l l =
    (l.n ≡ read l.initial.s Links 0) × (l.n ≤ most_links) × Tidy (read l.initial.s)
    × Wrote l.initial.s l.s (sweep (read l.initial.s) LinkState l.l (rows (ready_row l.fires) (read l.initial.s)))
