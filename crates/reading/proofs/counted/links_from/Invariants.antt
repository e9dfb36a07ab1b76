-- `reading::counted::links_from` meets its contract: both counts go from l to l + 1 by what l is (`count-plus`).
use Prim.Native.Nat.{◌≤◌}
use mathlib.Core.Path.{◌≡◌}
use Rattle.session.specs.Table.{read}
use Rattle.rules.specs.Formula.{count}
use Rattle.rules.specs.Reading.{leads_from, served_from}
use Rattle.reading.proofs.counted.links_from.Given as goal

abbrev pub invariant-loop-l : goal.invariant-loop-l
invariant-loop-l l =
    (l.made ≡ count l.l (leads_from (read l.s) l.e)) × (l.delivered ≡ count l.l (served_from (read l.s) l.e))
    × (l.made ≤ l.l) × (l.delivered ≤ l.l)
