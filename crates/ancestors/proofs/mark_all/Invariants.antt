-- `ancestors::mark_all` meets its contract: before each turn the marks are those above the live tasks below that handle.
use Prim.Native.Nat.{◌≤◌}
use mathlib.Core.Path.{◌≡◌}
use Rattle.session.specs.Names.{most_objects}
use Rattle.session.specs.Table.{read}
use Rattle.session.specs.declared.Field.TheVariants.{Objects}
use Rattle.laws.specs.Under.{Falls}
use Rattle.ancestors.specs.Above.{Shows, busy_below}
use Rattle.ancestors.proofs.mark_all.Given as goal

abbrev pub invariant-loop-h : goal.invariant-loop-h
invariant-loop-h l =
    (l.n ≡ read l.s Objects 0) × (l.n ≤ most_objects) × Falls (read l.s)
    × Shows l.marks (busy_below (read l.s) l.h)
