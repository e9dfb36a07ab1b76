-- `reading::holds::holder_holds` meets its contract: a slot that holds b passes it (`right`). Else none below j does (`pass_more`),
-- and none from the count of the pre-slots on (`Active`), so that at the end none does (`wrong`).
use Prim.Native.Nat.{◌≤◌}
use mathlib.Core.Path.{◌≡◌}
use lib.ListN.{length}
use Rattle.session.specs.Names.{most_objects}
use Rattle.session.specs.Table.{read, words, at}
use Rattle.session.specs.declared.Field.TheVariants.{Objects, TaskSlots}
use Rattle.rules.specs.Reading.{slot_holds}
use Rattle.reading.specs.Holders.{Passed}
use Rattle.reading.specs.Holds.{Active}
use Rattle.reading.proofs.holds.holder_holds.Given as goal

abbrev pub invariant-loop-j : goal.invariant-loop-j
invariant-loop-j l =
    (words ≤ length l.s) × (l.h ≤ most_objects) × (l.n ≡ read l.s TaskSlots l.h) × (l.h ≤ read l.s Objects 0) × Active (read l.s)
    × Passed (λ k. slot_holds (read l.s) l.b (at l.h k)) 0 l.j
