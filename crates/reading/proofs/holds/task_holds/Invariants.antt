-- `reading::holds::task_holds` meets its contract: a slot that holds b passes it (`right`). Else none below j does (`pass_more`), and
-- at the end none does (`wrong`).
use Prim.Native.Nat.{◌≤◌}
use lib.ListN.{length}
use Rattle.session.specs.Names.{most_objects}
use Rattle.session.specs.Table.{read, words, at}
use Rattle.rules.specs.Reading.{slot_holds}
use Rattle.reading.specs.Holders.{Passed}
use Rattle.reading.proofs.holds.task_holds.Given as goal

abbrev pub invariant-loop-j : goal.invariant-loop-j
invariant-loop-j l =
    (words ≤ length l.s) × (l.h ≤ most_objects) × Passed (λ k. slot_holds (read l.s) l.b (at l.h k)) 0 l.j
