-- `reading::holds::task_holds` meets its contract: a slot that holds b passes it (`right`). Else none below j does (`pass_more`), and
-- at the end none does (`wrong`).
use mathlib.Core.Path.{refl}
use native.Mathlib.Omega.{arith}
use Rattle.reading.specs.Holders.{pass_more}
use Rattle.reading.specs.TestLaws.{no, right, wrong, yes}
use Rattle.reading.proofs.holds.task_holds.Goals as goal

pub returns-then-slot_holds : goal.returns-then-slot_holds
returns-then-slot_holds c =
    let l = c.loop-j in
    right _ (l.j, omega arith, yes _ c.slot_holds.ensures c.if-slot_holds.true)

pub loop-j-preserved : goal.loop-j-preserved
loop-j-preserved c =
    let i = c.loop-j.invariant in
    (i.0, i.1, pass_more _ _ _ _ refl i.2 (no _ c.slot_holds.ensures c.if-slot_holds.false))

pub returns : goal.returns
returns c =
    let i = c.loop-j.invariant in
    wrong _ (λ x. i.2.none x.0 (omega (arith, x.1)) (omega arith) x.2)
