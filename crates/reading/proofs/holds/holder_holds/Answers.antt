-- `reading::holds::holder_holds` meets its contract: a slot that holds b passes it (`right`). Else none below j does (`pass_more`),
-- and none from the count of the pre-slots on (`Active`), so that at the end none does (`wrong`).
use mathlib.Core.Path.{refl}
use native.Mathlib.Omega.{arith}
use Rattle.reading.specs.Holders.{pass_more}
use Rattle.reading.specs.TestLaws.{no, right, wrong, yes}
use Rattle.reading.proofs.holds.holder_holds.Goals as goal

pub returns-then-n-j : goal.returns-then-n-j
returns-then-n-j c =
    let i = c.loop-j.invariant in
    wrong _ (λ x. i.5.none x.0 (omega (arith, i.2, c.if-n-j.true, (i.4 _ x.0 i.3 x.1 x.2.0).1)) (omega arith)
    x.2)

pub returns-then-slot_holds : goal.returns-then-slot_holds
returns-then-slot_holds c =
    let l = c.loop-j in
    right _ (l.j, omega arith, yes _ c.slot_holds.ensures c.if-slot_holds.true)

pub loop-j-preserved : goal.loop-j-preserved
loop-j-preserved c =
    let i = c.loop-j.invariant in (
      i.0,
      i.1,
      i.2,
      i.3,
      i.4,
      pass_more _ _ _ _ refl i.5 (no _ c.slot_holds.ensures c.if-slot_holds.false),
    )

pub returns : goal.returns
returns c =
    let i = c.loop-j.invariant in
    wrong _ (λ x. i.5.none x.0 (omega (arith, x.1)) (omega arith) x.2)
