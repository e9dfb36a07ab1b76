-- `ancestors::live::last_live_of` meets its contract: both loops keep that no live task was passed, eight at a time (`dead_eight`) and
-- then one by one (`dead_one`); it ends at one, or at 0.
use native.Mathlib.Omega.{arith}
use Rattle.std.proofs.Common.{◌≡◌, ◌-◌, rules}
use Rattle.session.specs.Table.{read}
use Rattle.reading.specs.Eights.{one_of_eight}
use Rattle.reading.specs.TestLaws.{no, yes}
use Rattle.ancestors.specs.Live.{dead_none, dead_one, dead_eight, live_state}
use Rattle.ancestors.proofs.live.last_live_of.Goals as goal

pub loop-top-init : goal.loop-top-init
loop-top-init c = let p = c.requires in (dead_none _ _, p.2, p.1)

pub loop-top-preserved : goal.loop-top-preserved
loop-top-preserved c =
    let i = c.loop-top.invariant in
    let top = c.loop-top.top in
    let none = one_of_eight _ (live_state (read c.args.s.now)) (top - 7) _ c.any_of_eight.ensures (λ h r e. search rules) in
    (dead_eight _ _ i.2 i.1 top (omega arith) i.0 (no _ none c.if-not-any_of_eight.true), i.1, i.2)

pub loop-h-init : goal.loop-h-init
loop-h-init c = c.loop-top.invariant.0

pub returns-then-is_live : goal.returns-then-is_live
returns-then-is_live c =
    (record { passed = c.loop-h.invariant; here = λ b. yes _ c.is_live.ensures c.if-is_live.true }, omega arith)

pub loop-h-preserved : goal.loop-h-preserved
loop-h-preserved c = dead_one _ _ c.loop-h.h (omega arith) c.loop-h.invariant (no _ c.is_live.ensures c.if-is_live.false)

pub returns : goal.returns
returns c =
    let none : c.loop-h.h ≡ 0 = omega arith in
    record { passed = rw none at c.loop-h.invariant; here = λ b. absurd (omega arith) }
