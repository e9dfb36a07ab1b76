-- `retiring::finishing::fire_all_marked` meets its contract: the events before e are swept, one more each turn (`row_next`); past
-- the count of objects no mark is left (`fired-end`).
use native.Mathlib.Omega.{arith}
use Rattle.session.specs.Table.{read}
use Rattle.session.specs.TableLaws.{sweep_zero, wrote_none, wrote_then}
use Rattle.holding.specs.SweepRows.{row_next}
use Rattle.retiring.specs.Finish.{fired-end}
use Rattle.retiring.proofs.finishing.fire_all_marked.Goals as goal

pub loop-e-init : goal.loop-e-init
loop-e-init c =
    let p = c.requires in
    let e = c.get-n.ensures in
    (e, omega (arith, e, p.0), p.1, rw sweep_zero (wrote_none _))

pub loop-e-preserved : goal.loop-e-preserved
loop-e-preserved c =
    let f = c.fire_marked in
    let i = c.loop-e.invariant in
    (i.0, i.1, i.2, rw (← row_next _ _ _ _ _ i.3.reading) (wrote_then i.3 f.ensures))

pub returns : goal.returns
returns c =
    let l = c.loop-e in
    let i = l.invariant in
    rw (← fired-end (read c.args.s.now) _ l.e i.2
    (omega (arith, i.0))) i.3
