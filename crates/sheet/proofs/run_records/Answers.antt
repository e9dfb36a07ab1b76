-- `sheet::run_records` meets its contract: before each record the run from there is the whole run.
use mathlib.Core.Path.{ap, ◌∙◌}
use native.Mathlib.Omega.{arith}
use Rattle.sheet.specs.Going.{running-end, running_stop, running_on, onward_of, went}
use Rattle.sheet.proofs.run_records.Goals as goal

pub loop-at-smaller : goal.loop-at-smaller
loop-at-smaller c =
    let o = onward_of _ _ _ _ c.run_record.ensures.onward (ap (went _) c.in-Ok.is) in
    omega (arith, o, c.loop-at-test.true)

pub loop-at-preserved : goal.loop-at-preserved
loop-at-preserved c =
    let l = c.loop-at in
    let o = rw c.in-Ok.is at c.run_record.ensures in (
      running_on _ _ _ _ _ _ _ _ _ _ _ _ l.invariant.0 c.loop-at-test.true _ _ _ _ o,
      c.run_record.auto.lines ∙ l.invariant.1,
    )

pub returns-in-Err : goal.returns-in-Err
returns-in-Err c =
    let o = rw c.in-Err.is at c.run_record.ensures in
    running_stop _ _ _ _ _ _ _ _ _ _ _ _ c.loop-at.invariant.0 c.loop-at-test.true _ _ _ _ o

pub returns : goal.returns
returns c = running-end _ _ _ _ _ _ _ _ _ _ _ _ c.loop-at.invariant.0 (omega arith)
