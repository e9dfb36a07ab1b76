-- `sheet_counts::count_records` meets its contract: before each record the answers
-- so far are counted, and with those from there on they are the whole sheet's.
use mathlib.Core.Path.{◌∙◌}
use native.Mathlib.Omega.{arith}
use Rattle.sheet_counts.specs.CountingRun.{running-first, running_few, running-end, running_stop, running_on}
use Rattle.sheet_counts.specs.CountingRun.{onward_of}
use Rattle.sheet_counts.proofs.count_records.Goals as goal

pub loop-at-init : goal.loop-at-init
loop-at-init c = running-first _ _ _ c.requires

pub overflow_add-refused : goal.overflow_add-refused
overflow_add-refused c =
    let i = c.loop-at.invariant in
    omega (arith, (running_few _ _ _ _ _ _ _ _ i).0, i.few, c.loop-at-test.true)

pub returns-in_default : goal.returns-in_default
returns-in_default c =
    let o = rw c.in_default.is at c.count_record.ensures in
    let e = running_stop _ _ _ _ _ _ _ _ c.loop-at.invariant c.loop-at-test.true _ o in
    record { counts = c.with_dropped.ensures ∙ e.0; session = e.1 }

pub overflow_add-refused-in-loop-at : goal.overflow_add-refused-in-loop-at
overflow_add-refused-in-loop-at c =
    let i = c.loop-at.invariant in
    let o = rw c.in-Some.is at c.count_record.ensures in
    let j = running_on _ _ _ _ _ _ _ _ i c.loop-at-test.true _ _ _ o in
    omega (arith, (running_few _ _ _ _ _ _ _ _ j).0, i.few, c.loop-at-test.true)

pub overflow_add-starts : goal.overflow_add-starts
overflow_add-starts c =
    let i = c.loop-at.invariant in
    let o = rw c.in-Some.is at c.count_record.ensures in
    let j = running_on _ _ _ _ _ _ _ _ i c.loop-at-test.true _ _ _ o in
    omega (arith, (running_few _ _ _ _ _ _ _ _ j).1, i.few, c.loop-at-test.true)

pub loop-at-smaller : goal.loop-at-smaller
loop-at-smaller c =
    let o = onward_of _ _ _ _ _ _ _ c.count_record.ensures c.in-Some.is in
    omega (arith, o, c.loop-at-test.true)

pub loop-at-preserved : goal.loop-at-preserved
loop-at-preserved c =
    let o = rw c.in-Some.is at c.count_record.ensures in
    rw (c.from-refused.ensures, c.from-starts.ensures)
    (running_on _ _ _ _ _ _ _ _ c.loop-at.invariant c.loop-at-test.true _ _ _ o)

pub returns : goal.returns
returns c =
    let e = running-end _ _ _ _ _ _ _ _ c.loop-at.invariant c.loop-at-test.false in
    record { counts = c.with_dropped-2.ensures ∙ e.0; session = e.1 }
