-- `sheet::counts::count_below` meets its contract: the number found is the count below i, for every formula that the calls answer.
use Rattle.std.proofs.Common.{sym, ◌∙◌}
use native.Mathlib.Omega.{arith}
use Rattle.rules.specs.FormulaLaws.{passed, failed}
use Rattle.reading.specs.Loops.{count_none}
use Rattle.laws.specs.Counting.{count_next_yes, count_next_no}
use Rattle.sheet.proofs.counts.count_below.Goals as goal
use Rattle.sheet.proofs.counts.count_below.Goals.{then-holds, else-holds}

pub loop-i-init : goal.loop-i-init
loop-i-init g c = (λ f h. sym (count_none f), omega arith)

pub loop-i-preserved : goal.loop-i-preserved
loop-i-preserved g c =
    let l = c.loop-i in
    let v = l.invariant in
    elim c.if-holds.branch [
      | then-holds w ↦ (
        λ f h.
            let t = h _ _ c.loop-i-test.true c.holds.ensures in
            let y = count_next_yes l.i f (passed (f l.i) (sym t ∙ w.if-holds.true)) in
            omega (arith, w.found-is, y, v.0 f h),
        omega (arith, w.found-is, v.1),
      )
      | else-holds w ↦ (
        λ f h.
            let t = h _ _ c.loop-i-test.true c.holds.ensures in
            let y = count_next_no l.i f (failed (f l.i) (sym t ∙ w.if-holds.false)) in
            omega (arith, w.found-is, y, v.0 f h),
        omega (arith, w.found-is, v.1),
      )
    ]
