-- `class::printing::write_last` meets its contract, by whether the class stopped: the sums, or the stop.
use native.Mathlib.Omega.{arith}
use Rattle.rules.specs.Formula.{Formula.◌≐◌}
use Rattle.rules.specs.FormulaLaws.{choose_yes, choose_no}
use Rattle.class_rules.specs.Report.{last_line}
use Rattle.class.proofs.printing.write_last.Goals as goal

pub returns-then-stop-eq0 : goal.returns-then-stop-eq0
unfolding last_line
returns-then-stop-eq0 c =
    let w = c.write_counts.ensures in
    record { put = rw (choose_yes (_ ≐ 0) _ _ c.if-stop-eq0.true) w.put; most = omega (arith, w.most) }

pub returns : goal.returns
unfolding last_line
returns c =
    let w = c.write_stop.ensures in
    record { put = rw (choose_no (_ ≐ 0) _ _ c.if-stop-eq0.false) w.put; most = w.most }
