-- `class::printing::write_counts` meets its contract: its four numbers, one behind the other.
use native.Mathlib.Omega.{arith}
use Rattle.text.specs.Put.{put_then}
use Rattle.class_rules.specs.Report.{counts_line}
use Rattle.class.proofs.printing.write_counts.Goals as goal

pub returns : goal.returns
unfolding counts_line
returns c =
    let w = c.write_number-refused.ensures in
    let x = c.write_number-starts.ensures in
    let y = c.write_number-dropped.ensures in
    let z = c.write_number.ensures in record { put = put_then (omega arith) w.put (put_then (omega arith) x.put (put_then (omega arith) y.put z.put)); most = omega (arith, w.most.1, x.most.1, y.most.1, z.most.1) }
