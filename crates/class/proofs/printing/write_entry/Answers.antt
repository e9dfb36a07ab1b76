-- `class::printing::write_entry` meets its contract: its numbers, one behind the other.
use native.Mathlib.Omega.{arith}
use Rattle.text.specs.Put.{put_then}
use Rattle.class_rules.specs.Report.{entry_line}
use Rattle.class.proofs.printing.write_entry.Goals as goal

pub returns : goal.returns
unfolding entry_line
returns c =
    let w = c.write_number-second.ensures in
    let x = c.write_number-counts.ensures in
    let z = c.write_counts.ensures in
    record { put = put_then (omega arith) w.put (put_then (omega arith) x.put z.put); most = omega (arith, w.most.1, x.most.1, z.most) }
