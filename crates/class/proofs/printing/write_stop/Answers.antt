-- `class::printing::write_stop` meets its contract: the word and then the number, by `put_then`.
use native.Mathlib.Omega.{arith}
use Rattle.text.specs.Put.{put_then}
use Rattle.class_rules.specs.Report.{stop_line}
use Rattle.class.proofs.printing.write_stop.Goals as goal

pub returns : goal.returns
unfolding stop_line
returns c =
    let w = c.write_bytes-number.ensures in
    let z = c.write_number.ensures in
    record { put = put_then (omega arith) w z.put; most = omega (arith, w.place, z.most.1) }
