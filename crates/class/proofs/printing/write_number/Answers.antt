-- `class::printing::write_number` meets its contract: no number of 64 bits has more than twenty digits.
use native.Mathlib.Omega.{arith}
use Rattle.class.specs.LineLengths.{marked-most}
use Rattle.class.proofs.printing.write_number.Goals as goal

pub write_marked-requires : goal.write_marked-requires
write_marked-requires c = let a = c.args in omega (arith, marked-most a.v a.mark (omega arith))

pub returns : goal.returns
returns c =
    let w = c.write_marked.ensures in
    let a = c.args in
    let m = marked-most a.v a.mark (omega arith) in
    record { put = record { place = w.answer; written = w.bytes }; most = (m, omega (arith, w.answer)) }
