-- `lines::write_marked` meets its contract: the digits and then the mark, by `splice-marked`.
use native.Mathlib.Omega.{arith}
use Rattle.lines.specs.LineLaws.{marked-length, splice-marked}
use Rattle.lines.proofs.write_marked.Goals as goal

pub write-last-requires : goal.write-last-requires
write-last-requires c = let a = c.args in omega (arith, marked-length a.v a.mark)

pub bounds-out-last : goal.bounds-out-last
bounds-out-last c = let a = c.args in omega (arith, marked-length a.v a.mark)

pub overflow_add-result : goal.overflow_add-result
overflow_add-result c = let a = c.args in omega (arith, marked-length a.v a.mark)

pub returns : goal.returns
returns c =
    let a = c.args in
    let w = c.write-last.ensures in record { answer = omega (arith, marked-length a.v a.mark); bytes = rw (w.bytes, w.answer) (splice-marked a.out.now a.at a.v a.mark c.requires) }
