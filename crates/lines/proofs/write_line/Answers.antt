-- `lines::write_line` meets its contract: its three numbers, one behind the other, by `splice-line`.
use native.Mathlib.Omega.{arith}
use Rattle.lines.specs.LineLaws.{line-parts, splice-line}
use Rattle.lines.proofs.write_line.Goals as goal

pub write_marked-first-requires : goal.write_marked-first-requires
write_marked-first-requires c = let a = c.args in omega (arith, line-parts a.a a.b a.c)

pub write_marked-second-requires : goal.write_marked-second-requires
write_marked-second-requires c =
    let a = c.args in omega (arith, line-parts a.a a.b a.c)

pub write_marked-requires : goal.write_marked-requires
write_marked-requires c =
    let a = c.args in
    omega (arith, line-parts a.a a.b a.c)

pub returns : goal.returns
returns c =
    let a = c.args in
    let x = c.write_marked-first.ensures in
    let y = c.write_marked-second.ensures in
    let z = c.write_marked.ensures in record { answer = omega (arith, line-parts a.a a.b a.c); bytes = rw (z.bytes, y.answer, y.bytes, x.answer, x.bytes) (splice-line a.out.now a.a a.b a.c c.requires) }
