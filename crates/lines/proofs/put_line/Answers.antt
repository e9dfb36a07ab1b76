-- `lines::put_line` meets its contract: a line put at the start of the tail is one put at its place, by `splice_tail`.
use native.Mathlib.Omega.{arith}
use Rattle.lines.specs.Line.{line}
use Rattle.lines.specs.LineLaws.{splice_tail}
use Rattle.lines.proofs.put_line.Goals as goal

pub returns : goal.returns
returns c =
    let w = c.write_line.ensures in
    let a = c.args in
    record { answer = rw w.answer; bytes = rw w.bytes (splice_tail a.lines.now a.used (line a.a a.b a.c) (omega arith)) }
