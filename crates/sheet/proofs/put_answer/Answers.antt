-- `sheet::put_answer` meets its contract: a line with small numbers fits.
use Prim.Native.Nat.{ℕ, ◌+◌, ◌≤◌, ◌<◌, ◌^◌}
use native.Mathlib.Omega.{arith}
use lib.ListN.{length}
use Rattle.lines.specs.Line.{line}
use Rattle.lines.specs.LineLaws.{line_short}
use Rattle.sheet.specs.Run.{with_line}
use Rattle.sheet.proofs.put_answer.Goals as goal

fits : (used long a b c : ℕ) → used + 32 ≤ long → a < 2 ^ 64 → b < 100 → c < 10000 → used + length (line a b c) ≤ long
fits used long a b c h x y z = omega (arith, line_short a b c x y z)

pub put_line-requires : goal.put_line-requires
put_line-requires c =
    fits c.args.used _ c.args.a c.args.b c.args.c c.requires.0 (omega arith) c.requires.1 c.requires.2

pub returns : goal.returns
unfolding with_line
returns c =
    let w = c.put_line.ensures in
    cc (w.answer, w.bytes)
