-- `class::steps::print_head` meets its contract: the line by `write_head`, the report by `at_stage`.
use native.Mathlib.Omega.{arith}
use Rattle.class.proofs.steps.print_head.Goals as goal

pub returns : goal.returns
returns c =
    let w = c.write_head-used.ensures in
    record { report = rw c.start.ensures at c.at_stage.ensures; line = w.put; short = omega (arith, w.most) }
