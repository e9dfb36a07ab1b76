-- `class::steps::print_last` meets its contract: the line by `write_last`, the report by `at_stage`.
use Rattle.class.proofs.steps.print_last.Goals as goal

pub returns : goal.returns
returns c =
    let w = c.write_last-used.ensures in
    record { report = rw c.start.ensures at c.at_stage.ensures; line = w.put; short = w.most }
