-- `class_report::gather` meets its contract: the line lies within the memory behind the lines before it.
use Rattle.std.proofs.Common.{◌≡◌, arith, length}
use Rattle.lines.specs.LineLaws.{splice_tail}
use Rattle.class_report.specs.ProgramStepped.{step_on}
use Rattle.class_report.proofs.gather.Goals as goal

pub overflow_add-result : goal.overflow_add-result
overflow_add-result c = omega (arith, c.take-step.ensures.moved.told.short, c.requires.ready_2.1)

pub returns-clause-line : goal.returns-clause-line
returns-clause-line c =
    let a = c.args in
    let line = c.take-step.ensures.moved.told.line in
    let long : length a.lines.now ≡ 16384 = omega arith in
    let text = (step_on a.room.now a.place a.end a.report a.memory.now).text in
    record {
      place = omega (arith, line.place);
      written = rw line.written (rw long at (splice_tail a.lines.now a.filled text (omega (arith, c.requires.ready_2.1))));
    }
