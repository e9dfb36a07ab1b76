-- `class_report::run` ends with its turns: there is room for each step's line, the session in memory stays kept, the pending sheet lies
-- in one half of the memory for two, and no more has been read than is sure to come.
use Rattle.std.proofs.Common.{◌+◌, ◌≤◌, ◌≡◌, length}
use Rattle.session.specs.Table.{words}
use Rattle.sheet.specs.Printing.{Ready}
use Rattle.class.specs.Halves.{InHalf}
use Rattle.class_input.specs.Ahead.{Ahead}
use Rattle.class_input.specs.Window.{Inside, size_of}
use Rattle.class_report.proofs.run.Given as goal

abbrev pub invariant-loop : goal.invariant-loop
invariant-loop g l = record {
  ready : Ready l.memory l.lines;
  memory_long : length l.memory ≡ words;
  room_long : length l.room ≡ 65536;
  lines_long : length l.lines ≡ 16384;
  line_free : l.filled + 128 ≤ 16384;
  in_half : InHalf l.report.pending;
  input_long : length l.input ≡ 16384;
  inside : Inside l.window l.input;
  ahead : Ahead l.report (size_of l.window);
}
