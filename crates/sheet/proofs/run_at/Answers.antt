-- `sheet::run_at` meets its contract: one line where the start is refused, and else the records.
use mathlib.Core.Path.{ap, sym, ◌∙◌}
use lib.Dec.{lit<}
use Rattle.session.specs.Table.{read}
use Rattle.record.specs.RecordReading.{place_told}
use Rattle.sheet.specs.Going.{lines_of}
use Rattle.sheet.specs.WholeSheet.{start-refused, start-behind, ends_refused}
use Rattle.sheet.proofs.run_at.Goals as goal

pub run_records-requires : goal.run_records-requires
run_records-requires c =
    let a = c.args in (
      c.requires.1,
      (start-behind a.sheet.now (read a.memory.now) a.at a.done c.requires.2 (lines_of a.lines.now a.used)
          c.requires.0 _ (sym c.start_at.ensures ∙ ap place_told c.in-Ok.is)).0,
    )

pub returns-in-Ok : goal.returns-in-Ok
returns-in-Ok c =
    let a = c.args in
    rw (← (start-behind a.sheet.now (read a.memory.now) a.at a.done c.requires.2
    (lines_of a.lines.now a.used) c.requires.0 _
    (sym c.start_at.ensures ∙ ap place_told c.in-Ok.is)).1) c.run_records.ensures

pub put_answer-requires : goal.put_answer-requires
put_answer-requires c =
    let a = c.args in (
      c.requires.0,
      rw c.from.ensures (start-refused a.sheet.now (read a.memory.now) a.at a.done c.requires.2 (lines_of a.lines.now a.used)
          c.requires.0 _ (sym c.start_at.ensures ∙ ap place_told c.in-Err.is)).0,
      lit< tt,
    )

pub returns-in-Err : goal.returns-in-Err
returns-in-Err c =
    let a = c.args in
    ends_refused a.sheet.now a.memory.now a.lines.now a.used a.at a.done c.requires.2
    c.requires.0 _ _ _ (sym c.start_at.ensures ∙ ap place_told c.in-Err.is)
    (rw c.from.ensures at c.put_answer.ensures)
