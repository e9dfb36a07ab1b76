-- `class::steps::run_sheet` meets its contract: the counts that the run gives are in the line and in the tally.
use Rattle.class.proofs.steps.run_sheet.Goals as goal

pub returns : goal.returns
returns c =
    let b = c.sheet_in-bytes.ensures in
    let w = rw b at c.run_with-ran.ensures in
    let e = c.write_entry-used.ensures in
    record { tally = w.tally; line = rw w.answer at e.put; short = e.most; session = w.memory }
