-- Running a sheet (document 01, "Sheets and lines"): record after record, each an answer line, until the sheet's end or a
-- refusal that ends it.
use Rattle.std.specs.Prelude.{ℕ, zero, suc, ◌+◌, List, length}
use Rattle.number.specs.Number.{splice}
use Rattle.lines.specs.Line.{line}
use Rattle.session.specs.Table.{Session}
use Rattle.rules.specs.Formula.{Formula, choose, not, Formula.◌≐◌, Formula.◌≼◌}
use Rattle.rules.specs.Sound.{sound}
use Rattle.rules.specs.Step.{step}
use Rattle.rules.specs.LastLine.{live_tasks, undelivered_links, dropped_count}
use Rattle.record.specs.RecordReading.{record_at}
use Rattle.record.specs.Sheet.{head_refusal, first_record}

-- "the line or record memory has under 32 bytes free" is check 1; "one beyond the memory leaves nothing free"
abbrev pub line_room : ℕ
line_room = 32

-- Lines: the lent memory, and how much of it is used.
pub record Lines : Type 0 where
  pub bytes : List ℕ
  pub used : ℕ

abbrev pub has_room : Lines → Formula
has_room l = l.used + line_room ≼ length l.bytes

-- "An answer line goes into the lent line memory after the lines already there."
unfoldable pub with_line : Lines → ℕ → ℕ → ℕ → Lines
with_line l a b c = record { bytes = splice l.bytes l.used (line a b c); used = l.used + length (line a b c) }

-- Where a run stands: the session, the lines, the place in the sheet of the record that was not run or of the sheet's end, the
-- number of the record begun last (0 for the sheet's first number), and the refusal that ended it: 0 at the sheet's end.
pub record Run : Type 0 where
  pub session : Session
  pub lines : Lines
  pub place : ℕ
  pub number : ℕ
  pub ending : ℕ

abbrev pub ended : Session → Lines → ℕ → ℕ → ℕ → Run
ended s l at k n = record { session = s; lines = l; place = at; number = k; ending = n }

-- "Refusals 2 to 6 end the sheet with that line, numbered as the record begun"
unfoldable pub ended_by : Session → Lines → ℕ → ℕ → ℕ → Run
ended_by s l at k n = ended s (with_line l k n 0) at k n

-- The records from a place on, in so many steps, after k records. Each record meets 1 ("1 ends a run without a line, the record
-- not run"), then 2, then 3, 4 and 6 as it is read, and then is a single operation.
unfoldable pub run_from : List ℕ → ℕ → ℕ → ℕ → Session → Lines → Run
run_from sheet zero at k s l = ended s l at k 0
run_from sheet (suc steps) at k s l =
    let r = record_at sheet at in
    let reply = step s r.operation in
    choose (length sheet ≼ at) (ended s l at k 0)
    (choose (not (has_room l)) (ended s l at (k + 1) 1)
    (choose (not (sound s)) (ended_by s l at (k + 1) 2)
    (choose (not (r.refused ≐ 0)) (ended_by s l at (k + 1) r.refused)
    (run_from sheet steps r.next (k + 1) reply.leaves (with_line l (k + 1) reply.refused reply.made)))))

-- A whole sheet over a session: 1, then 2, then the first number's 3, 4 and 5 as record 0, then the records. Each record takes a
-- byte at least, so that the sheet's length is steps enough.
unfoldable pub run_sheet : List ℕ → Session → Lines → Run
run_sheet sheet s l =
    choose (not (has_room l)) (ended s l 0 0 1)
    (choose (not (sound s)) (ended_by s l 0 0 2)
    (choose (not (head_refusal sheet ≐ 0)) (ended_by s l 0 0 (head_refusal sheet))
    (run_from sheet (length sheet) (first_record sheet) 0 s l)))

-- A sheet from a place on, after k records: place 0 is its first number, any other a record.
unfoldable pub run_at : List ℕ → ℕ → ℕ → Session → Lines → Run
run_at sheet at k s l = choose (at ≐ 0) (run_sheet sheet s l) (run_from sheet (length sheet) at k s l)

-- "The last line, printed after any ending, gives live tasks, undelivered links, dropped."
unfoldable pub last_line : Session → List ℕ
last_line s = line (live_tasks s) (undelivered_links s) (dropped_count s)
