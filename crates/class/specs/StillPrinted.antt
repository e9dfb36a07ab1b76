-- What is still printed from where a report stands: the report by one pass with a pending entry, with the sums as the tally has
-- them and the numbers as the byte-fed reader reads them.
use Rattle.std.specs.Prelude.{ℕ, zero, suc, ◌+◌, ◌-◌, List, [], ◌∷◌, ◌++◌, drop}
use Rattle.number.specs.Number.{limit32, read_at, Reading}
use Rattle.number.specs.Fed.{feeds}
use Rattle.rules.specs.Formula.{choose, Formula.◌≼◌}
use Rattle.sheet_counts.specs.declared.Tally.{Tally}
use Rattle.class.specs.declared.Report.{Report}
use Rattle.class.specs.declared.Stage.{Stage}
use Rattle.class.specs.declared.Stage.TheVariants.{Head, Count, Learner, Turn, Length, Sheet, Line, Last, Nothing}
use Rattle.class_rules.specs.Report.{Entry, met, fits, sheet_at, head, entry_lines, last_line}
use Rattle.class_rules.specs.OnePass.{learner_of, printed, kept}
use Rattle.class_rules.specs.Totals.{raised_by}
use Rattle.class.specs.Steps.{pending_in}

-- A stop of that number, or the end: the line of the pending entry, and the last line.
unfoldable pub end_text : List Entry → Tally → ℕ → List ℕ
end_text pending t stop = entry_lines pending ++ last_line (raised_by t pending) stop

-- From the place of a sheet on, of an entry's length, turn or learner, each as it is read; `rest` is what follows the entry.
module _ (file : List ℕ) (rest : ℕ → List Entry → Tally → List ℕ) (pending : List Entry) where
  unfoldable pub sheet_text : ℕ → ℕ → Tally → ℕ → ℕ → List ℕ
  sheet_text learner turn t size at =
      let e : Entry = record { learner = learner; turn = turn; sheet = sheet_at file at size } in
      choose (fits file at size)
      (choose (learner_of pending ≼ learner)
      (entry_lines (printed pending e) ++ rest (at + size) (kept pending e ∷ []) (raised_by t (printed pending e)))
      (end_text pending t 23))
      (end_text pending t 22)

  unfoldable pub length_text : ℕ → ℕ → Tally → Reading → List ℕ
  length_text learner turn t r = met r (end_text pending t) (sheet_text learner turn t)

  unfoldable pub turn_text : ℕ → Tally → Reading → List ℕ
  turn_text learner t r = met r (end_text pending t) (λ turn a. length_text learner turn t (read_at limit32 file a))

  unfoldable pub learner_text : Tally → Reading → List ℕ
  learner_text t r = met r (end_text pending t) (λ learner a. turn_text learner t (read_at limit32 file a))

-- so many entries from a place on, and then the end
unfoldable pub entries_text : List ℕ → ℕ → ℕ → List Entry → Tally → List ℕ
entries_text file zero at pending t = end_text pending t 0
entries_text file (suc left) at pending t = learner_text file (entries_text file left) pending t (read_at limit32 file at)

unfoldable pub count_text : List ℕ → List Entry → Tally → Reading → List ℕ
count_text file pending t r = met r (end_text pending t) (λ count a. entries_text file count a pending t)

module _ (file : List ℕ) (at : ℕ) (r : Report) where
  -- the number that stands here, of which some bytes may have been fed before
  abbrev pub here : Reading
  here = feeds limit32 r.number (drop at file) at

  -- the entries behind this one
  abbrev pub behind : ℕ → List Entry → Tally → List ℕ
  behind = entries_text file (r.left - 1)

  abbrev pub waiting : List Entry
  waiting = pending_in file r.pending

  abbrev pub text_at : Stage → List ℕ
  text_at Head = head ++ count_text file waiting r.tally (read_at limit32 file at)
  text_at Count = count_text file waiting r.tally here
  text_at Learner = learner_text file behind waiting r.tally here
  text_at Turn = turn_text file behind waiting r.learner r.tally here
  text_at Length = length_text file behind waiting r.learner r.turn r.tally here
  text_at Sheet = sheet_text file behind waiting r.learner r.turn r.tally r.length at
  text_at Line = end_text waiting r.tally r.stop
  text_at Last = last_line r.tally r.stop
  text_at Nothing = []

  unfoldable pub report_from : List ℕ
  report_from = text_at r.stage
