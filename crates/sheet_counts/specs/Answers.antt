-- The answer lines of a sheet, one by one, and the four counts that a class report tells of it (document 02, E1).
use Rattle.std.specs.Prelude.{ℕ, zero, suc, ◌+◌, List, [], ◌∷◌, ◌++◌, length}
use Rattle.lines.specs.Line.{line}
use Rattle.session.specs.Table.{Session}
use Rattle.session.specs.Fresh.{fresh_session}
use Rattle.rules.specs.declared.Operation.{Operation}
use Rattle.rules.specs.Formula.{Formula, choose, not, Formula.◌≐◌, Formula.◌≼◌, Formula.◌and◌}
use Rattle.rules.specs.Sound.{sound}
use Rattle.rules.specs.Step.{step}
use Rattle.rules.specs.LastLine.{dropped_count}
use Rattle.record.specs.RecordReading.{record_at}
use Rattle.record.specs.Sheet.{head_refusal, first_record}
use Rattle.sheet.specs.SheetPrinted.{print_sheet}
use Rattle.sheet_counts.specs.declared.Tally.{Tally}

-- An answer line, and the code of the operation that it answers: 0 where no operation was read.
pub record Answered : Type 0 where
  pub number : ℕ
  pub refused : ℕ
  pub made : ℕ
  pub code : ℕ

abbrev pub answered : ℕ → ℕ → ℕ → ℕ → Answered
answered number refused made code = record { number = number; refused = refused; made = made; code = code }

abbrev pub line_of : Answered → List ℕ
line_of a = line a.number a.refused a.made

-- the answer to an operation that was read, after k records
abbrev pub answer_to : ℕ → Session → Operation → Answered
answer_to k s op = answered (k + 1) (step s op).refused (step s op).made op.code

unfoldable pub lines_of : List Answered → List ℕ
lines_of [] = []
lines_of (a ∷ more) = line_of a ++ lines_of more

-- The answers to the records from a place on, in so many steps, after k records: by the recursion that prints them.
unfoldable pub answers_from : List ℕ → ℕ → ℕ → ℕ → Session → List Answered
answers_from sheet zero at k s = []
answers_from sheet (suc steps) at k s =
    let r = record_at sheet at in
    choose (length sheet ≼ at) []
    (choose (not (sound s)) (answered (k + 1) 2 0 0 ∷ [])
    (choose (not (r.refused ≐ 0)) (answered (k + 1) r.refused 0 0 ∷ [])
    (answer_to k s r.operation ∷ answers_from sheet steps r.next (k + 1) (step s r.operation).leaves)))

-- The answers of a whole sheet; the sheet's first number has one where it is refused.
unfoldable pub answers_on : List ℕ → Session → List Answered
answers_on sheet s =
    choose (not (sound s)) (answered 0 2 0 0 ∷ [])
    (choose (not (head_refusal sheet ≐ 0)) (answered 0 (head_refusal sheet) 0 0 ∷ [])
    (answers_from sheet (length sheet) (first_record sheet) 0 s))

-- From a fresh session, as the sheet program runs it.
abbrev pub answers : List ℕ → List Answered
answers sheet = answers_on sheet fresh_session

-- "refused records (lines with a refusal, line 0 too)"
abbrev pub is_refused : Answered → Formula
is_refused a = not (a.refused ≐ 0)

-- "starts": those that were accepted
abbrev pub is_start : Answered → Formula
is_start a = a.code ≐ 11 and a.refused ≐ 0

-- how many of a list are so
unfoldable pub how_many : {A : Type 0} → (A → Formula) → List A → ℕ
how_many f [] = 0
how_many f (a ∷ more) = choose (f a) (1 + how_many f more) (how_many f more)

-- "records (answer lines), refused records .., starts and dropped": the four counts of answers and of the session left
unfoldable pub counts_in : List Answered → Session → Tally
counts_in list s = record {
  records = length list;
  refused = how_many is_refused list;
  starts = how_many is_start list;
  dropped = dropped_count s;
}

-- a sheet's four counts
unfoldable pub counts_of : List ℕ → Tally
counts_of sheet = counts_in (answers sheet) (print_sheet sheet fresh_session).session

-- the counts of no sheet
abbrev pub no_counts : Tally
no_counts = record { records = 0; refused = 0; starts = 0; dropped = 0 }
