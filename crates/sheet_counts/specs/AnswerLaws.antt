-- The counts are those of what is printed: by its lines, and by its bytes alone.
use Rattle.std.specs.Prelude.{ℕ, zero, suc, ◌+◌, List, [], ◌∷◌, ◌++◌, ◌≡◌, refl, length}
use Rattle.std.proofs.Common.{append_assoc, append-nil, ap, sym, ◌∙◌, arith}
use Rattle.lines.specs.Line.{line, newline}
use Rattle.session.specs.Table.{Session}
use Rattle.session.specs.Fresh.{fresh_session}
use Rattle.rules.specs.Formula.{Formula, test, choose, not, Formula.◌≐◌, Formula.◌≼◌}
use Rattle.rules.specs.FormulaLaws.{Case, decide, choose_yes, choose_no, Case.it_does, Case.it_does_not}
use Rattle.rules.specs.Sound.{sound}
use Rattle.rules.specs.LastLine.{live_tasks, undelivered_links, dropped_count}
use Rattle.record.specs.RecordReading.{record_at}
use Rattle.record.specs.Sheet.{head_refusal, first_record}
use Rattle.sheet.specs.Run.{last_line}
use Rattle.sheet.specs.SheetPrinted.{Printed, print_from, print_sheet, output}
use Rattle.sheet_counts.specs.Answers.{Answered, answered, line_of, lines_of, answer_to, answers_from, answers_on, answers}
use Rattle.sheet_counts.specs.Answers.{is_refused, how_many, counts_in, counts_of}
use Rattle.sheet_counts.specs.HowMany.{one, how_many-next}
use Rattle.sheet_counts.specs.TextRead.{pieces, newlines, has_refusal, refused_lines}
use Rattle.sheet_counts.specs.TextReadLaws.{pieces-line, newlines-line, body, refused-line}

-- two choices by the same formula
pub alike : (P : Printed → List Answered → Type 0) (f : Formula) (a b : Printed) (x y : List Answered)
    → P a x → P b y → P (choose f a b) (choose f x y)
alike P f a b x y p q = go (decide f)
  where
    go : Case f → P (choose f a b) (choose f x y)
    go (it_does h) = rw (choose_yes f a b h, choose_yes f x y h) p
    go (it_does_not n) = rw (choose_no f a b n, choose_no f x y n) q

abbrev Says : Printed → List Answered → Type 0
Says p list = p.text ≡ lines_of list

-- a line alone, of a refusal of no operation
alone : (number refused : ℕ) → line number refused 0 ≡ lines_of (answered number refused 0 0 ∷ [])
unfolding lines_of
alone number refused = sym (append-nil (line number refused 0))

from-printed : (sheet : List ℕ) (n at k : ℕ) (s : Session) → (print_from sheet n at k s).text ≡ lines_of (answers_from sheet n at k s)
unfolding print_from answers_from lines_of
from-printed sheet zero at k s = refl
from-printed sheet (suc n) at k s =
    alike Says (length sheet ≼ at) _ _ _ _ refl
    (alike Says (not (sound s)) _ _ _ _ (alone _ _)
    (alike Says (not ((record_at sheet at).refused ≐ 0)) _ _ _ _ (alone _ _)
    (ap (λ (l : List ℕ). line_of (answer_to k s (record_at sheet at).operation) ++ l) (from-printed sheet n _ (k + 1) _))))

-- The answers of a sheet, on any session, are its lines.
pub answers-printed : (sheet : List ℕ) (s : Session) → (print_sheet sheet s).text ≡ lines_of (answers_on sheet s)
unfolding print_sheet answers_on
answers-printed sheet s =
    alike Says (not (sound s)) _ _ _ _ (alone _ _)
    (alike Says (not (head_refusal sheet ≐ 0)) _ _ _ _ (alone _ _) (from-printed sheet (length sheet) (first_record sheet) 0 s))

-- All that the sheet program prints: a line for each answer, and the last line.
pub counts-output : (sheet : List ℕ) → output sheet ≡ lines_of (answers sheet) ++ last_line (print_sheet sheet fresh_session).session
unfolding output
counts-output sheet =
    ap (λ (l : List ℕ). l ++ last_line (print_sheet sheet fresh_session).session) (answers-printed sheet fresh_session)

-- Its last number is the count of dropped deliveries.
pub dropped-output : (sheet : List ℕ)
    → let s = (print_sheet sheet fresh_session).session in
    output sheet ≡ lines_of (answers sheet) ++ line (live_tasks s) (undelivered_links s) (counts_of sheet).dropped
unfolding last_line counts_of counts_in
dropped-output sheet = counts-output sheet

-- one newline for each answer
newlines-answers : (list : List Answered) (rest : List ℕ) → newlines (lines_of list ++ rest) ≡ length list + newlines rest
unfolding lines_of
newlines-answers [] rest = omega arith
newlines-answers (a ∷ more) rest =
    ap newlines (append_assoc (line_of a) (lines_of more) rest)
    ∙ omega (arith, newlines-line a.number a.refused a.made (lines_of more ++ rest), newlines-answers more rest)

newlines_last : (s : Session) → newlines (last_line s) ≡ 1
unfolding last_line how_many
newlines_last s =
    ap newlines (sym (append-nil (last_line s))) ∙ newlines-line (live_tasks s) (undelivered_links s) (dropped_count s) []

-- "records (answer lines)": the output has one line more than the sheet's count of records.
pub newlines-output : (sheet : List ℕ) → newlines (output sheet) ≡ (counts_of sheet).records + 1
unfolding counts_of counts_in
newlines-output sheet =
    let s = (print_sheet sheet fresh_session).session in
    ap newlines (counts-output sheet) ∙ omega (arith, newlines-answers (answers sheet) (last_line s), newlines_last s)

refused-answers : (list : List Answered) → refused_lines (lines_of list) ≡ how_many is_refused list
unfolding refused_lines lines_of how_many pieces test
refused-answers [] = refl
refused-answers (a ∷ more) =
    let l = body a.number a.refused a.made in
    let e : one (has_refusal l) ≡ one (is_refused a) = rw (refused-line a.number a.refused a.made) in
    ap (how_many has_refusal) (pieces-line a.number a.refused a.made (lines_of more))
    ∙ omega
    (arith, how_many-next has_refusal l (pieces newline (lines_of more)), how_many-next is_refused a more, e, refused-answers more)

-- "refused records (lines with a refusal, line 0 too)": the lines printed before the last one that have a refusal.
pub refused-printed : (sheet : List ℕ) → refused_lines (print_sheet sheet fresh_session).text ≡ (counts_of sheet).refused
unfolding counts_of counts_in
refused-printed sheet = ap refused_lines (answers-printed sheet fresh_session) ∙ refused-answers (answers sheet)
