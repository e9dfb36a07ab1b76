-- What the sheet program prints (document 01, "Sheets and lines"). It "never meets 1": its lines are taken away as they come, so
-- that no line memory is spoken of.
use Rattle.std.specs.Prelude.{ℕ, zero, suc, ◌+◌, List, [], ◌++◌, ◌≡◌, refl, length}
use Rattle.lines.specs.Line.{line}
use Rattle.session.specs.Table.{Session}
use Rattle.session.specs.Fresh.{fresh_session}
use Rattle.rules.specs.Formula.{test, choose, not, Formula.◌≐◌, Formula.◌≼◌}
use Rattle.rules.specs.Sound.{sound}
use Rattle.rules.specs.Step.{step}
use Rattle.record.specs.RecordReading.{record_at}
use Rattle.record.specs.Sheet.{head_refusal, first_record}
use Rattle.sheet.specs.declared.Next.{Next}
use Rattle.sheet.specs.declared.Next.TheVariants.{At, LastLine, Nothing}
use Rattle.sheet.specs.Run.{last_line}

-- Bytes printed, and the session that is left.
pub record Printed : Type 0 where
  pub text : List ℕ
  pub session : Session

abbrev pub prints : List ℕ → Session → Printed
prints x s = record { text = x; session = s }

abbrev pub after : List ℕ → Printed → Printed
after x p = prints (x ++ p.text) p.session

-- The lines of the records from a place on, in so many steps, after k records: each
-- record meets 2, then 3, 4 and 6 as it is read, and then is a single operation, and its
-- line has "its number from 1, the refusal (0 if accepted), and the handle or link made".
unfoldable pub print_from : List ℕ → ℕ → ℕ → ℕ → Session → Printed
print_from sheet zero at k s = prints [] s
print_from sheet (suc steps) at k s =
    let r = record_at sheet at in
    let reply = step s r.operation in
    choose (length sheet ≼ at) (prints [] s)
    (choose (not (sound s)) (prints (line (k + 1) 2 0) s)
    (choose (not (r.refused ≐ 0)) (prints (line (k + 1) r.refused 0) s)
    (after (line (k + 1) reply.refused reply.made) (print_from sheet steps r.next (k + 1) reply.leaves))))

-- The lines of a whole sheet: 2, then the first number's 3, 4 and 5 as record 0, then the records.
unfoldable pub print_sheet : List ℕ → Session → Printed
print_sheet sheet s =
    choose (not (sound s)) (prints (line 0 2 0) s)
    (choose (not (head_refusal sheet ≐ 0)) (prints (line 0 (head_refusal sheet) 0) s)
    (print_from sheet (length sheet) (first_record sheet) 0 s))

-- All that the program prints: the lines from a fresh session, and "the last line, printed after any ending".
abbrev pub closing : Printed → Printed
closing p = prints (p.text ++ last_line p.session) p.session

unfoldable pub output : List ℕ → List ℕ
output sheet = (closing (print_sheet sheet fresh_session)).text

-- The lines from a place on, after k records: place 0 is the sheet's first number, any other a record.
unfoldable pub print_at : List ℕ → ℕ → ℕ → Session → Printed
print_at sheet at k s = choose (at ≐ 0) (print_sheet sheet s) (print_from sheet (length sheet) at k s)

-- A place has no more records before it than bytes.
abbrev pub records_before : ℕ → ℕ → ℕ
records_before at k = choose (k ≼ at) k at

-- What is printed from where a sheet goes on, and the session that is left.
unfoldable pub print_next : List ℕ → Next → Session → Printed
print_next sheet (At at k) s = closing (print_at sheet at (records_before at k) s)
print_next sheet LastLine s = prints (last_line s) s
print_next sheet Nothing s = prints [] s

abbrev pub output_from : List ℕ → Next → Session → List ℕ
output_from sheet next s = (print_next sheet next s).text

pub output-start : (sheet : List ℕ) → output_from sheet (At 0 0) fresh_session ≡ output sheet
unfolding output print_next print_at test
output-start sheet = refl
