-- A part of a sheet's lines: what lent line memory holds of them, and where the next part goes on.
use Rattle.std.specs.Prelude.{ℕ, ◌+◌, ◌-◌, ◌≤◌, List, ◌≡◌, length, take, Result, Result.Err, IsOkAnd}
use Rattle.session.specs.Table.{Session, Wrote, read}
use Rattle.rules.specs.Formula.{Holds, choose, Formula.◌≐◌}
use Rattle.rules.specs.Sound.{kept}
use Rattle.rules.specs.declared.refusals.Refusal.{Refusal}
use Rattle.rules.specs.declared.refusals.Refusal.TheVariants.{NoRoom}
use Rattle.sheet.specs.declared.Next.{Next}
use Rattle.sheet.specs.declared.Next.TheVariants.{At, LastLine, Nothing}
use Rattle.sheet.specs.declared.Part.{Part}
use Rattle.sheet.specs.Run.{Lines, line_room, has_room, Run, run_at, last_line}
use Rattle.sheet.specs.Going.{lines_of, lent}
use Rattle.sheet.specs.Closing.{with_last}
use Rattle.sheet.specs.SheetPrinted.{after, records_before, print_next}

-- Where a part stands: the session, the lines, and where the next one goes on.
pub record PartRun : Type 0 where
  pub session : Session
  pub lines : Lines
  pub next : Next

abbrev pub part_run : Session → Lines → Next → PartRun
part_run s l n = record { session = s; lines = l; next = n }

-- The last line behind the lines, if there is room for it.
unfoldable pub last_part : Session → Lines → PartRun
last_part s l = choose (has_room l) (part_run s (with_last s l) Nothing) (part_run s l LastLine)

-- A run that met 1 goes on at the record that was not run; after any other ending comes the last line.
unfoldable pub is_going_on : Run → PartRun
is_going_on r =
    choose (r.ending ≐ 1) (part_run r.session r.lines (At r.place (r.number - 1))) (last_part r.session r.lines)

unfoldable pub part_from : List ℕ → Next → Session → Lines → PartRun
part_from sheet (At at k) s l = is_going_on (run_at sheet at (records_before at k) s l)
part_from sheet LastLine s l = last_part s l
part_from sheet Nothing s l = part_run s l Nothing

-- How many parts are left at most: each but the last two goes on behind where it began.
unfoldable pub parts_left : List ℕ → Next → ℕ
parts_left sheet (At at k) = length sheet - at + 2
parts_left sheet LastLine = 1
parts_left sheet Nothing = 0

-- What the code tells of a part, and the lines that it leaves.
pub record Tells (lines : List ℕ) (p : Part) (t : PartRun) : Type 0 where
  pub bytes : lines ≡ t.lines.bytes
  pub used : p.used ≡ t.lines.used
  pub next : p.next ≡ t.next

-- Where nothing is left, the last line fitted into the room for one.
pub record TellsLast (memory lines : List ℕ) (p : Part) (t : PartRun) : Type 0 where
  pub tells : Tells lines p t
  pub short : t.next ≡ Nothing → length (last_line (read memory)) ≤ line_room

-- A part: memories and answer are those of `part_from`. The bytes of the lines, and what is printed from where the next part goes
-- on, are what is printed from where this one began; they leave the same session.
pub record PartOf (sheet : List ℕ) (from : Next) (before after' lines lines' : List ℕ) (p : Part) : Type 0 where
  pub session : Wrote before after' (part_from sheet from (read before) (lines_of lines 0)).session
  pub tells : Tells lines' p (part_from sheet from (read before) (lines_of lines 0))
  pub printed : after (take p.used lines') (print_next sheet p.next (read after')) ≡ print_next sheet from (read before)
  pub fits : p.used ≤ length lines'
  pub keeps : Holds (kept (read before)) → Holds (kept (read after'))
  pub further : parts_left sheet p.next ≤ parts_left sheet from - 1

-- Under check 1 nothing changes, and the answer is its refusal.
unfoldable pub Parted : List ℕ → Next → List ℕ → List ℕ → List ℕ → List ℕ → Result Part Refusal → Type 0
Parted sheet from before after' lines lines' r =
    choose (lent before (lines_of lines 0))
    (IsOkAnd r (λ p. PartOf sheet from before after' lines lines' p))
    ((after' ≡ before) × (lines' ≡ lines) × (r ≡ Err NoRoom))
