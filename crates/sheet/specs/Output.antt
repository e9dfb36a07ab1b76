-- Memory that is large enough for a sheet's lines holds, after a run and the last line, what the sheet program prints.
use Rattle.std.specs.Prelude.{ℕ, ◌+◌, ◌*◌, ◌≤◌, ◌<◌, List, ◌≡◌, length}
use Rattle.std.proofs.Common.{ap, sym, ◌∙◌, arith}
use Rattle.number.specs.Splice.{splice_to}
use Rattle.session.specs.Table.{Session, read, words}
use Rattle.session.specs.declared.Field.TheVariants.{Objects, Links, LinkState}
use Rattle.session.specs.Names.{delivered}
use Rattle.session.specs.Fresh.{fresh_session}
use Rattle.rules.specs.Formula.{Holds, Formula.◌≐◌}
use Rattle.rules.specs.FormulaLaws.{passes}
use Rattle.rules.specs.Reading.{is_live, is_undelivered}
use Rattle.rules.specs.Sound.{sound}
use Rattle.rules.specs.LastLine.{live_tasks, undelivered_links, dropped_count}
use Rattle.laws.specs.Counting.{count_most}
use Rattle.laws.specs.Rows.Name.{counts, dropped}
use Rattle.laws.specs.ByName.{kept-sound, sound_by_name}
use Rattle.laws.specs.Runs.{always_kept}
use Rattle.sheet.specs.Told.{Ended}
use Rattle.sheet.specs.Run.{Lines, has_room, Run, run_sheet, last_line}
use Rattle.sheet.specs.Going.{lines_of, lent, Ends}
use Rattle.sheet.specs.WholeSheet.{Ran}
use Rattle.sheet.specs.Closing.{closed, closed-room, line-closing}
use Rattle.sheet.specs.NeverFull.{never_full}
use Rattle.sheet.specs.SheetPrinted.{Printed, prints, after, print_sheet, output}
use Rattle.sheet.specs.SheetParts.{text, whole_part, rest_none}
use Rattle.sheet.specs.SheetDemand.{sheet_demand}

-- What a run leaves, as something printed.
abbrev pub left : Run → Printed
left r = prints (text r.lines) r.session

-- The theorem, for any session: with 11 bytes for two bytes of the sheet and 64 more, a run leaves the lines that are printed.
pub whole-printed : (sheet : List ℕ) (s : Session) (l : Lines) → length sheet < 100000
    → 2 * l.used + 11 * length sheet + 128 ≤ 2 * length l.bytes
    → left (run_sheet sheet s l) ≡ after (text l) (print_sheet sheet s)
whole-printed sheet s l small h =
    sym (rest_none sheet (run_sheet sheet s l) (never_full sheet s l small h).not_full)
    ∙ (whole_part sheet s l (omega arith) (omega arith)).same

-- the last line of a sound session fits where there is room for a line
last_fits : (s : Session) → Holds (sound s) → length (last_line s) ≤ 32
unfolding last_line live_tasks undelivered_links
last_fits s h =
    let r = sound_by_name s h in
    let c = r counts in
    let a = count_most (s Objects 0 + 1) (is_live s) in
    let b = count_most (s Links 0 + 1) (is_undelivered s) in
    let d = count_most (s Links 0 + 1) (λ l. s LinkState l ≐ delivered) in
    let e = r dropped in
    line-closing (live_tasks s) (undelivered_links s) (dropped_count s) (omega (arith, c.1.0)) (omega (arith, c.1.1))
    (omega (arith, c.1.1))

-- A run from fresh into unused memory of that length, and the last line behind it, leave what the program prints.
pub output-whole : (sheet before after lines lines' : List ℕ) (e : Ended)
    → length sheet < 100000
    → 11 * length sheet + 128 ≤ 2 * length lines
    → words ≤ length before
    → Ran sheet before after lines lines' 0 e fresh_session
    → text (closed after (lines_of lines' e.used)) ≡ output sheet
unfolding output
output-whole sheet before after lines lines' e small long memory x =
    let r = run_sheet sheet fresh_session (lines_of lines 0) in
    let y : Ends before after lines' e r = rw (passes (lent before (lines_of lines 0)) (memory, omega arith)) at x in
    let c = never_full sheet fresh_session (lines_of lines 0) small (omega arith) in
    let room : Holds (has_room (lines_of lines' e.used)) = rw (y.bytes, y.used) c.room in
    let sounds : Holds (sound r.session) =
    kept-sound r.session (rw (sheet_demand sheet (lines_of lines 0)).0 (always_kept _)) in
    let w : left r ≡ print_sheet sheet fresh_session = whole-printed sheet fresh_session (lines_of lines 0) small (omega arith) in
    let t : text (lines_of lines' e.used) ≡ (print_sheet sheet fresh_session).text =
    rw (y.bytes, y.used) (ap (λ (p : Printed). p.text) w) in
    let s : read after ≡ (print_sheet sheet fresh_session).session = y.session.reading ∙ ap (λ (p : Printed). p.session) w in
    let fits = last_fits (read after) (rw y.session.reading sounds) in
    ap text (closed-room after (lines_of lines' e.used) (omega (arith, y.session.same_length), room))
    ∙ splice_to lines' e.used (last_line (read after)) (omega (arith, room))
    ∙ cc (t, s)
