-- Lines memory that is large enough for its sheet is never full: no run over it ends by 1, and the last line has its room. Each
-- record that is run takes a byte of the sheet for its code and one for each field at least. With one field nothing is made, and
-- its line takes 11 bytes at most; any other line takes 14. So 11 bytes of lines for two bytes of the sheet are enough, with room
-- for two lines more: of the record that ends the sheet, and the last line.
use Rattle.std.specs.Prelude.{ℕ, zero, suc, ◌+◌, ◌*◌, ◌-◌, ◌≤◌, ◌<◌, List, [], ◌∷◌, ◌≡◌, refl, length}
use Rattle.std.proofs.Common.{ap, sym, ◌∙◌, arith, lit<}
use Rattle.number.specs.Number.{limit32, read_at}
use Rattle.number.specs.NumberRoundTrip.{value-next}
use Rattle.number.specs.Splice.{splice-length}
use Rattle.lines.specs.Line.{line}
use Rattle.lines.specs.LineLaws.{digits_bound, line-length}
use Rattle.session.specs.Table.{Session}
use Rattle.rules.specs.Arity.{field_count, fields_some}
use Rattle.rules.specs.Checks.{Check, refusal}
use Rattle.rules.specs.Formula.{Holds, Formula.◌≐◌, Formula.◌≼◌}
use Rattle.rules.specs.FormulaLaws.{Case, decide, choose_yes, choose_no, Case.it_does, Case.it_does_not}
use Rattle.rules.specs.Sound.{sound}
use Rattle.rules.specs.Step.{step}
use Rattle.record.specs.RecordReading.{place, code_at, first_field, count_at, record_checks, record_in}
use Rattle.record.specs.RecordReading.{edition_of, record_at}
use Rattle.record.specs.Refusals.{number_none, answered-number}
use Rattle.record.specs.Fields.{AllRead, place_none}
use Rattle.record.specs.RecordCases.{accepted}
use Rattle.record.specs.RecordRoundTrip.{record_forward, record_refusals}
use Rattle.record.specs.Sheet.{head_refusal, head_checks, first_record}
use Rattle.sheet.specs.Run.{Lines, has_room, with_line, Run, ended, ended_by, run_from, run_sheet}
use Rattle.sheet.specs.RunLaws.{run_end, run-unsound, run-refused, run_on, sheet_unsound, sheet_refused, sheet_runs, below}
use Rattle.sheet.specs.Replies.{reply_small, reply_nothing}
use Rattle.sheet.specs.WholeSheet.{head_small}

-- A run that did not end by 1, and has room for the last line.
pub record Closable (r : Run) : Type 0 where
  pub not_full : r.ending ≡ 1 → ⊥
  pub room : Holds (has_room r.lines)

fields-take : (bytes : List ℕ) (first n : ℕ) → AllRead bytes first n → first + n ≤ place bytes first n
fields-take bytes first zero all = let z = place_none bytes first in omega arith
fields-take bytes first (suc n) all =
    let o = fields-take bytes first n (λ k p. all k (omega arith)) in
    let v = value-next limit32 bytes (place bytes first n) _ _ (all n (omega arith)) in
    omega (arith, o, v.1)

-- a record takes a byte for its code and one for each field at least
record_takes : (bytes : List ℕ) (at : ℕ) → (record_at bytes at).refused ≡ 0 → at + (1 + count_at bytes at) ≤ (record_at bytes at).next
record_takes bytes at e =
    let r = accepted bytes at e in
    let head = value-next limit32 bytes at (code_at bytes at) (first_field bytes at) r.code_read in
    let on = fields-take bytes (first_field bytes at) (count_at bytes at) r.fields in
    let all : at + (1 + count_at bytes at) ≤ place bytes (first_field bytes at) (count_at bytes at) = omega (arith, head.1, on) in
    rw r.says all

record_code : (bytes : List ℕ) (at : ℕ) → (record_at bytes at).refused ≡ 0 → (record_at bytes at).operation.code ≡ code_at bytes at
record_code bytes at e = rw (accepted bytes at e).says refl

-- checks that do not have this number refuse by another
abbrev Others : ℕ → List Check → Type 0
Others n [] = Unit {0}
Others n (c ∷ cs) = (c.number ≡ n → ⊥) × Others n cs

refusal-other : (n : ℕ) (cs : List Check) → 0 < n → Others n cs → refusal cs ≡ n → ⊥
unfolding refusal
refusal-other n [] p u e = omega arith
refusal-other n (c ∷ cs) p u e = go (decide c.rule) (refusal-other n cs p u.1)
  where
    go : Case c.rule → (refusal cs ≡ n → ⊥) → ⊥
    go (it_does h) again = again (sym (choose_yes c.rule (refusal cs) c.number h) ∙ e)
    go (it_does_not f) again = u.0 (sym (choose_no c.rule (refusal cs) c.number f) ∙ e)

pub record_not_full : (sheet : List ℕ) (at : ℕ) → (record_at sheet at).refused ≡ 1 → ⊥
unfolding record_in
record_not_full sheet at e =
    refusal-other 1 (record_checks (edition_of sheet) sheet at) (lit< tt)
    (λ x. omega arith, (λ x. omega arith, (λ x. omega arith, (λ x. omega arith, (λ x. omega arith, tt)))))
    (sym (answered-number (refusal (record_checks (edition_of sheet) sheet at)) _ _) ∙ e)

pub head_not_full : (sheet : List ℕ) → head_refusal sheet ≡ 1 → ⊥
head_not_full sheet = refusal-other 1 (head_checks sheet) (lit< tt) (λ x. omega arith, (λ x. omega arith, (λ x. omega arith, tt)))

-- the first number ends in the sheet
head_inside : (sheet : List ℕ) → head_refusal sheet ≡ 0 → first_record sheet ≤ length sheet
head_inside sheet z = (value-next limit32 sheet 0 _ (first_record sheet) (number_none _ 0 (read_at limit32 sheet 0) z).0).2

module _ (l : Lines) (a b c : ℕ) (room : Holds (has_room l)) (ha : a < 100000) (hb : b < 100) (hc : c < 10000) where
  line_small : length (line a b c) ≤ 14
  line_small = omega (arith, line-length a b c, digits_bound 4 a ha, digits_bound 1 b hb, digits_bound 3 c hc)

  -- a line takes 14 bytes at most, 11 if nothing was made, and the memory keeps its length
  line-used : (with_line l a b c).used ≤ l.used + 14
  unfolding with_line
  line-used = omega (arith, line_small)

  line_less : c ≡ 0 → (with_line l a b c).used ≤ l.used + 11
  unfolding with_line
  line_less z = omega (arith, line-length a b c, digits_bound 4 a ha, digits_bound 1 b hb, digits_bound 0 c (omega arith))

  line_kept : length (with_line l a b c).bytes ≡ length l.bytes
  unfolding with_line
  line_kept = splice-length l.bytes l.used (line a b c) (omega (arith, line_small))

-- the line that ends a sheet leaves room for the last one
closable_by : (s : Session) (l : Lines) (at k n : ℕ) → l.used + 64 ≤ length l.bytes → k < 100000 → n < 100 → (n ≡ 1 → ⊥)
    → Closable (ended_by s l at k n)
unfolding ended_by
closable_by s l at k n h hk hn f =
    let u = line-used l k n 0 (omega arith) hk hn (lit< tt) in
    let e = line_kept l k n 0 (omega arith) hk hn (lit< tt) in
    record { not_full = f; room = omega arith }

-- What is needed before the record at a place.
record Spare (sheet : List ℕ) (at k : ℕ) (l : Lines) : Type 0 where
  pub small : length sheet < 100000
  pub count : k ≤ at
  pub inside : at ≤ length sheet
  pub bytes : 2 * l.used + 11 * (length sheet - at) + 128 ≤ 2 * length l.bytes

-- and it is there before the next one
spare_on : (sheet : List ℕ) (at k : ℕ) (s : Session) (l : Lines) → Spare sheet at k l → at < length sheet → Holds (sound s)
    → (record_at sheet at).refused ≡ 0
    → Spare sheet (record_at sheet at).next (k + 1)
    (with_line l (k + 1) (step s (record_at sheet at).operation).refused (step s (record_at sheet at).operation).made)
spare_on sheet at k s l g b is z =
    let op = (record_at sheet at).operation in
    let takes = record_takes sheet at z in
    let e = line_kept l (k + 1) (step s op).refused (step s op).made room low small.0 small.1 in
    let inside = (record_forward sheet at z).inside in
    record {
      small = g.small;
      count = omega (arith, g.count, takes);
      inside = inside;
      bytes = go (decide (count_at sheet at ≐ 1)) e inside;
    }
  where
    room : Holds (has_room l)
    room = omega (arith, g.bytes)

    low : k + 1 < 100000
    low = omega (arith, g.count, g.small)

    small : ((step s (record_at sheet at).operation).refused < 100) × ((step s (record_at sheet at).operation).made < 10000)
    small = reply_small s (record_at sheet at).operation is

    after : Lines
    after = with_line l (k + 1) (step s (record_at sheet at).operation).refused (step s (record_at sheet at).operation).made

    go : Case (count_at sheet at ≐ 1) → length after.bytes ≡ length l.bytes → (record_at sheet at).next ≤ length sheet
        → 2 * after.used + 11 * (length sheet - (record_at sheet at).next) + 128 ≤ 2 * length after.bytes
    go (it_does one) e inside =
        let takes = record_takes sheet at z in
        let none = reply_nothing s (record_at sheet at).operation (ap field_count (record_code sheet at z) ∙ one) in
        let u = line_less l (k + 1) (step s (record_at sheet at).operation).refused
        (step s (record_at sheet at).operation).made room low small.0 small.1 none in
        omega (arith, g.bytes)
    go (it_does_not more) e inside =
        let takes = record_takes sheet at z in
        let some = fields_some (code_at sheet at) (accepted sheet at z).known.0 in
        let u = line-used l (k + 1) (step s (record_at sheet at).operation).refused
        (step s (record_at sheet at).operation).made room low small.0 small.1 in
        omega (arith, g.bytes)

-- the case of no steps
run_none : (sheet : List ℕ) (at k : ℕ) (s : Session) (l : Lines) → run_from sheet zero at k s l ≡ ended s l at k 0
unfolding run_from
run_none sheet at k s l = refl

-- what holds of every run in fewer steps
abbrev Again : List ℕ → ℕ → Type 0
Again sheet n = (at k : ℕ) (s : Session) (l : Lines) → Spare sheet at k l → Closable (run_from sheet n at k s l)

run_closable : (sheet : List ℕ) (n : ℕ) → Again sheet n
run_closable sheet zero at k s l g =
    rw (run_none sheet at k s l) (record { not_full = λ e. omega arith; room = omega (arith, g.bytes) })
run_closable sheet (suc n) at k s l g = ends (decide (length sheet ≼ at)) (run_closable sheet n)
  where
    reads : at < length sheet → Holds (has_room l) → Holds (sound s) → Case ((record_at sheet at).refused ≐ 0) → Again sheet n
        → Closable (run_from sheet (suc n) at k s l)
    reads b o i (it_does_not f) again =
        let m = record_refusals (edition_of sheet) sheet at in
        rw (run-refused sheet at k s l n b o i f)
        (closable_by s l at (k + 1) (record_at sheet at).refused (omega (arith, g.bytes)) (omega (arith, g.small, g.count))
        (omega arith) (record_not_full sheet at))
    reads b o i (it_does z) again = rw (run_on sheet at k s l n b o i z) (again _ _ _ _ (spare_on sheet at k s l g b i z))

    sounds : at < length sheet → Holds (has_room l) → Case (sound s) → Again sheet n → Closable (run_from sheet (suc n) at k s l)
    sounds b o (it_does_not f) again =
        rw (run-unsound sheet at k s l n b o f)
        (closable_by s l at (k + 1) 2 (omega (arith, g.bytes)) (omega (arith, g.small, g.count)) (lit< tt) (λ e. omega arith))
    sounds b o (it_does i) again = reads b o i (decide ((record_at sheet at).refused ≐ 0)) again

    ends : Case (length sheet ≼ at) → Again sheet n → Closable (run_from sheet (suc n) at k s l)
    ends (it_does h) again =
        rw (run_end sheet at k s l (suc n) h) (record { not_full = λ e. omega arith; room = omega (arith, g.bytes) })
    ends (it_does_not f) again = sounds (below sheet at f) (omega (arith, g.bytes)) (decide (sound s)) again

-- it is there before the first record
first_spare : (sheet : List ℕ) (l : Lines) → length sheet < 100000 → 2 * l.used + 11 * length sheet + 128 ≤ 2 * length l.bytes
    → head_refusal sheet ≡ 0
    → Spare sheet (first_record sheet) 0 l
first_spare sheet l small h z = record { small = small; count = omega arith; inside = head_inside sheet z; bytes = omega arith }

-- The theorem, for any session: 11 bytes for two bytes of the sheet and 64 more are enough.
pub never_full : (sheet : List ℕ) (s : Session) (l : Lines) → length sheet < 100000
    → 2 * l.used + 11 * length sheet + 128 ≤ 2 * length l.bytes
    → Closable (run_sheet sheet s l)
never_full sheet s l small h = sounds (decide (sound s))
  where
    room : Holds (has_room l)
    room = omega arith

    heads : Holds (sound s) → Case (head_refusal sheet ≐ 0) → Closable (run_sheet sheet s l)
    heads i (it_does_not f) =
        let m = head_small sheet in
        rw (sheet_refused sheet s l room i f)
        (closable_by s l 0 0 (head_refusal sheet) (omega arith) (lit< tt) (omega arith) (head_not_full sheet))
    heads i (it_does z) =
        rw (sheet_runs sheet s l room i z)
        (run_closable sheet (length sheet) (first_record sheet) 0 s l (first_spare sheet l small h z))

    sounds : Case (sound s) → Closable (run_sheet sheet s l)
    sounds (it_does_not f) =
        rw (sheet_unsound sheet s l room f) (closable_by s l 0 0 2 (omega arith) (lit< tt) (lit< tt) (λ e. omega arith))
    sounds (it_does i) = heads i (decide (head_refusal sheet ≐ 0))
