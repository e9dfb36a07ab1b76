-- The text of a sheet takes at most 16 bytes for each of the sheet's, and 64 more.
use Rattle.std.specs.Prelude.{ℕ, zero, suc, ◌+◌, ◌-◌, ◌*◌, ◌^◌, ◌≤◌, ◌<◌, List, ◌≡◌, refl, length}
use Rattle.std.proofs.Common.{ap, arith, pow-suc, lit≤, length-append}
use Rattle.number.specs.Number.{AreBytes, limit32, encode}
use Rattle.number.specs.Encode.{encode_ind}
use Rattle.number.specs.NumberRoundTrip.{length_some, value-next}
use Rattle.decimal.specs.Decimal.{decimal}
use Rattle.lines.specs.LineLaws.{digits_bound}
use Rattle.rules.specs.declared.Operation.{Operation}
use Rattle.rules.specs.Formula.{Holds, test, Formula.each, Formula.◌≐◌, Formula.◌≼◌}
use Rattle.rules.specs.FormulaLaws.{Case, decide, passed, choose_yes, choose_no, Case.it_does, Case.it_does_not}
use Rattle.rules.specs.Step.{arg, last_code, last_edition}
use Rattle.record.specs.RecordReading.{Place, Behind, Refused, Record, placed, edition_of, record_at}
use Rattle.rules.specs.Arity.{is_code, field_count, name_of, fields_some}
use Rattle.record.specs.Writing.{field_bytes, record_bytes}
use Rattle.record.specs.Sheet.{head_at, head_checks, head_refusal, first_record, records_from}
use Rattle.record.specs.Refusals.{refusal-most}
use Rattle.record.specs.RecordRoundTrip.{record_refusals, record_again}
use Rattle.record.specs.SheetLaws.{head_none}
use Rattle.listing.specs.Listing.{newline, first_line, field_text, fields_text, line, refusal_line, records_text}
use Rattle.listing.specs.Listing.{text_from, text_of, room_for}
use Rattle.listing.specs.ListingLaws.{field_length, line-length, refusal-length, forward, left, left-start, left_end}
use Rattle.listing.specs.ListingLaws.{left-refused, left-length}

-- A number has at most three digits for each of its bytes.
pow_three : (n : ℕ) → 10 ^ (3 * suc n) ≡ 1000 * 10 ^ (3 * n)
pow_three n =
    let e : 3 * suc n ≡ suc (suc (suc (3 * n))) = omega arith in
    rw e (omega (arith, pow-suc 10 (3 * n), pow-suc 10 (suc (3 * n)), pow-suc 10 (suc (suc (3 * n)))))

below_bytes : (v : ℕ) → v < 10 ^ (3 * length (encode v))
below_bytes =
    encode_ind (λ v bs. v < 10 ^ (3 * length bs))
    (λ v h. omega arith)
    (λ g r bs h some below. omega (arith, pow_three (length bs)))

digits_three : (v : ℕ) → length (decimal v) ≤ 3 * length (encode v)
digits_three v =
    let k = 3 * length (encode v) - 1 in
    let e : suc k ≡ 3 * length (encode v) = omega (arith, length_some v) in
    omega (arith, digits_bound k v (rw e (below_bytes v)))

-- Fields, and a line.
fields_short : (n : ℕ) (f : ℕ → ℕ) → (length (fields_text n f) ≤ 4 * length (field_bytes n f)) × (n ≤ length (field_bytes n f))
unfolding fields_text field_bytes
fields_short zero f = (omega arith, omega arith)
fields_short (suc n) f =
    let before = fields_short n f in
    let text = length-append (fields_text n f) (field_text (f n)) in
    let bytes = length-append (field_bytes n f) (encode (f n)) in
    let some = length_some (f n) in
    (omega (arith, before.0, field_length (f n), digits_three (f n)), omega (arith, before.1))

name_short : (code : ℕ) → code ≤ last_code → length (name_of code) ≤ 10
unfolding test name_of
name_short code h = passed (each (suc last_code) (λ c. length (name_of c) ≼ 10)) refl code (omega arith)

pub line_short : (op : Operation) → Holds (is_code op.code) → length (line op) ≤ 16 * length (record_bytes op)
unfolding record_bytes
line_short op known =
    let n = field_count op.code in
    let code = digits_bound 1 op.code (omega (arith, known.1)) in
    let fields = fields_short n (arg op) in
    let name = name_short op.code known.1 in
    let some = fields_some op.code known in
    let bytes = length-append (encode op.code) (field_bytes n (arg op)) in
    omega (arith, line-length op, length_some op.code, fields.0, fields.1)

refusal_short : (k refused : ℕ) → k < 2 ^ 64 → refused ≤ 6 → length (refusal_line k refused) ≤ 64
refusal_short k refused h l =
    omega (arith, refusal-length k refused, digits_bound 19 k (omega arith), digits_bound 0 refused (omega arith))

module _ (sheet : List ℕ) (are : AreBytes sheet) (size : length sheet < 2 ^ 64) where
  -- the records that are left, of which there are no more than m
  left_short : (m k at : ℕ) → length sheet ≤ at + m → k ≤ at → length (left sheet k at) ≤ 16 * (length sheet - at) + 64
  left_short zero k at h l = omega (arith, ap length (left_end sheet k at (omega arith)))
  left_short (suc m) k at h l =
      go (decide (length sheet ≼ at)) (decide ((record_at sheet at).refused ≐ 0)) (left_short m (k + 1) (record_at sheet at).next)
    where
      r : Record
      r = record_at sheet at

      go : Case (length sheet ≼ at)
          → Case ((record_at sheet at).refused ≐ 0)
          → (length sheet ≤ (record_at sheet at).next + m
          → k + 1 ≤ (record_at sheet at).next
          → length (left sheet (k + 1) (record_at sheet at).next) ≤ 16 * (length sheet - (record_at sheet at).next) + 64)
          → length (left sheet k at) ≤ 16 * (length sheet - at) + 64
      go (it_does end) c rest = omega (arith, ap length (left_end sheet k at end))
      go (it_does_not u) (it_does z) rest =
          let i : at < length sheet = omega (arith, u) in
          let f = forward sheet k at i l (record_at sheet at) refl z in
          let w = record_again (edition_of sheet) sheet at are z in
          let n = left-length sheet k at i l (record_at sheet at) refl z in
          let s = line_short (record_at sheet at).operation f.recordable.0.0 in
          let more = rest (omega (arith, f.onward)) (omega (arith, f.onward)) in
          omega (arith, n, s, more, w.next_place, f.inside)
      go (it_does_not u) (it_does_not p) rest =
          let i : at < length sheet = omega (arith, u) in
          let e = left-refused sheet k at i l (record_at sheet at) refl (omega (arith, p)) in
          omega (
            arith,
            ap length e,
            refusal_short k (record_at sheet at).refused (omega arith)
                (record_refusals (edition_of sheet) sheet at),
          )

-- The first number is an edition, and the place behind it is in the sheet; or it is refused, by no check above 6.
abbrev Inside : List ℕ → Place → Type 0
Inside sheet (Behind first) = (1 ≤ first) × (first ≤ length sheet) × (edition_of sheet ≤ last_edition)
Inside sheet (Refused refused) = refused ≤ 6

head_as : (sheet : List ℕ) → Inside sheet (head_at sheet)
unfolding head_at placed
head_as sheet = go (decide (head_refusal sheet ≐ 0))
  where
    go : Case (head_refusal sheet ≐ 0) → Inside sheet (placed (head_refusal sheet) (first_record sheet))
    go (it_does z) =
        let h = head_none sheet z in
        let v = value-next limit32 sheet 0 (edition_of sheet) (first_record sheet) h.0 in
        rw (choose_yes (head_refusal sheet ≐ 0) (Behind (first_record sheet)) (Refused (head_refusal sheet)) z) (v.1, v.2, h.1.1)
    go (it_does_not n) =
        rw (choose_no (head_refusal sheet ≐ 0) (Behind (first_record sheet)) (Refused (head_refusal sheet)) n)
        (refusal-most 6 (head_checks sheet) (lit≤ tt, (lit≤ tt, (lit≤ tt, tt))))

pub head_inside : (sheet : List ℕ) (first : ℕ) → head_at sheet ≡ Behind first
    → (1 ≤ first) × (first ≤ length sheet) × (edition_of sheet ≤ last_edition)
head_inside sheet first e = rw e at (head_as sheet)

first_line-length : (edition : ℕ) → edition ≤ last_edition → length (first_line edition) ≤ 2
first_line-length edition h = omega (arith, length-append (decimal edition) newline, digits_bound 0 edition (omega arith))

pub text_short : (sheet : List ℕ) → AreBytes sheet → length sheet < 2 ^ 64 → length (text_of sheet) ≤ room_for sheet
unfolding text_of text_from
text_short sheet are size = go (head_at sheet) (head_as sheet)
  where
    go : (p : Place) → Inside sheet p → length (text_from sheet p) ≤ room_for sheet
    go (Behind first) i =
        omega (
          arith,
          i.0,
          i.1,
          length-append (first_line (edition_of sheet)) (records_text 1 (records_from sheet (length sheet) first)),
          first_line-length (edition_of sheet) i.2,
          ap length (left-start sheet first),
          left_short sheet are size (length sheet) 1 first (omega arith) i.0,
        )
    go (Refused n) i = omega (arith, refusal_short 0 n (omega arith) i)
