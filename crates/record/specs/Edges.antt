-- Document 01's listing as bytes, a sheet of edition 2, the order of the checks, and the room for a record, computed.
use Rattle.std.specs.Prelude.{ℕ, suc, List, [], ◌∷◌, ◌++◌, ◌≡◌, refl, replicate}
use Rattle.number.specs.Number.{encode, encode_in, read_at, read_first, judged, shortest, last_byte, value, more, refusal_of, value_of}
use Rattle.rules.specs.declared.Operation.{Operation}
use Rattle.rules.specs.Formula.{test}
use Rattle.rules.specs.Checks.{refusal}
use Rattle.rules.specs.Step.{rules, last_code}
use Rattle.record.specs.RecordReading.{Place, Behind, Refused, behind, place, five, answered, placed, edition_of, record_in}
use Rattle.record.specs.Writing.{field_bytes, record_bytes, written_at}
use Rattle.record.specs.Sheet.{head_at, records_bytes, sheet_of, records_from, contents}

abbrev op : ℕ → ℕ → ℕ → ℕ → ℕ → ℕ → Operation
op code a b c d e = record { code = code; fields = a ∷ b ∷ c ∷ d ∷ e ∷ [] }

-- "Sheet bytes: 1 | 10 2 | 11 2 | 1 2 1 | 2 2 3 17 0 1 | 3 2 3 | 5 2 6 4 0 3 | 6 2 6 1 0 | 9 1 | 10 4 | 7 2 1 | 10 4 | 12 2 0."
abbrev listing : List ℕ
listing =
    1 ∷ 10 ∷ 2 ∷ 11 ∷ 2 ∷ 1 ∷ 2 ∷ 1 ∷ 2 ∷ 2 ∷ 3 ∷ 17 ∷ 0 ∷ 1 ∷ 3 ∷ 2 ∷ 3 ∷ 5 ∷ 2 ∷ 6 ∷ 4 ∷ 0 ∷ 3 ∷ 6 ∷ 2 ∷ 6 ∷ 1 ∷ 0 ∷ 9 ∷ 1
    ∷ 10 ∷ 4 ∷ 7 ∷ 2 ∷ 1 ∷ 10 ∷ 4 ∷ 12 ∷ 2 ∷ 0 ∷ []

abbrev operations : List Operation
operations =
    op 10 2 0 0 0 0 ∷ op 11 2 0 0 0 0 ∷ op 1 2 1 0 0 0 ∷ op 2 2 3 17 0 1 ∷ op 3 2 3 0 0 0 ∷ op 5 2 6 4 0 3 ∷ op 6 2 6 1 0 0
    ∷ op 9 1 0 0 0 0 ∷ op 10 4 0 0 0 0 ∷ op 7 2 1 0 0 0 ∷ op 10 4 0 0 0 0 ∷ op 12 2 0 0 0 0 ∷ []

pub listing_reads : contents listing ≡ record { refused = 0; operations = operations }
unfolding contents records_from record_in answered refusal test five place refusal_of value_of behind read_at read_first judged shortest
    last_byte value more rules
listing_reads = refl

pub listing-written : sheet_of 1 operations ≡ listing
unfolding sheet_of records_bytes record_bytes field_bytes encode encode_in rules
listing-written = refl

-- "Sheets whose first number is 2 may use operation 13": 2 | 10 2 | 13 2 3; with a first number 1 its code ends the sheet.
abbrev with_counted : List ℕ → List ℕ
with_counted head = head ++ 10 ∷ 2 ∷ 13 ∷ 2 ∷ 3 ∷ []

abbrev grant_then_counted : List Operation
grant_then_counted = op 10 2 0 0 0 0 ∷ op 13 2 3 0 0 0 ∷ []

pub counted_reads : (contents (with_counted (2 ∷ [])) ≡ record { refused = 0; operations = grant_then_counted })
    × (contents (with_counted (1 ∷ [])) ≡ record { refused = 6; operations = op 10 2 0 0 0 0 ∷ [] })
unfolding contents records_from record_in answered refusal test five place refusal_of value_of behind read_at read_first judged shortest
    last_byte value more rules
counted_reads = (refl, refl)

pub counted-written : sheet_of 2 grant_then_counted ≡ with_counted (2 ∷ [])
unfolding sheet_of records_bytes record_bytes field_bytes encode encode_in rules
counted-written = refl

-- the refusal at the start of these bytes, in an edition and in both
abbrev refused_in : ℕ → List ℕ → ℕ
refused_in edition bytes = (record_in edition bytes 0).refused

abbrev RefusedAt : List ℕ → ℕ → Type 0
RefusedAt bytes n = (refused_in 1 bytes ≡ n) × (refused_in 2 bytes ≡ n)

-- A record cut short, a code that is bad, a code that is unknown; then fields: a bad one before one that is cut short gives 3,
-- "a number without a last byte is cut short, however long it is", and a bad one alone gives 4.
pub order : RefusedAt [] 3
    × RefusedAt (137 ∷ []) 3
    × RefusedAt (137 ∷ 0 ∷ 1 ∷ []) 4
    × RefusedAt (128 ∷ 128 ∷ 128 ∷ 128 ∷ 16 ∷ []) 4
    × RefusedAt (0 ∷ []) 6
    × RefusedAt (suc last_code ∷ 128 ∷ []) 6
    × RefusedAt (7 ∷ 128 ∷ 0 ∷ 128 ∷ []) 3
    × RefusedAt (9 ∷ 128 ∷ 128 ∷ 128 ∷ 128 ∷ 128 ∷ 128 ∷ []) 3
    × RefusedAt (7 ∷ 128 ∷ 0 ∷ 1 ∷ []) 4
    × RefusedAt (7 ∷ 2 ∷ 1 ∷ []) 0
unfolding record_in answered refusal test five place refusal_of value_of behind read_at read_first judged shortest last_byte value more
    rules
order = (
  (refl, refl),
  (refl, refl),
  (refl, refl),
  (refl, refl),
  (refl, refl),
  (refl, refl),
  (refl, refl),
  (refl, refl),
  (refl, refl),
  (refl, refl),
)

-- "in edition 1 reading or writing it gives 6": operation 13 whole, and with a field cut short
pub order_counted : (refused_in 1 (13 ∷ 2 ∷ 3 ∷ []) ≡ 6)
    × (refused_in 1 (13 ∷ 2 ∷ []) ≡ 6)
    × (refused_in 2 (13 ∷ 2 ∷ 3 ∷ []) ≡ 0)
    × (refused_in 2 (13 ∷ 2 ∷ []) ≡ 3)
unfolding record_in answered refusal test five place refusal_of value_of behind read_at read_first judged shortest last_byte value more
    rules
order_counted = (refl, refl, refl, refl)

-- The head: P7, the empty sheet, gives 3; a bad number 4; another number than 1 or 2 gives 5.
pub heads : (head_at [] ≡ Refused 3)
    × (head_at (129 ∷ 0 ∷ []) ≡ Refused 4)
    × (head_at (0 ∷ []) ≡ Refused 5)
    × (head_at (3 ∷ []) ≡ Refused 5)
    × (head_at (1 ∷ []) ≡ Behind 1)
    × (head_at (2 ∷ []) ≡ Behind 1)
unfolding head_at placed refusal test refusal_of value_of behind read_at read_first judged shortest last_byte value more
heads = (refl, refl, refl, refl, refl, refl)

-- the sheet's edition is its first number, 0 where that can not be read
pub editions : (edition_of [] ≡ 0) × (edition_of (129 ∷ 0 ∷ []) ≡ 0) × (edition_of (2 ∷ 9 ∷ []) ≡ 2) × (edition_of (3 ∷ []) ≡ 3)
unfolding value_of read_at read_first judged shortest last_byte value more
editions = (refl, refl, refl, refl)

-- what writing into 32 bytes behind a used length answers
abbrev writes : ℕ → Operation → ℕ → Place
writes edition o used = written_at edition o (replicate 32 0) used

-- Room of 32 bytes suffices, and of 31 does not; a used length beyond the memory leaves nothing free; then the code, then the
-- fields that the code has and no others.
pub rooms : (writes 1 (op 9 1 0 0 0 0) 0 ≡ Behind 2)
    × (writes 1 (op 9 1 0 0 0 0) 1 ≡ Refused 1)
    × (writes 1 (op 9 1 0 0 0 0) 40 ≡ Refused 1)
    × (writes 1 (op 4294967296 0 0 0 0 0) 0 ≡ Refused 4)
    × (writes 1 (op (suc last_code) 4294967296 0 0 0 0) 0 ≡ Refused 6)
    × (writes 1 (op 7 1 4294967296 0 0 0) 0 ≡ Refused 4)
    × (writes 1 (op 7 1 2 4294967296 0 0) 0 ≡ Behind 3)
unfolding written_at placed refusal test record_bytes field_bytes encode encode_in rules
rooms = (refl, refl, refl, refl, refl, refl, refl)

-- "the writer is told the edition, and turns down any but 1 or 2 with 5, after check 1": before the code's 4 and 6. Operation 13 is
-- unknown in edition 1, also where a field is above the limit, and 3 bytes in edition 2.
pub rooms_edition : (writes 3 (op 9 1 0 0 0 0) 1 ≡ Refused 1)
    × (writes 0 (op 9 1 0 0 0 0) 0 ≡ Refused 5)
    × (writes 3 (op 9 1 0 0 0 0) 0 ≡ Refused 5)
    × (writes 3 (op 4294967296 0 0 0 0 0) 0 ≡ Refused 5)
    × (writes 0 (op (suc last_code) 0 0 0 0 0) 0 ≡ Refused 5)
    × (writes 2 (op (suc last_code) 0 0 0 0 0) 0 ≡ Refused 6)
    × (writes 1 (op 13 2 3 0 0 0) 0 ≡ Refused 6)
    × (writes 1 (op 13 2 4294967296 0 0 0) 0 ≡ Refused 6)
    × (writes 2 (op 13 2 4294967296 0 0 0) 0 ≡ Refused 4)
    × (writes 2 (op 13 2 3 0 0 0) 0 ≡ Behind 3)
unfolding written_at placed refusal test record_bytes field_bytes encode encode_in rules
rooms_edition = (refl, refl, refl, refl, refl, refl, refl, refl, refl, refl)
