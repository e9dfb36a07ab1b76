-- A record of a sheet, read at a place: an operation's code, then its fields (document 01, "Why an operation is turned down"
-- and "Sheets and lines"). All of it follows from the edition, the bytes and the place alone.
use Rattle.std.specs.Prelude.{ℕ, zero, suc, List, [], ◌∷◌, ltb, Result, Ok, Err}
use Rattle.number.specs.Number.{limit32, read_at, refusal_of, value_of, Reading}
use Rattle.number.specs.declared.Unread.TheVariants.{Bad, CutShort}
use Rattle.session.specs.Table.{pick}
use Rattle.rules.specs.declared.Operation.{Operation}
use Rattle.rules.specs.declared.refusals.Refusal.{Refusal}
use Rattle.rules.specs.Refusals.{number}
use Rattle.rules.specs.Arity.{field_count, knows}
use Rattle.rules.specs.Checks.{Check, check, refusal}
use Rattle.rules.specs.Formula.{Formula, not, choose, Formula.◌≐◌, Formula.each}

-- What reading a record gives: the refusal (0 if there is none), the operation, and the place behind the record. Under a refusal
-- the operation and the place are 0, and so are the fields past those that the operation has.
pub record Record : Type 0 where
  pub refused : ℕ
  pub operation : Operation
  pub next : ℕ

-- The place behind what was read or written, or the number of the check that failed.
pub data Place : Type 0 where
  Behind : ℕ → Place
  Refused : ℕ → Place

-- the place behind a number that was read at a place; one that is cut short has none, and the place stays
unfoldable pub behind : ℕ → Reading → ℕ
behind at (Ok (v, next)) = next
behind at (Err (Bad next)) = next
behind at (Err CutShort) = at

-- The place behind the first k numbers from a place on, and the number that stands there.
unfoldable pub place : List ℕ → ℕ → ℕ → ℕ
place bytes at zero = at
place bytes at (suc k) = behind (place bytes at k) (read_at limit32 bytes (place bytes at k))

abbrev pub nth : List ℕ → ℕ → ℕ → Reading
nth bytes at k = read_at limit32 bytes (place bytes at k)

-- a number is not refused by this check
abbrev pub clears : ℕ → Reading → Formula
clears check r = not (refusal_of r ≐ check)

-- a number meets 3, then 4, before the checks that follow
abbrev pub number_checks : Reading → List Check → List Check
number_checks r cs = check 3 (clears 3 r) ∷ check 4 (clears 4 r) ∷ cs

-- five fields: these at the first n places, and 0 at the others
abbrev pub one_of : ℕ → (ℕ → ℕ) → ℕ → ℕ
one_of n f k = pick (ltb k n) (f k) 0

unfoldable pub five : ℕ → (ℕ → ℕ) → List ℕ
five n f = one_of n f 0 ∷ one_of n f 1 ∷ one_of n f 2 ∷ one_of n f 3 ∷ one_of n f 4 ∷ []

-- an operation with n fields
abbrev pub operation : ℕ → ℕ → (ℕ → ℕ) → Operation
operation code n f = record { code = code; fields = five n f }

-- What reading answers: an operation and the place behind it, or a refusal and nothing else.
abbrev pub refused_record : ℕ → Record
refused_record n = record { refused = n; operation = operation 0 0 (λ k. 0); next = 0 }

unfoldable pub answered : ℕ → Operation → ℕ → Record
answered n op next = choose (n ≐ 0) (record { refused = 0; operation = op; next = next }) (refused_record n)

-- the record that a function gives
abbrev pub record_told : Result (Operation × ℕ) Refusal → Record
record_told (Ok read) = record { refused = 0; operation = read.0; next = read.1 }
record_told (Err why) = refused_record (number why)

-- the place that a function gives
abbrev pub place_told : Result ℕ Refusal → Place
place_told (Ok next) = Behind next
place_told (Err why) = Refused (number why)

-- The place behind what was read or written, or the refusal.
unfoldable pub placed : ℕ → ℕ → Place
placed n next = choose (n ≐ 0) (Behind next) (Refused n)

-- such an answer in document 01's numbers: the refusal, 0 if there is none, and the place
unfoldable pub refused_by : Place → ℕ
refused_by (Behind next) = 0
refused_by (Refused n) = n

unfoldable pub place_of : Place → ℕ
place_of (Behind next) = next
place_of (Refused n) = 0

module _ (bytes : List ℕ) where
  -- "Each check covers all fields before the next check": the n fields that stand from a place on.
  abbrev pub field_checks : ℕ → ℕ → List Check
  field_checks first n =
      check 3 (each n (λ k. clears 3 (nth bytes first k))) ∷ check 4 (each n (λ k. clears 4 (nth bytes first k))) ∷ []

  abbrev pub operation_at : ℕ → ℕ → ℕ → Operation
  operation_at code first n = operation code n (λ k. value_of (nth bytes first k))

  unfoldable pub fields_at : ℕ → ℕ → ℕ → Record
  fields_at code first n = answered (refusal (field_checks first n)) (operation_at code first n) (place bytes first n)

  -- a record's code, the place of its first field, and how many fields it has
  abbrev pub code_at : ℕ → ℕ
  code_at at = value_of (read_at limit32 bytes at)

  abbrev pub first_field : ℕ → ℕ
  first_field at = behind at (read_at limit32 bytes at)

  abbrev pub count_at : ℕ → ℕ
  count_at at = field_count (code_at at)

-- "a record's code meets 3, 4 and 6 before its fields are read, as it says how many they are", and "in edition 1 reading or writing
-- it gives 6": a code is known by edition
abbrev pub record_checks : ℕ → List ℕ → ℕ → List Check
record_checks edition bytes at =
    number_checks (read_at limit32 bytes at)
    (check 6 (knows edition (code_at bytes at)) ∷ field_checks bytes (first_field bytes at) (count_at bytes at))

unfoldable pub record_in : ℕ → List ℕ → ℕ → Record
record_in edition bytes at =
    answered (refusal (record_checks edition bytes at))
    (operation_at bytes (code_at bytes at) (first_field bytes at) (count_at bytes at))
    (place bytes (first_field bytes at) (count_at bytes at))

-- A sheet's edition is its first number, and its records are read by it.
abbrev pub edition_of : List ℕ → ℕ
edition_of bytes = value_of (read_at limit32 bytes 0)

abbrev pub record_at : List ℕ → ℕ → Record
record_at bytes at = record_in (edition_of bytes) bytes at
