-- A whole sheet: "A sheet is the number 1, then records." Since document 02, E4, that number is 1 or 2, the sheet's edition.
use Rattle.std.specs.Prelude.{ℕ, zero, suc, List, [], ◌∷◌, ◌++◌, length}
use Rattle.number.specs.Number.{limit32, encode, read_at}
use Rattle.rules.specs.declared.Operation.{Operation}
use Rattle.rules.specs.Checks.{Check, check, refusal}
use Rattle.rules.specs.Arity.{is_edition}
use Rattle.rules.specs.Formula.{choose, Formula.◌≐◌, Formula.◌≼◌}
use Rattle.record.specs.RecordReading.{Place, Record, behind, number_checks, placed, edition_of, record_at}
use Rattle.record.specs.Writing.{record_bytes}

-- "5. The sheet's first number is not 1." Document 02, E4: "Check 5 now turns down a first number other than 1 or 2."
abbrev pub head_checks : List ℕ → List Check
head_checks bytes = number_checks (read_at limit32 bytes 0) (check 5 (is_edition (edition_of bytes)) ∷ [])

abbrev pub head_refusal : List ℕ → ℕ
head_refusal bytes = refusal (head_checks bytes)

-- the place of the first record
abbrev pub first_record : List ℕ → ℕ
first_record bytes = behind 0 (read_at limit32 bytes 0)

unfoldable pub head_at : List ℕ → Place
head_at bytes = placed (head_refusal bytes) (first_record bytes)

-- The sheet of an edition and a list of operations.
unfoldable pub records_bytes : List Operation → List ℕ
records_bytes [] = []
records_bytes (op ∷ ops) = record_bytes op ++ records_bytes ops

unfoldable pub sheet_of : ℕ → List Operation → List ℕ
sheet_of edition ops = encode edition ++ records_bytes ops

-- What a sheet says: the operations of its records up to the end or the first refusal of 3 to 6, and that refusal, 0 if none.
pub record Contents : Type 0 where
  pub refused : ℕ
  pub operations : List Operation

abbrev pub stopped : ℕ → Contents
stopped n = record { refused = n; operations = [] }

-- a record, and what follows it
abbrev pub followed : Record → Contents → Contents
followed r c =
    choose (r.refused ≐ 0) (record { refused = c.refused; operations = r.operation ∷ c.operations }) (stopped r.refused)

-- The records from a place on, in so many steps. Each takes a byte at least, so that the sheet's length is steps enough.
unfoldable pub records_from : List ℕ → ℕ → ℕ → Contents
records_from bytes zero at = stopped 0
records_from bytes (suc steps) at =
    choose (length bytes ≼ at)
    (stopped 0)
    (followed (record_at bytes at) (records_from bytes steps (record_at bytes at).next))

unfoldable pub contents : List ℕ → Contents
contents bytes =
    choose (head_refusal bytes ≐ 0) (records_from bytes (length bytes) (first_record bytes)) (stopped (head_refusal bytes))
