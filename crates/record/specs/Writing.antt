-- An operation, written as a record into lent memory behind a used length.
use Rattle.std.specs.Prelude.{ℕ, zero, suc, ◌+◌, List, [], ◌∷◌, ◌++◌, length}
use Rattle.number.specs.Number.{limit32, encode, splice}
use Rattle.rules.specs.declared.Operation.{Operation}
use Rattle.rules.specs.Arity.{is_edition, knows, field_count}
use Rattle.rules.specs.Checks.{Check, check, refusal}
use Rattle.rules.specs.Formula.{Formula, choose, Formula.◌≐◌, Formula.◌≼◌, Formula.◌and◌, Formula.each}
use Rattle.rules.specs.Step.{arg}
use Rattle.record.specs.RecordReading.{Place, operation, placed}

-- "the line or record memory has under 32 bytes free"
abbrev pub record_room : ℕ
record_room = 32

-- The bytes of the first n of these values.
unfoldable pub field_bytes : ℕ → (ℕ → ℕ) → List ℕ
field_bytes zero f = []
field_bytes (suc n) f = field_bytes n f ++ encode (f n)

-- The bytes of an operation: its code, then the fields that its code has.
abbrev pub numbers_bytes : ℕ → ℕ → (ℕ → ℕ) → List ℕ
numbers_bytes code n f = encode code ++ field_bytes n f

unfoldable pub record_bytes : Operation → List ℕ
record_bytes op = numbers_bytes op.code (field_count op.code) (arg op)

-- n fields within the limit
abbrev pub within : ℕ → (ℕ → ℕ) → Formula
within n f = each n (λ k. f k ≼ limit32)

-- An operation that can be written in an edition: of a code that it knows, and its fields within the limit.
abbrev pub is_recordable : ℕ → Operation → Formula
is_recordable edition op = knows edition op.code and within (field_count op.code) (arg op)

-- What an operation is: its code and the fields that its code has. The others are no part of it: here they are 0.
unfoldable pub own : Operation → Operation
own op = operation op.code (field_count op.code) (arg op)

-- "Writing an operation as a record checks 1, 6 and the limit in 4", of the code and then of its fields. A used length beyond
-- the memory leaves nothing free. "the writer is told the edition, and turns down any but 1 or 2 with 5, after check 1"
abbrev pub write_checks : ℕ → Operation → List ℕ → ℕ → List Check
write_checks edition op out used =
    check 1 (used + record_room ≼ length out) ∷ check 5 (is_edition edition) ∷ check 4 (op.code ≼ limit32)
    ∷ check 6 (knows edition op.code) ∷ check 4 (within (field_count op.code) (arg op)) ∷ []

abbrev pub write_refusal : ℕ → Operation → List ℕ → ℕ → ℕ
write_refusal edition op out used = refusal (write_checks edition op out used)

-- What writing answers, and the memory after it: "a refusal there writes no byte".
unfoldable pub written_at : ℕ → Operation → List ℕ → ℕ → Place
written_at edition op out used = placed (write_refusal edition op out used) (used + length (record_bytes op))

unfoldable pub memory_after : ℕ → Operation → List ℕ → ℕ → List ℕ
memory_after edition op out used = choose (write_refusal edition op out used ≐ 0) (splice out used (record_bytes op)) out
