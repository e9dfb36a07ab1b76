-- The numbers of a sheet, as document 01 has them: "A number is written in groups of seven bits, lowest first, high bit set
-- on all but the last byte, in the fewest bytes." The limit is a parameter: the paper's is 4,294,967,295.
use Rattle.std.specs.Prelude.{ℕ, zero, suc, ◌+◌, ◌*◌, ◌/◌, ◌%◌, ◌<◌, Bool, true, false, List, [], ◌∷◌, ◌++◌, ltb, leb, length, get_or, take, drop}
use Rattle.number.specs.declared.Unread.{Unread}
use Rattle.std.specs.Prelude.{Result, Ok, Err, Option, Some, None}
use Rattle.number.specs.declared.Unread.TheVariants.{Bad, CutShort}

-- What reading a number gives: its value and the next place, a bad number and the next place, or a number cut short.
abbrev pub Reading : Type 0
Reading = Result (ℕ × ℕ) Unread

-- Bytes are numbers below 256.
abbrev pub AreBytes : List ℕ → Type 0
AreBytes bytes = (i : ℕ) → get_or bytes i 0 < 256

-- The limit of document 01.
abbrev pub limit32 : ℕ
limit32 = 4294967295

-- The bytes of a value, in so many steps: a value below 128 is one byte, any other its lowest group and then the rest.
unfoldable pub encode_in : ℕ → ℕ → List ℕ
encode_in zero v = v ∷ []
encode_in (suc steps) v = elim (ltb v 128) [ true ↦ v ∷ [] | false ↦ (v % 128 + 128) ∷ encode_in steps (v / 128) ]

-- The bytes of a value. The rest is smaller at each step, so that a value is more steps than it needs.
unfoldable pub encode : ℕ → List ℕ
encode v = encode_in v v

-- How many bytes with the high bit set stand in front: after each of them the number goes on.
unfoldable pub more : List ℕ → ℕ
more [] = 0
more (b ∷ bs) = elim (ltb b 128) [ true ↦ 0 | false ↦ suc (more bs) ]

-- The bytes of the number that stands first: those, and the last byte behind them.
abbrev pub first : List ℕ → List ℕ
first bytes = take (suc (more bytes)) bytes

-- The value of a number's bytes: their groups, lowest first.
unfoldable pub value : List ℕ → ℕ
value [] = 0
value (b ∷ bs) = b % 128 + 128 * value bs

-- A number's last byte.
unfoldable pub last_byte : List ℕ → ℕ
last_byte [] = 0
last_byte (b ∷ []) = b
last_byte (b ∷ c ∷ bs) = last_byte (c ∷ bs)

-- The shortest form: one byte, or a last byte that is not 0.
unfoldable pub shortest : List ℕ → Bool
shortest number = elim (leb (length number) 1) [ true ↦ true | false ↦ ltb 0 (last_byte number) ]

-- What a number's bytes give: bad if they are not its shortest form or the value is above the limit.
unfoldable pub judged : ℕ → List ℕ → ℕ → Reading
judged limit number next =
    elim (shortest number) [
      | true ↦ elim (leb (value number) limit) [ true ↦ Ok (value number, next) | false ↦ Err (Bad next) ]
      | false ↦ Err (Bad next)
    ]

-- The number that stands first in these bytes, which begin at a place: cut short if no last byte stands before their end.
unfoldable pub read_first : ℕ → List ℕ → ℕ → Reading
read_first limit bytes at =
    elim (ltb (more bytes) (length bytes)) [
      | true ↦ judged limit (first bytes) (at + suc (more bytes))
      | false ↦ Err CutShort
    ]

-- The number at a place. Past the end there is no byte, so that it is cut short.
unfoldable pub read_at : ℕ → List ℕ → ℕ → Reading
read_at limit bytes at = read_first limit (drop at bytes) at

-- "3. A number is cut short by the sheet's end. 4. A number is not in its shortest form or exceeds 4,294,967,295."
unfoldable pub refusal_of : Reading → ℕ
refusal_of (Ok (v, next)) = 0
refusal_of (Err (Bad next)) = 4
refusal_of (Err CutShort) = 3

-- The value that was read, 0 if none was
unfoldable pub value_of : Reading → ℕ
value_of (Ok (v, next)) = v
value_of (Err why) = 0

-- Memory with these bytes from a place on: what stands before and after them stays.
unfoldable pub splice : List ℕ → ℕ → List ℕ → List ℕ
splice out at bytes = take at out ++ bytes ++ drop (at + length bytes) out

-- Whether a value's bytes fit after a used length.
unfoldable pub fits : ℕ → List ℕ → ℕ → Bool
fits v out used = leb (used + length (encode v)) (length out)

-- What writing a value after a used length answers, and the memory after it.
unfoldable pub written : ℕ → List ℕ → ℕ → Option ℕ
written v out used = elim (fits v out used) [ true ↦ Some (used + length (encode v)) | false ↦ None ]

unfoldable pub memory : ℕ → List ℕ → ℕ → List ℕ
memory v out used = elim (fits v out used) [ true ↦ splice out used (encode v) | false ↦ out ]
