-- A number that is read byte by byte, as its bytes come. The groups come lowest first, so that between two bytes the value so
-- far and the weight of the next group are kept.
use Rattle.std.specs.Prelude.{ℕ, ◌+◌, ◌*◌, ◌%◌, Bool, true, false, List, [], ◌∷◌, ltb, leb, Ok, Err}
use Rattle.number.specs.Number.{Reading}
use Rattle.number.specs.declared.Unread.TheVariants.{CutShort, Bad as BadNumber}
use Rattle.number.specs.declared.reader.Reader.{Reader}
use Rattle.number.specs.declared.reader.Fed.{Fed}
use Rattle.number.specs.declared.reader.Fed.TheVariants.{More, Whole, Bad}

-- No byte yet: the first group counts as it is.
unfoldable pub start : Reader
start = record { value = 0; weight = 1 }

-- Bad, whatever follows.
unfoldable pub spoilt : Reader
spoilt = record { value = 0; weight = 0 }

-- The value with a byte's group.
abbrev pub with_group : Reader → ℕ → ℕ
with_group r byte = r.value + byte % 128 * r.weight

-- Whether the number is not bad yet and its value with a byte's group is within the limit.
unfoldable pub group_fits : ℕ → Reader → ℕ → Bool
group_fits limit r byte = elim (ltb 0 r.weight) [ true ↦ leb (with_group r byte) limit | false ↦ false ]

-- The shortest form: the last byte is the first one, or is not 0.
unfoldable pub short_end : Reader → ℕ → Bool
short_end r byte = elim (leb r.weight 1) [ true ↦ true | false ↦ ltb 0 byte ]

-- What the last byte gives.
unfoldable pub ended : ℕ → Reader → ℕ → Fed
ended limit r byte =
    elim (group_fits limit r byte) [
      | true ↦ elim (short_end r byte) [ true ↦ Whole (with_group r byte) | false ↦ Bad ]
      | false ↦ Bad
    ]

-- The reader after a byte that is not the last. Where the next group's weight is above the limit the number is bad whatever
-- follows: either its last byte is 0, which is not the shortest form, or its value is above the limit.
unfoldable pub onward : ℕ → Reader → ℕ → Reader
onward limit r byte =
    elim (group_fits limit r byte) [
      | true ↦ elim (leb (r.weight * 128) limit) [
        | true ↦ record { value = with_group r byte; weight = r.weight * 128 }
        | false ↦ spoilt
      ]
      | false ↦ spoilt
    ]

-- What a byte gives: without the high bit it is the last one.
unfoldable pub fed : ℕ → Reader → ℕ → Fed
fed limit r byte = elim (ltb byte 128) [ true ↦ ended limit r byte | false ↦ More (onward limit r byte) ]

-- What the bytes of a list give, fed one by one; they begin at a place.
unfoldable pub feeds : ℕ → Reader → List ℕ → ℕ → Reading
feeds limit r [] at = Err CutShort
feeds limit r (b ∷ bs) at =
    elim (fed limit r b) [
      | More next ↦ feeds limit next bs (at + 1)
      | Whole v ↦ Ok (v, at + 1)
      | Bad ↦ Err (BadNumber (at + 1))
    ]
