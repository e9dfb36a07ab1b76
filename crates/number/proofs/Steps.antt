-- One step of each loop of the code.
use Prim.Native.Nat.{ℕ, suc, ◌+◌, ◌-◌, ◌*◌, ◌/◌, ◌%◌, ◌≤◌, ◌<◌}
use mathlib.Core.Bool.{true, false}
use mathlib.Core.List.{List, [], ◌∷◌, ◌++◌, append_assoc, append-nil}
use mathlib.Core.Logic.{◌⊎◌, inl, inr}
use mathlib.Core.Path.{◌≡◌, refl, ap, sym, ◌∙◌}
use native.Mathlib.Omega.{arith}
use native.Mathlib.Numerals.{add-one}
use lib.ListN.{length, get_or, take, drop, length-append}
use borrow.Author.Tests.{lt-ltb, le-ltb}
use Rattle.std.specs.Prelude.{Option, Some, None, Err}
use Rattle.std.specs.List.{AllWithin, HoldsAt}
use Rattle.std.specs.Option.{MatchOption, unwrap_or}
use Rattle.std.proofs.lemmas.Iterator.{index_from_first}
use Rattle.number.specs.Number.{more, value, last_byte, shortest, judged, read_at}
use Rattle.number.specs.Decode.{more_last, more_on, shortest_several}
use Rattle.number.specs.Fed.{group_fits, short_end, fed}
use Rattle.number.specs.FedCases.{short_first, short_zero, short_nonzero, fed_long, fed-whole}
use Rattle.number.specs.declared.reader.Reader.{Reader}
use Rattle.number.specs.declared.reader.Fed.TheVariants.{Whole, Bad as BadFed}
use Rattle.number.specs.NumberCases.{judged-above, read_ends, read-cut}
use Rattle.number.specs.declared.Unread.TheVariants.{Bad, CutShort}

-- The search for the last byte: the bytes in front of it all have the high bit set.
module _ (bytes : List ℕ) where
  abbrev AllHigh : ℕ → Type 0
  AllHigh i = AllWithin (λ b. 128 ≤ b) bytes 0 i

  abbrev LastAt : ℕ → Type 0
  LastAt i = (i < length bytes) × HoldsAt (λ b. b < 128) bytes i × AllHigh i

  more_first : (found : Option ℕ) → MatchOption found (AllHigh (length bytes)) LastAt → more bytes ≡ unwrap_or found (length bytes)
  unfolding more
  more_first found h =
      index_from_first more (λ b. b < 128) (λ b. 128 ≤ b) refl (λ b bs l. more_last b bs l)
      (λ b bs l. more_on b bs l ∙ sym (add-one (more bs)))
      bytes
      found
      h

  pub last_found : (found : Option ℕ)
      → MatchOption found (AllHigh (length bytes)) LastAt
      → MatchOption found (length bytes ≤ more bytes) (λ i. (more bytes ≡ i) × (i < length bytes))
  last_found None h = omega (arith, more_first None h)
  last_found (Some i) h = (more_first (Some i) h, h.0)

-- what stands at a place, by the bytes from there on: a last byte is found, or none
module _ (limit : ℕ) (bytes : List ℕ) (at : ℕ) (rest : List ℕ) (from : drop at bytes ≡ rest) where
  pub read_last : (last : ℕ)
      → more rest ≡ last
      → last < length rest
      → judged limit (take (last + 1) rest) (at + last + 1) ≡ read_at limit bytes at
  read_last last m h =
      let n : at + last + 1 ≡ at + suc last = omega arith in
      rw (n, add-one last) (sym (read_ends limit bytes at (rw from (omega arith)) ∙ rw (from, m)))

  pub read_none : length rest ≤ more rest → Err CutShort ≡ read_at limit bytes at
  read_none h = sym (read-cut limit bytes at (rw from h))

-- The groups summed so far are those behind the bytes that are left.
pub record Summed (number left : List ℕ) (v : ℕ) : Type 0 where
  pub taken : List ℕ
  pub stands : number ≡ left ++ taken
  pub sum : v ≡ value taken

pub summed_none : (number left : List ℕ) → left ≡ number → Summed number left 0
unfolding value
summed_none number left e = record { taken = []; stands = sym (rw append-nil e); sum = refl }

pub summed_more : (number left rest : List ℕ) (byte v g : ℕ)
    → left ≡ rest ++ byte ∷ []
    → g ≡ byte % 128
    → Summed number left v
    → Summed number rest (v * 128 + g)
unfolding value
summed_more number left rest byte v g e h s = record {
  taken = byte ∷ s.taken;
  stands = s.stands ∙ rw e (append_assoc rest (byte ∷ []) s.taken);
  sum = omega (arith, s.sum);
}

pub summed_all : (number left : List ℕ) (v : ℕ) → length left ≡ 0 → Summed number left v → v ≡ value number
summed_all number [] v z s = s.sum ∙ ap value (sym s.stands)
summed_all number (b ∷ bs) v z s = absurd (no z)
  where
    no : suc (length bs) ≡ 0 → ⊥
    no z = omega arith

-- where a byte is left, they already tell that the value is above the limit
value-part : (left taken : List ℕ) → 0 < length left → 128 * value taken ≤ value (left ++ taken)
unfolding value
value-part [] taken h = absurd (no h)
  where
    no : 0 < 0 → ⊥
    no h = omega arith
value-part (b ∷ []) taken h = omega arith
value-part (b ∷ c ∷ left) taken h = omega (arith, value-part (c ∷ left) taken (omega arith))

pub judged_early : (limit : ℕ) (number left rest : List ℕ) (byte v next : ℕ)
    → left ≡ rest ++ byte ∷ []
    → limit / 128 < v
    → Summed number left v
    → judged limit number next ≡ Err (Bad next)
judged_early limit number left rest byte v next e h s =
    let some : 0 < length left = omega (arith, ap length e, length-append rest (byte ∷ [])) in
    judged-above limit number next (omega (arith, value-part left s.taken some, s.sum, ap value s.stands))

-- The test of the shortest form looks at the last byte.
last_byte-at : (bs : List ℕ) → 0 < length bs → last_byte bs ≡ get_or bs (length bs - 1) 0
unfolding last_byte
last_byte-at [] h = refl
last_byte-at (b ∷ []) h = refl
last_byte-at (b ∷ c ∷ cs) h =
    let e : length (b ∷ c ∷ cs) - 1 ≡ suc (length (c ∷ cs) - 1) = omega arith in
    rw e (last_byte-at (c ∷ cs) (omega arith))

pub shortest_yes : (number : List ℕ)
    → 1 < length number
    → (get_or number (length number - 1) 0 ≡ 0 → ⊥)
    → shortest number ≡ true
shortest_yes number h n =
    let f = last_byte-at number (omega arith) in
    shortest_several number h ∙ lt-ltb 0 (last_byte number) (omega (arith, n))

pub shortest_no : (number : List ℕ) → 1 < length number → get_or number (length number - 1) 0 ≡ 0 → shortest number ≡ false
shortest_no number h e = shortest_several number h ∙ le-ltb 0 (last_byte number) (omega (arith, last_byte-at number (omega arith)))

-- What a last byte gives, by the branches of `feed`.
pub fed_zero : (limit : ℕ) (r : Reader) (byte : ℕ) → byte < 128 → byte ≡ 0 → 1 < r.weight → BadFed ≡ fed limit r byte
fed_zero limit r byte l z w = sym (fed_long limit r byte l (short_zero r byte w z))

pub fed_short : (limit : ℕ) (r : Reader) (byte g : ℕ)
    → byte < 128
    → g ≡ byte % 128
    → group_fits limit r byte ≡ true
    → (byte ≡ 0 × r.weight ≤ 1) ⊎ (byte ≡ 0 → ⊥)
    → Whole (r.value + g * r.weight) ≡ fed limit r byte
fed_short limit r byte g l e f s = rw e (sym (fed-whole limit r byte l f (short s)))
  where
    short : (byte ≡ 0 × r.weight ≤ 1) ⊎ (byte ≡ 0 → ⊥) → short_end r byte ≡ true
    short (inl first) = short_first r byte first.1
    short (inr n) = short_nonzero r byte (omega (arith, n))
