-- Fed one by one, bytes say what reading says of their list, for any limit.
use Rattle.std.specs.Prelude.{ℕ, suc, ◌+◌, ◌*◌, ◌%◌, ◌≤◌, ◌<◌, Bool, List, [], ◌∷◌, ◌≡◌, ltb, leb, length, drop, Ok, Err}
use Rattle.std.proofs.Math.Bool.{true, false}
use Rattle.std.proofs.Math.Path.{refl, sym}
use Rattle.std.proofs.Common.{ap, ◌∙◌, mul-le-mul_right, length-take-le, lt-ltb, le-ltb, le-leb, ltb-true, ltb-false, leb-true, leb-false}
use native.Mathlib.Omega.{arith}
use Rattle.std.proofs.Math.Nat.{add-mul, mul_assoc}
use Rattle.std.proofs.lemmas.Bool.{lt-leb}
use Rattle.number.specs.Number.{more, first, value, last_byte, shortest, judged, read_at, Reading}
use Rattle.number.specs.Encode.{Groups, one, several, groups}
use Rattle.number.specs.Decode.{more_last, more_on, last_byte_cons, shortest_several}
use Rattle.number.specs.NumberCases.{read_ends, read-cut}
use Rattle.number.specs.Fed.{start, spoilt, with_group, short_end, onward, feeds}
use Rattle.number.specs.FedCases.{feeds_none, feeds-more, feeds-whole, feeds_bad}
use Rattle.number.specs.FedCases.{fits_yes, fits-spoilt, fits-above}
use Rattle.number.specs.FedCases.{fed-whole, fed_bad, fed_long, fed_on, onward_bad, onward_heavy, onward-next}
use Rattle.number.specs.declared.Unread.TheVariants.{Bad, CutShort}
use Rattle.number.specs.declared.reader.Reader.{Reader}

-- The value of a number whose last bytes these are, the others having been fed.
abbrev whole : Reader → List ℕ → ℕ
whole r number = r.value + value number * r.weight

-- Whether they end it in its shortest form.
unfoldable short_from : Reader → List ℕ → Bool
short_from r number = elim (leb r.weight 1) [ true ↦ shortest number | false ↦ ltb 0 (last_byte number) ]

-- What a number gives by its form and its value.
unfoldable outcome : ℕ → Bool → ℕ → ℕ → Reading
outcome limit short v next =
    elim short [ true ↦ elim (leb v limit) [ true ↦ Ok (v, next) | false ↦ Err (Bad next) ] | false ↦ Err (Bad next) ]

-- What those last bytes give.
unfoldable judged_from : ℕ → Reader → List ℕ → ℕ → Reading
judged_from limit r number next =
    elim (ltb 0 r.weight) [ true ↦ outcome limit (short_from r number) (whole r number) next | false ↦ Err (Bad next) ]

module _ (r : Reader) where
  from_first : (number : List ℕ) → r.weight ≤ 1 → short_from r number ≡ shortest number
  unfolding short_from
  from_first number h = rw (le-leb r.weight 1 h, short_from)

  from_later : (number : List ℕ) → 1 < r.weight → short_from r number ≡ ltb 0 (last_byte number)
  unfolding short_from
  from_later number h = rw (lt-leb r.weight 1 h, short_from)

  -- more than one byte
  from_several : (b : ℕ) (bs : List ℕ) → 0 < length bs → short_from r (b ∷ bs) ≡ ltb 0 (last_byte bs)
  from_several b bs h = go (leb r.weight 1) refl
    where
      e : last_byte (b ∷ bs) ≡ last_byte bs
      e = last_byte_cons b bs h

      go : (t : Bool) → leb r.weight 1 ≡ t → short_from r (b ∷ bs) ≡ ltb 0 (last_byte bs)
      go true t = from_first (b ∷ bs) (leb-true r.weight 1 t) ∙ rw (← e) (shortest_several (b ∷ bs) (omega arith))
      go false t = rw (← e) (from_later (b ∷ bs) (leb-false r.weight 1 t))

module _ (limit : ℕ) (r : Reader) (number : List ℕ) (next : ℕ) where
  from-spoilt : r.weight ≡ 0 → judged_from limit r number next ≡ Err (Bad next)
  unfolding judged_from
  from-spoilt z = rw (le-ltb 0 r.weight (omega arith), judged_from)

  from_good : 0 < r.weight → judged_from limit r number next ≡ outcome limit (short_from r number) (whole r number) next
  unfolding judged_from
  from_good p = rw (lt-ltb 0 r.weight p, judged_from)

  from_bad : outcome limit (short_from r number) (whole r number) next ≡ Err (Bad next) → judged_from limit r number next ≡ Err (Bad next)
  from_bad e = go (ltb 0 r.weight) refl
    where
      go : (b : Bool) → ltb 0 r.weight ≡ b → judged_from limit r number next ≡ Err (Bad next)
      go true p = from_good (ltb-true 0 r.weight p) ∙ e
      go false p = let z = ltb-false 0 r.weight p in from-spoilt (omega arith)

  from_long : short_from r number ≡ false → judged_from limit r number next ≡ Err (Bad next)
  unfolding outcome
  from_long s = from_bad (rw (s, outcome))

  from-above : limit < whole r number → judged_from limit r number next ≡ Err (Bad next)
  unfolding outcome
  from-above h = from_bad (go (short_from r number))
    where
      go : (b : Bool) → outcome limit b (whole r number) next ≡ Err (Bad next)
      go true = rw (lt-leb (whole r number) limit h, outcome)
      go false = refl

  from-value : 0 < r.weight
      → short_from r number ≡ true
      → whole r number ≤ limit
      → judged_from limit r number next ≡ Ok (whole r number, next)
  unfolding outcome
  from-value p s h = from_good p ∙ rw (s, outcome) (rw (le-leb (whole r number) limit h))

judged-outcome : (limit : ℕ) (number : List ℕ) (next : ℕ)
    → outcome limit (shortest number) (value number) next ≡ judged limit number next
unfolding outcome judged
judged-outcome limit number next = refl

-- before any byte was fed
from_start : (limit : ℕ) (number : List ℕ) (next : ℕ) → judged_from limit start number next ≡ judged limit number next
unfolding start
from_start limit number next =
    let short : short_from start number ≡ shortest number = from_first start number (omega arith) in
    let w : whole start number ≡ value number = omega arith in
    cc (from_good limit start number next (omega arith), judged-outcome limit number next)

-- A byte's group fits, or the value is above the limit, or the number was bad.
data Fits (limit : ℕ) (r : Reader) (byte : ℕ) : Type 0 where
  room : 0 < r.weight → with_group r byte ≤ limit → Fits limit r byte
  above : limit < with_group r byte → Fits limit r byte
  bad : r.weight ≡ 0 → Fits limit r byte

fits : (limit : ℕ) (r : Reader) (byte : ℕ) → Fits limit r byte
fits limit r byte = go (ltb 0 r.weight) (leb (with_group r byte) limit) refl refl
  where
    go : (p h : Bool) → ltb 0 r.weight ≡ p → leb (with_group r byte) limit ≡ h → Fits limit r byte
    go true true e f = room (ltb-true 0 r.weight e) (leb-true (with_group r byte) limit f)
    go true false e f = above (leb-false (with_group r byte) limit f)
    go false h e f = let z = ltb-false 0 r.weight e in bad (omega arith)

-- The last byte.
module _ (limit : ℕ) (r : Reader) (b : ℕ) (bs : List ℕ) (at : ℕ) (l : b < 128) where
  last_value : whole r (b ∷ []) ≡ with_group r b
  unfolding value
  last_value = let e : value (b ∷ []) ≡ b % 128 = omega arith in rw e

  last_short : short_from r (b ∷ []) ≡ short_end r b
  unfolding short_from short_end shortest last_byte
  last_short = refl

  last : feeds limit r (b ∷ bs) at ≡ judged_from limit r (b ∷ []) (at + 1)
  last = go (fits limit r b) (short_end r b) refl
    where
      go : Fits limit r b → (s : Bool) → short_end r b ≡ s → feeds limit r (b ∷ bs) at ≡ judged_from limit r (b ∷ []) (at + 1)
      go f false s =
          feeds_bad limit r b bs at (fed_long limit r b l s) ∙ sym (from_long limit r (b ∷ []) (at + 1) (last_short ∙ s))
      go (room p h) true s =
          feeds-whole limit r b bs at (with_group r b) (fed-whole limit r b l (fits_yes limit r b p h) s)
          ∙ ap (λ (v : ℕ). Ok (v, at + 1)) (sym last_value)
          ∙ sym (from-value limit r (b ∷ []) (at + 1) p (last_short ∙ s) (rw last_value h))
      go (above h) true s =
          feeds_bad limit r b bs at (fed_bad limit r b l (fits-above limit r b h))
          ∙ sym (from-above limit r (b ∷ []) (at + 1) (rw last_value h))
      go (bad z) true s =
          feeds_bad limit r b bs at (fed_bad limit r b l (fits-spoilt limit r b z))
          ∙ sym (from-spoilt limit r (b ∷ []) (at + 1) z)

-- A number whose last byte is not 0 has a value.
value_some : (bs : List ℕ) → 0 < last_byte bs → last_byte bs < 128 → 0 < value bs
unfolding value last_byte
value_some [] p l = p
value_some (b ∷ []) p l = omega arith
value_some (b ∷ c ∷ cs) p l = omega (arith, value_some (c ∷ cs) p l)

-- A byte that is not the last, before bytes of which the last has no high bit.
module _ (limit : ℕ) (r : Reader) (b : ℕ) (bs : List ℕ) (next : ℕ) (some : 0 < length bs) (l : last_byte bs < 128) where
  on_value : whole r (b ∷ bs) ≡ with_group r b + value bs * (r.weight * 128)
  unfolding value
  on_value =
      let g = b % 128 in
      let v = value bs in
      let w = r.weight in
      omega (arith, add-mul g (128 * v) w, mul_assoc 128 v w, mul_assoc v w 128)

  -- the last byte is 0, or its group is at least the next weight
  too_heavy : limit < r.weight * 128 → judged_from limit r (b ∷ bs) next ≡ Err (Bad next)
  too_heavy h = go (ltb 0 (last_byte bs)) refl
    where
      go : (s : Bool) → ltb 0 (last_byte bs) ≡ s → judged_from limit r (b ∷ bs) next ≡ Err (Bad next)
      go false s = from_long limit r (b ∷ bs) next (from_several r b bs some ∙ s)
      go true s =
          let v = value_some bs (ltb-true 0 (last_byte bs) s) l in
          from-above limit r (b ∷ bs) next (omega (arith, on_value, mul-le-mul_right (r.weight * 128) v))

  -- the next group counts 128 times as much
  weighs : 0 < r.weight
      → judged_from limit r (b ∷ bs) next
      ≡ judged_from limit record { value = with_group r b; weight = r.weight * 128 } bs next
  weighs p =
      let q : Reader = record { value = with_group r b; weight = r.weight * 128 } in
      let s : short_from r (b ∷ bs) ≡ short_from q bs = from_several r b bs some ∙ sym (from_later q bs (omega arith)) in
      let w : whole r (b ∷ bs) ≡ whole q bs = on_value in
      cc (from_good limit r (b ∷ bs) next p, from_good limit q bs next (omega arith))

  on : judged_from limit r (b ∷ bs) next ≡ judged_from limit (onward limit r b) bs next
  unfolding spoilt
  on = go (fits limit r b) (leb (r.weight * 128) limit) refl
    where
      spoils : onward limit r b ≡ spoilt
          → judged_from limit r (b ∷ bs) next ≡ Err (Bad next)
          → judged_from limit r (b ∷ bs) next ≡ judged_from limit (onward limit r b) bs next
      spoils e f = f ∙ sym (rw e (from-spoilt limit spoilt bs next refl))

      go : Fits limit r b
          → (t : Bool)
          → leb (r.weight * 128) limit ≡ t
          → judged_from limit r (b ∷ bs) next ≡ judged_from limit (onward limit r b) bs next
      go (above h) t e =
          spoils (onward_bad limit r b (fits-above limit r b h)) (from-above limit r (b ∷ bs) next (omega (arith, on_value)))
      go (bad z) t e = spoils (onward_bad limit r b (fits-spoilt limit r b z)) (from-spoilt limit r (b ∷ bs) next z)
      go (room p h) true e =
          rw (onward-next limit r b (fits_yes limit r b p h) (leb-true (r.weight * 128) limit e))
          (weighs p)
      go (room p h) false e =
          let heavy = leb-false (r.weight * 128) limit e in
          spoils (onward_heavy limit r b heavy) (too_heavy heavy)

-- A number that ends has a last byte, without the high bit.
first_some : (bs : List ℕ) → more bs < length bs → 0 < length (first bs)
first_some bs h = omega (arith, length-take-le (suc (more bs)) bs h)

last_low : (bs : List ℕ) → more bs < length bs → last_byte (first bs) < 128
unfolding last_byte
last_low [] h = absurd (no h)
  where
    no : more [] < 0 → ⊥
    no h = omega arith
last_low (b ∷ bs) h = go (groups b) (last_low bs)
  where
    go : Groups b → (more bs < length bs → last_byte (first bs) < 128) → last_byte (first (b ∷ bs)) < 128
    go (one l) ih = rw (more_last b bs l) l
    go (several l) ih =
        let m : more bs < length bs = omega (arith, more_on b bs l) in
        rw (more_on b bs l, last_byte_cons b (first bs) (first_some bs m)) (ih m)

-- What the bytes of a list give after those that were fed: a number that ends, or one that is cut short.
feeds_ends : (limit : ℕ) (bs : List ℕ) (r : Reader) (at : ℕ)
    → more bs < length bs
    → feeds limit r bs at ≡ judged_from limit r (first bs) (at + suc (more bs))
feeds_ends limit [] r at h = absurd (no h)
  where
    no : more [] < 0 → ⊥
    no h = omega arith
feeds_ends limit (b ∷ bs) r at h = go (groups b) (feeds_ends limit bs (onward limit r b) (at + 1))
  where
    q : Reader
    q = onward limit r b

    next : ℕ
    next = at + suc (suc (more bs))

    go : Groups b
        → (more bs < length bs → feeds limit q bs (at + 1) ≡ judged_from limit q (first bs) (at + 1 + suc (more bs)))
        → feeds limit r (b ∷ bs) at ≡ judged_from limit r (first (b ∷ bs)) (at + suc (more (b ∷ bs)))
    go (one l) ih = rw (more_last b bs l) (last limit r b bs at l)
    go (several l) ih =
        let m : more bs < length bs = omega (arith, more_on b bs l) in
        let e : at + 1 + suc (more bs) ≡ next = omega arith in
        rw (more_on b bs l)
        (feeds-more limit r b bs at q (fed_on limit r b l)
        ∙ (rw e at (ih m))
        ∙ sym (on limit r b (first bs) next (first_some bs m) (last_low bs m)))

feeds-cut : (limit : ℕ) (bs : List ℕ) (r : Reader) (at : ℕ) → length bs ≤ more bs → feeds limit r bs at ≡ Err CutShort
feeds-cut limit [] r at h = feeds_none limit r at
feeds-cut limit (b ∷ bs) r at h = go (groups b) (feeds-cut limit bs (onward limit r b) (at + 1))
  where
    go : Groups b
        → (length bs ≤ more bs → feeds limit (onward limit r b) bs (at + 1) ≡ Err CutShort)
        → feeds limit r (b ∷ bs) at ≡ Err CutShort
    go (one l) ih = absurd (let z : suc (length bs) ≤ 0 = rw (more_last b bs l) at h in omega arith)
    go (several l) ih =
        feeds-more limit r b bs at (onward limit r b) (fed_on limit r b l) ∙ ih (omega (arith, more_on b bs l))

-- Fed one by one from a place on, the bytes of a list say what reading says there.
pub feeds_reads : (limit : ℕ) (bytes : List ℕ) (at : ℕ) → feeds limit start (drop at bytes) at ≡ read_at limit bytes at
feeds_reads limit bytes at = go (ltb (more bs) (length bs)) refl
  where
    bs : List ℕ
    bs = drop at bytes

    go : (t : Bool) → ltb (more bs) (length bs) ≡ t → feeds limit start bs at ≡ read_at limit bytes at
    go true t =
        let h = ltb-true (more bs) (length bs) t in
        feeds_ends limit bs start at h
        ∙ from_start limit (first bs) (at + suc (more bs))
        ∙ sym (read_ends limit bytes at h)
    go false t =
        let h = ltb-false (more bs) (length bs) t in
        feeds-cut limit bs start at h ∙ sym (read-cut limit bytes at h)
