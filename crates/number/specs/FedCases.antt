-- What feeding gives, case by case.
use Rattle.std.specs.Prelude.{ℕ, ◌+◌, ◌-◌, ◌*◌, ◌/◌, ◌%◌, ◌≤◌, ◌<◌, Bool, List, [], ◌∷◌, length, get_or, drop, Ok, Err}
use Rattle.std.proofs.Math.Bool.{true, false}
use Rattle.std.proofs.Math.Path.{◌≡◌, refl}
use Rattle.std.proofs.Common.{sym, ◌∙◌, le-div_iff_mul-le, div-lt_iff_lt-mul, add-one, drop_of_length-le, drop-cons}
use native.Mathlib.Omega.{arith}
use Rattle.std.proofs.Math.Dec.{ltb, leb}
use borrow.Author.Tests.{lt-ltb, le-ltb, le-leb, lt-leb, ltb-true, ltb-false, leb-true, leb-false}
use Rattle.number.specs.Fed.{spoilt, with_group, group_fits, short_end, ended, onward, fed, feeds}
use Rattle.number.specs.declared.Unread.TheVariants.{CutShort, Bad as BadNumber}
use Rattle.number.specs.declared.reader.Reader.{Reader}
use Rattle.number.specs.declared.reader.Fed.TheVariants.{More, Whole, Bad}

-- What a list gives, by what its first byte gives.
pub feeds_none : (limit : ℕ) (r : Reader) (at : ℕ) → feeds limit r [] at ≡ Err CutShort
unfolding feeds
feeds_none limit r at = refl

module _ (limit : ℕ) (r : Reader) (b : ℕ) (bs : List ℕ) (at : ℕ) where
  pub feeds-more : (next : Reader) → fed limit r b ≡ More next → feeds limit r (b ∷ bs) at ≡ feeds limit next bs (at + 1)
  unfolding feeds
  feeds-more next e = rw (e, feeds)

  pub feeds-whole : (v : ℕ) → fed limit r b ≡ Whole v → feeds limit r (b ∷ bs) at ≡ Ok (v, at + 1)
  unfolding feeds
  feeds-whole v e = rw (e, feeds)

  pub feeds_bad : fed limit r b ≡ Bad → feeds limit r (b ∷ bs) at ≡ Err (BadNumber (at + 1))
  unfolding feeds
  feeds_bad e = rw (e, feeds)

-- The same of a place in a list.
pub feeds_past : (limit : ℕ) (r : Reader) (bytes : List ℕ) (at : ℕ)
    → length bytes ≤ at
    → feeds limit r (drop at bytes) at ≡ Err CutShort
feeds_past limit r bytes at h = rw (drop_of_length-le bytes h) (feeds_none limit r at)

module _ (limit : ℕ) (r : Reader) (bytes : List ℕ) (at : ℕ) (h : at < length bytes) where
  pub feeds_at_more : (next : Reader)
      → fed limit r (get_or bytes at 0) ≡ More next
      → feeds limit r (drop at bytes) at ≡ feeds limit next (drop (at + 1) bytes) (at + 1)
  feeds_at_more next e =
      let s : drop at bytes ≡ get_or bytes at 0 ∷ drop (at + 1) bytes = rw add-one (drop-cons bytes at 0 h) in
      rw s (feeds-more limit r _ _ at next e)

  pub feeds_at_whole : (v : ℕ) → fed limit r (get_or bytes at 0) ≡ Whole v → feeds limit r (drop at bytes) at ≡ Ok (v, at + 1)
  feeds_at_whole v e = rw (drop-cons bytes at 0 h) (feeds-whole limit r _ _ at v e)

  pub feeds_at_bad : fed limit r (get_or bytes at 0) ≡ Bad → feeds limit r (drop at bytes) at ≡ Err (BadNumber (at + 1))
  feeds_at_bad e = rw (drop-cons bytes at 0 h) (feeds_bad limit r _ _ at e)

-- The shortest form, case by case.
module _ (r : Reader) (byte : ℕ) where
  pub short_first : r.weight ≤ 1 → short_end r byte ≡ true
  unfolding short_end
  short_first h = rw (le-leb r.weight 1 h, short_end)

  pub short_zero : 1 < r.weight → byte ≡ 0 → short_end r byte ≡ false
  unfolding short_end
  short_zero h z = rw (lt-leb r.weight 1 h, short_end) (le-ltb 0 byte (omega arith))

  pub short_nonzero : 0 < byte → short_end r byte ≡ true
  unfolding short_end
  short_nonzero p = go (leb r.weight 1) refl
    where
      go : (b : Bool) → leb r.weight 1 ≡ b → short_end r byte ≡ true
      go true e = rw (e, short_end)
      go false e = rw (e, short_end) (lt-ltb 0 byte p)

-- What a byte gives, case by case.
module _ (limit : ℕ) (r : Reader) (byte : ℕ) where
  pub fits_yes : 0 < r.weight → with_group r byte ≤ limit → group_fits limit r byte ≡ true
  unfolding group_fits
  fits_yes p h = rw (lt-ltb 0 r.weight p, group_fits) (le-leb (with_group r byte) limit h)

  pub fits-spoilt : r.weight ≡ 0 → group_fits limit r byte ≡ false
  unfolding group_fits
  fits-spoilt z = rw (le-ltb 0 r.weight (omega arith), group_fits)

  pub fits-above : limit < with_group r byte → group_fits limit r byte ≡ false
  unfolding group_fits
  fits-above h = go (ltb 0 r.weight) refl
    where
      go : (b : Bool) → ltb 0 r.weight ≡ b → group_fits limit r byte ≡ false
      go true e = rw (e, group_fits) (lt-leb (with_group r byte) limit h)
      go false e = rw (e, group_fits)

  pub fits-only : group_fits limit r byte ≡ true → (0 < r.weight) × (with_group r byte ≤ limit)
  unfolding group_fits
  fits-only f = go (ltb 0 r.weight) refl
    where
      go : (b : Bool) → ltb 0 r.weight ≡ b → (0 < r.weight) × (with_group r byte ≤ limit)
      go true e = (ltb-true 0 r.weight e, leb-true (with_group r byte) limit (rw (e, group_fits) at f))
      go false e =
          let z = ltb-false 0 r.weight e in
          let n : ◌≡◌ {A = ℕ} 0 1 = cc (fits-spoilt (omega arith)) in
          omega arith

  -- the same by a quotient, where a product could wrap
  pub fits_quotient : 0 < r.weight
      → r.value ≤ limit
      → leb (byte % 128) ((limit - r.value) / r.weight) ≡ group_fits limit r byte
  fits_quotient p h = go (leb (byte % 128) ((limit - r.value) / r.weight)) refl
    where
      go : (b : Bool) → leb (byte % 128) ((limit - r.value) / r.weight) ≡ b → b ≡ group_fits limit r byte
      go true e =
          let m = (le-div_iff_mul-le p).0 (leb-true (byte % 128) ((limit - r.value) / r.weight) e) in
          sym (fits_yes p (omega arith))
      go false e =
          let m = (div-lt_iff_lt-mul p).0 (leb-false (byte % 128) ((limit - r.value) / r.weight) e) in
          sym (fits-above (omega arith))

  -- the last byte
  fed_last : byte < 128 → fed limit r byte ≡ ended limit r byte
  unfolding fed
  fed_last l = rw (lt-ltb byte 128 l, fed)

  pub fed-whole : byte < 128
      → group_fits limit r byte ≡ true
      → short_end r byte ≡ true
      → fed limit r byte ≡ Whole (with_group r byte)
  unfolding ended
  fed-whole l f s = fed_last l ∙ rw (f, ended) (rw s)

  pub fed_bad : byte < 128 → group_fits limit r byte ≡ false → fed limit r byte ≡ Bad
  unfolding ended
  fed_bad l f = fed_last l ∙ rw (f, ended)

  pub fed_long : byte < 128 → short_end r byte ≡ false → fed limit r byte ≡ Bad
  unfolding ended
  fed_long l s = go (group_fits limit r byte) refl
    where
      go : (b : Bool) → group_fits limit r byte ≡ b → fed limit r byte ≡ Bad
      go true f = fed_last l ∙ rw (f, ended) (rw s)
      go false f = fed_bad l f

  -- any other
  pub fed_on : 128 ≤ byte → fed limit r byte ≡ More (onward limit r byte)
  unfolding fed
  fed_on l = rw (le-ltb byte 128 l, fed)

  pub onward_bad : group_fits limit r byte ≡ false → onward limit r byte ≡ spoilt
  unfolding onward
  onward_bad f = rw (f, onward)

  pub onward_heavy : limit < r.weight * 128 → onward limit r byte ≡ spoilt
  unfolding onward
  onward_heavy h = go (group_fits limit r byte) refl
    where
      go : (b : Bool) → group_fits limit r byte ≡ b → onward limit r byte ≡ spoilt
      go true e = rw (e, onward) (rw (lt-leb (r.weight * 128) limit h))
      go false e = onward_bad e

  pub onward-next : group_fits limit r byte ≡ true
      → r.weight * 128 ≤ limit
      → onward limit r byte ≡ record { value = with_group r byte; weight = r.weight * 128 }
  unfolding onward
  onward-next f h = rw (f, onward) (rw (le-leb (r.weight * 128) limit h))
