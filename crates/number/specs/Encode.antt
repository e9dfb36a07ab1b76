-- The bytes of a value, step by step.
use Rattle.std.specs.Prelude.{ℕ, zero, suc, ◌+◌, ◌*◌, ◌/◌, ◌%◌, ◌^◌, ◌≤◌, ◌<◌, Bool, true, false, List, [], ◌∷◌, ◌≡◌, refl, ltb, length}
use Rattle.std.proofs.Common.{ap, subst, arith, lt-ltb, le-ltb, ltb-true, ltb-false}
use Rattle.std.proofs.Math.Nat.{pow-succ'}
use Rattle.number.specs.Number.{encode, encode_in}

-- a value is below 128, or has a lowest group and a rest
pub data Groups (v : ℕ) : Type 0 where
  one : v < 128 → Groups v
  several : 128 ≤ v → Groups v

pub groups : (v : ℕ) → Groups v
groups v = go (ltb v 128) refl
  where
    go : (b : Bool) → ltb v 128 ≡ b → Groups v
    go true e = one (ltb-true v 128 e)
    go false e = several (ltb-false v 128 e)

-- more steps than the value change nothing
encode_in_enough : (n m v : ℕ) → v ≤ n → v ≤ m → encode_in n v ≡ encode_in m v
unfolding encode_in
encode_in_enough zero zero v hn hm = refl
encode_in_enough zero (suc m) v hn hm = rw (lt-ltb v 128 (omega arith), encode_in)
encode_in_enough (suc n) zero v hn hm = rw (lt-ltb v 128 (omega arith), encode_in)
encode_in_enough (suc n) (suc m) v hn hm = go (groups v) (λ l. encode_in_enough n m (v / 128) (omega arith) (omega arith))
  where
    go : Groups v → (128 ≤ v → encode_in n (v / 128) ≡ encode_in m (v / 128)) → encode_in (suc n) v ≡ encode_in (suc m) v
    go (one l) f = rw (lt-ltb v 128 l, encode_in)
    go (several l) f = rw (le-ltb v 128 l, encode_in) (ap (λ (bs : List ℕ). (v % 128 + 128) ∷ bs) (f l))

pub encode_one : (v : ℕ) → v < 128 → encode v ≡ v ∷ []
unfolding encode encode_in
encode_one zero l = refl
encode_one (suc v) l = rw (lt-ltb (suc v) 128 l, encode_in)

pub encode_several : (v : ℕ) → 128 ≤ v → encode v ≡ (v % 128 + 128) ∷ encode (v / 128)
unfolding encode encode_in
encode_several zero l = absurd (no l)
  where
    no : 128 ≤ 0 → ⊥
    no l = omega arith
encode_several (suc v) l =
    rw (le-ltb (suc v) 128 l, encode_in)
    (ap (λ (bs : List ℕ). (suc v % 128 + 128) ∷ bs) (encode_in_enough v (suc v / 128) (suc v / 128) (omega arith) (omega arith)))

-- What holds of a single byte, and of a lowest group in front of what it holds of, holds of every value's bytes.
module _
    (P : ℕ → List ℕ → Type 0)
    (single : (v : ℕ) → v < 128 → P v (v ∷ []))
    (front : (g r : ℕ) (bs : List ℕ) → g < 128 → 1 ≤ r → P r bs → P (g + 128 * r) ((g + 128) ∷ bs))
  where
    encode_below : (n v : ℕ) → v ≤ n → P v (encode v)
    encode_below zero v h = rw (encode_one v (omega arith)) (single v (omega arith))
    encode_below (suc n) v h = go (groups v) (λ l. encode_below n (v / 128) (omega arith))
      where
        go : Groups v → (128 ≤ v → P (v / 128) (encode (v / 128))) → P v (encode v)
        go (one l) f = rw (encode_one v l) (single v l)
        go (several l) f =
            let whole : v % 128 + 128 * (v / 128) ≡ v = omega arith in
            let made = front (v % 128) (v / 128) (encode (v / 128)) (omega arith) (omega arith) (f l) in
            rw (encode_several v l) (subst (λ (w : ℕ). P w ((v % 128 + 128) ∷ encode (v / 128))) whole made)

    pub encode_ind : (v : ℕ) → P v (encode v)
    encode_ind v = encode_below v v (omega arith)

-- a value below a power of 128 takes at most so many bytes
pub encode-length : (n v : ℕ) → v < 128 ^ suc n → length (encode v) ≤ suc n
encode-length zero v h = rw (encode_one v h) (omega arith)
encode-length (suc n) v h = go (groups v) (λ l. encode-length n (v / 128) (omega (arith, pow-succ' 128 (suc n))))
  where
    go : Groups v → (128 ≤ v → length (encode (v / 128)) ≤ suc n) → length (encode v) ≤ suc (suc n)
    go (one l) f = rw (encode_one v l) (omega arith)
    go (several l) f = rw (encode_several v l) (omega (arith, f l))
