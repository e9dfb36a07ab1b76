-- Laws of the decimal digits.
use Rattle.std.specs.Prelude.{ℕ, zero, suc, ◌+◌, ◌/◌, ◌%◌, ◌≤◌, ◌<◌, Bool, true, false, List, [], ◌∷◌, ◌++◌, ◌≡◌, refl, ltb, length, take, drop, set}
use Rattle.std.proofs.Common.{append_assoc, ap, ◌∙◌, arith, length-append, drop_at, length-take-le, lt-ltb, le-ltb, ltb-true, ltb-false}
use Rattle.std.proofs.lemmas.List.{take-set-le, set_split}
use Rattle.number.specs.Number.{splice}
use Rattle.decimal.specs.Decimal.{decimal_in, decimal}

-- more steps than the number change nothing
steps_enough : (n m v : ℕ) → v ≤ n → v ≤ m → decimal_in n v ≡ decimal_in m v
unfolding decimal_in
steps_enough zero zero v hn hm = refl
steps_enough zero (suc m) v hn hm = rw (lt-ltb v 10 (omega arith), decimal_in)
steps_enough (suc n) zero v hn hm = rw (lt-ltb v 10 (omega arith), decimal_in)
steps_enough (suc n) (suc m) v hn hm = go (ltb v 10) refl (λ l. steps_enough n m (v / 10) (omega arith) (omega arith))
  where
    go : (b : Bool) → ltb v 10 ≡ b → (10 ≤ v → decimal_in n (v / 10) ≡ decimal_in m (v / 10))
        → decimal_in (suc n) v ≡ decimal_in (suc m) v
    go true e r = rw (e, decimal_in)
    go false e r = rw (e, decimal_in, r (ltb-false v 10 e))

pub decimal-one : (v : ℕ) → v < 10 → decimal v ≡ (v + 48) ∷ []
unfolding decimal decimal_in
decimal-one zero h = refl
decimal-one (suc v) h = rw (lt-ltb (suc v) 10 h, decimal_in)

pub decimal_several : (v : ℕ) → 10 ≤ v → decimal v ≡ decimal (v / 10) ++ (v % 10 + 48) ∷ []
unfolding decimal decimal_in
decimal_several zero h = absurd (omega arith)
decimal_several (suc v) h =
    rw (le-ltb (suc v) 10 h, decimal_in, steps_enough v (suc v / 10) (suc v / 10) (omega arith) (omega arith))

pub digits_some : (v : ℕ) → 1 ≤ length (decimal v)
digits_some v = go (ltb v 10) refl
  where
    go : (b : Bool) → ltb v 10 ≡ b → 1 ≤ length (decimal v)
    go true e = let d = ap length (decimal-one v (ltb-true v 10 e)) in omega arith
    go false e = let d = simp length-append at (ap length (decimal_several v (ltb-false v 10 e))) in omega arith

-- one digit behind the bytes, put first, and then the bytes
pub splice_behind_first : (out : List ℕ) (at d : ℕ) (bs : List ℕ) → at + length bs < length out
    → splice (set out (at + length bs) d) at bs ≡ splice out at (bs ++ d ∷ [])
unfolding splice
splice_behind_first out at d bs h =
    let k = at + length bs in
    let tail : drop k (set out k d) ≡ d ∷ drop (suc k) out =
    ap (λ (l : List ℕ). drop k l) (set_split out k d h)
    ∙ drop_at (take k out) (d ∷ drop (suc k) out) k (length-take-le k out (omega arith)) in
    let sum : at + length (bs ++ d ∷ []) ≡ suc k = omega (arith, length-append bs (d ∷ [])) in
    rw (take-set-le at out k d (omega arith), tail, sum) (simp append_assoc)

pub digits_several : (v : ℕ) → 10 ≤ v → length (decimal v) ≡ length (decimal (v / 10)) + 1
digits_several v h = ap length (decimal_several v h) ∙ length-append (decimal (v / 10)) _

pub digits_one : (v : ℕ) → v < 10 → length (decimal v) ≡ 1
digits_one v h = ap length (decimal-one v h)
