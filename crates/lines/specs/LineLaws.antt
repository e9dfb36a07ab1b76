-- How long a line is, and how it is put together.
use Rattle.std.specs.Prelude.{ℕ, zero, suc, ◌+◌, ◌*◌, ◌-◌, ◌/◌, ◌^◌, ◌≤◌, ◌<◌, Bool, true, false, List, [], ◌∷◌, ◌++◌, ◌≡◌, refl, ltb, length, set, take, drop}
use Rattle.std.proofs.Common.{append_assoc, append-nil, ap, sym, ◌∙◌, arith, pow-suc, zero-add, length-append, length-drop, take_all, drop-drop, ltb-true, ltb-false}
use Rattle.std.proofs.Math.Seq.{drop-length}
use borrow.Rule.Slice.PartMut.{put_mid, mid_of, post_of, Post-is}
use Rattle.number.specs.Number.{splice}
use Rattle.number.specs.Splice.{splice_then, splice-one, splice-length}
use Rattle.decimal.specs.Decimal.{decimal}
use Rattle.decimal.specs.DecimalLaws.{digits_one, digits_several}
use Rattle.lines.specs.Line.{marked, line, space, newline}

-- a number below a power of ten has no more digits than the power
pub digits_bound : (k v : ℕ) → v < 10 ^ suc k → length (decimal v) ≤ suc k
digits_bound zero v h = let d = digits_one v h in omega arith
digits_bound (suc k) v h = go (ltb v 10) refl (λ _. digits_bound k (v / 10) below)
  where
    below : v / 10 < 10 ^ suc k
    below = let p : 10 ^ suc (suc k) ≡ 10 ^ suc k * 10 = pow-suc 10 (suc k) in omega arith

    go : (b : Bool) → ltb v 10 ≡ b → (10 ≤ v → length (decimal (v / 10)) ≤ suc k) → length (decimal v) ≤ suc (suc k)
    go true e r = let d = digits_one v (ltb-true v 10 e) in omega arith
    go false e r =
        let d = digits_several v (ltb-false v 10 e) in
        let t = r (ltb-false v 10 e) in
        omega arith

pub marked-length : (v mark : ℕ) → length (marked v mark) ≡ length (decimal v) + 1
unfolding marked
marked-length v mark = length-append (decimal v) (mark ∷ [])

pub line_marked : (a b c : ℕ) → line a b c ≡ marked a space ++ marked b space ++ marked c newline
unfolding line
line_marked a b c = refl

pub line-parts : (a b c : ℕ) → length (line a b c) ≡ length (marked a space) + length (marked b space) + length (marked c newline)
line-parts a b c = rw (line_marked a b c, length-append, length-append) (omega arith)

pub line-length : (a b c : ℕ) → length (line a b c) ≡ length (decimal a) + length (decimal b) + length (decimal c) + 3
line-length a b c = omega (arith, line-parts a b c, marked-length a space, marked-length b space, marked-length c newline)

-- a number put, and then its mark
pub splice-marked : (out : List ℕ) (at v mark : ℕ) → at + length (marked v mark) ≤ length out
    → set (splice out at (decimal v)) (at + length (decimal v)) mark ≡ splice out at (marked v mark)
unfolding marked
splice-marked out at v mark h =
    let n = length-append (decimal v) (mark ∷ []) in
    let room : at + length (decimal v) < length out = omega arith in
    let long = splice-length out at (decimal v) (omega arith) in
    sym (splice-one (splice out at (decimal v)) (at + length (decimal v)) mark (omega arith))
    ∙ splice_then out at (decimal v) (mark ∷ []) (omega arith)

-- the three parts of a line, one behind the other
pub splice-line : (out : List ℕ) (a b c : ℕ) → length (line a b c) ≤ length out
    → splice (splice (splice out 0 (marked a space)) (0 + length (marked a space)) (marked b space))
    (0 + length (marked a space) + length (marked b space)) (marked c newline)
    ≡ splice out 0 (line a b c)
splice-line out a b c h =
    let n = line-parts a b c in
    let x = marked a space in
    let y = marked b space in
    let z = marked c newline in
    let two : splice (splice out 0 x) (0 + length x) y ≡ splice out 0 (x ++ y) = splice_then out 0 x y (omega arith) in
    let sum : 0 + length x + length y ≡ 0 + length (x ++ y) = omega (arith, length-append x y) in
    rw (two, sum, splice_then out 0 (x ++ y) z (omega (arith, length-append x y)), line_marked, append_assoc)

-- a line with a refusal and a handle or link takes less than the 32 bytes that check 1 asks for
pub line_short : (a b c : ℕ) → a < 2 ^ 64 → b < 100 → c < 10000 → length (line a b c) ≤ 32
line_short a b c ha hb hc =
    let x = digits_bound 19 a (omega arith) in
    let y = digits_bound 1 b (omega arith) in
    let z = digits_bound 3 c (omega arith) in
    let n = line-length a b c in
    omega arith

-- bytes at the start of the free tail are bytes behind the used part
pub splice_tail : (out : List ℕ) (used : ℕ) (bs : List ℕ) → used ≤ length out
    → put_mid used (length out - used) out (splice (mid_of used (length out - used) out) 0 bs) ≡ splice out used bs
unfolding splice
splice_tail out used bs h =
    let tail : mid_of used (length out - used) out ≡ drop used out =
    take_all (length out - used) (drop used out) (omega (arith, length-drop used out)) in
    let none : post_of used (length out - used) out ≡ [] = Post-is used (length out) out h ∙ drop-length out in
    let rest = drop (used + length bs) out in
    rw (tail, none, drop-drop, zero-add)
    (ap (λ (l : List ℕ). take used out ++ l) (append-nil (bs ++ rest)) ∙ sym (append_assoc (take used out) bs rest))
