-- Bytes put into memory, and what writing a value answers.
use Rattle.std.specs.Prelude.{ℕ, suc, ◌+◌, ◌≤◌, ◌<◌, ◌≡◌, refl, take, set, Some, None}
use mathlib.Core.List.{List, [], ◌∷◌, ◌++◌, append_assoc, append-nil}
use Rattle.std.proofs.Common.{ap, sym, ◌∙◌, arith, add-zero, add-one, length-append, length-drop, take-append-drop, length-take-le, take-suc-set, drop-set-lt, drop-drop, le-leb}
use Rattle.std.proofs.Math.ListN.{length, drop}
use Rattle.std.proofs.Math.Seq.{take_at, drop_at, append_snoc}
use Rattle.std.proofs.lemmas.Bool.{lt-leb}
use Rattle.number.specs.Number.{encode, splice, fits, written, memory}

-- one byte more
pub splice-step : (out : List ℕ) (at b : ℕ) (bs : List ℕ)
    → at < length out
    → splice out at (b ∷ bs) ≡ splice (set out at b) (at + 1) bs
unfolding splice
splice-step out at b bs h =
    let e : at + suc (length bs) ≡ suc at + length bs = omega arith in
    rw (add-one, take-suc-set out at b h, drop-set-lt (suc at + length bs) out at b (omega arith), append_snoc, e)

pub splice_none : (out : List ℕ) (at : ℕ) → splice out at [] ≡ out
unfolding splice
splice_none out at = rw (add-zero, append-nil) (take-append-drop at out)

pub splice-one : (out : List ℕ) (at b : ℕ) → at < length out → splice out at (b ∷ []) ≡ set out at b
splice-one out at b h = splice-step out at b [] h ∙ splice_none (set out at b) (at + 1)

-- Memory keeps its length, what stands before the bytes, and what stands behind them.
module _ (out : List ℕ) (at : ℕ) (bs : List ℕ) (h : at + length bs ≤ length out) where
  front_length : length (take at out ++ bs) ≡ at + length bs
  front_length = length-append (take at out) bs ∙ ap (λ (n : ℕ). n + length bs) (length-take-le at out (omega arith))

  pub splice-length : length (splice out at bs) ≡ length out
  unfolding splice
  splice-length = rw (length-append, front_length, length-drop) (omega arith)

  pub splice_before : take at (splice out at bs) ≡ take at out
  unfolding splice
  splice_before =
      rw append_assoc (take_at (take at out) (bs ++ drop (at + length bs) out) at (length-take-le at out (omega arith)))

  pub splice-from : drop at (splice out at bs) ≡ bs ++ drop (at + length bs) out
  unfolding splice
  splice-from = rw append_assoc (drop_at (take at out) (bs ++ drop (at + length bs) out) at (length-take-le at out (omega arith)))

  pub splice-behind : drop (at + length bs) (splice out at bs) ≡ drop (at + length bs) out
  unfolding splice
  splice-behind = drop_at (take at out ++ bs) (drop (at + length bs) out) (at + length bs) front_length

  pub splice_to : take (at + length bs) (splice out at bs) ≡ take at out ++ bs
  unfolding splice
  splice_to = take_at (take at out ++ bs) (drop (at + length bs) out) (at + length bs) front_length

pub splice-is : (out : List ℕ) (at : ℕ) (bs : List ℕ) → splice out at bs ≡ take at out ++ bs ++ drop (at + length bs) out
unfolding splice
splice-is out at bs = refl

-- Bytes behind bytes are put as one.
pub splice_then : (out : List ℕ) (at : ℕ) (bs cs : List ℕ)
    → at + length bs ≤ length out
    → splice (splice out at bs) (at + length bs) cs ≡ splice out at (bs ++ cs)
splice_then out at bs cs h =
    let n = at + length bs in
    let s = splice out at bs in
    let front : take n s ≡ take at out ++ bs = splice_to out at bs h in
    let behind : drop (n + length cs) s ≡ drop (n + length cs) out =
    sym (drop-drop (length cs) n s) ∙ ap (λ (l : List ℕ). drop (length cs) l) (splice-behind out at bs h)
    ∙ drop-drop (length cs) n out in
    let sum : at + length (bs ++ cs) ≡ n + length cs = omega (arith, length-append bs cs) in
    splice-is s n cs ∙ rw (front, behind, ← sum) (simp append_assoc) ∙ sym (splice-is out at (bs ++ cs))

-- Writing a value: all its bytes, or none where they do not fit.
module _ (v : ℕ) (out : List ℕ) (used : ℕ) where
  pub written-fits : used + length (encode v) ≤ length out → written v out used ≡ Some (used + length (encode v))
  unfolding written fits
  written-fits h = rw (le-leb (used + length (encode v)) (length out) h, written, fits)

  pub written-not : length out < used + length (encode v) → written v out used ≡ None
  unfolding written fits
  written-not h = rw (lt-leb (used + length (encode v)) (length out) h, written, fits)

  pub memory-fits : used + length (encode v) ≤ length out → memory v out used ≡ splice out used (encode v)
  unfolding memory fits
  memory-fits h = rw (le-leb (used + length (encode v)) (length out) h, memory, fits)

  pub memory-not : length out < used + length (encode v) → memory v out used ≡ out
  unfolding memory fits
  memory-not h = rw (lt-leb (used + length (encode v)) (length out) h, memory, fits)
