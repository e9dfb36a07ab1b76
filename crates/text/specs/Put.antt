-- Bytes put into memory at a place: the place behind them, and the memory after.
use Rattle.std.specs.Prelude.{ℕ, suc, ◌+◌, ◌-◌, ◌≤◌, ◌<◌, List, [], ◌++◌, ◌≡◌, refl, length, take, get_or, set, drop}
use Rattle.std.proofs.Common.{ap, sym, ◌∙◌, append_assoc, arith, add-one, length-append, drop-cons}
use borrow.Rule.Slice.PartMut.{put_mid, Post-is}
use Rattle.number.specs.Number.{splice}
use Rattle.number.specs.Splice.{splice-step, splice_none, splice_then}

pub record Put (out : List ℕ) (at : ℕ) (bytes : List ℕ) (next : ℕ) (after : List ℕ) : Type 0 where
  pub place : next ≡ at + length bytes
  pub written : after ≡ splice out at bytes

-- Nothing put, and bytes behind bytes.
pub put_none : (out : List ℕ) (at : ℕ) → Put out at [] at out
put_none out at = record { place = omega arith; written = sym (splice_none out at) }

pub put_then : {out : List ℕ} {at : ℕ} {bs cs : List ℕ} {next last : ℕ} {after end : List ℕ}
    → at + length bs ≤ length out
    → Put out at bs next after
    → Put after next cs last end
    → Put out at (bs ++ cs) last end
put_then {out} {at} {bs} {cs} h p q =
    record {
      place = omega (arith, p.place, q.place, length-append bs cs);
      written = q.written ∙ rw (p.written, p.place) (splice_then out at bs cs h);
    }

-- bytes that a part of the memory is made a copy of
pub put_copied : (out bytes copy : List ℕ) (at : ℕ) → copy ≡ bytes
    → Put out at bytes (at + length bytes) (put_mid at (at + length bytes - at) out copy)
unfolding splice
put_copied out bytes copy at e =
    record {
      place = refl;
      written = rw (e, Post-is at (at + length bytes) out (omega arith)) (sym (append_assoc (take at out) bytes _));
    }

-- one byte more of those that are put from a place on
pub put-more : (out bytes : List ℕ) (at k : ℕ) → k < length bytes → at + k < length out
    → splice (set out (at + k) (get_or bytes k 0)) (at + (k + 1)) (drop (k + 1) bytes) ≡ splice out (at + k) (drop k bytes)
put-more out bytes at k h l =
    let after = set out (at + k) (get_or bytes k 0) in
    ap (λ (n : ℕ). splice after n (drop (k + 1) bytes)) (omega arith)
    ∙ ap (λ (n : ℕ). splice after (at + k + 1) (drop n bytes)) (add-one k)
    ∙ sym (splice-step out (at + k) (get_or bytes k 0) (drop (suc k) bytes) l)
    ∙ ap (splice out (at + k)) (sym (drop-cons bytes k 0 h))
