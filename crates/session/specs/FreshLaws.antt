-- How a fresh session gets into memory: zeros are the empty session, and what a call leaves in short and in long memory.
use Rattle.std.specs.Prelude.{ℕ, zero, ◌+◌, ◌<◌, ◌≤◌, ◌≡◌, refl, List, Bool, true, false, length, get_or, set, drop, ltb}
use Rattle.std.proofs.Math.Path.{fun_ext}
use Rattle.std.proofs.Common.{◌∙◌, sym, arith, get_or-set_same, get_or-set_other, drop-set-lt, ltb-true, le-leb}
use Rattle.std.proofs.Math.Decide.{dec_lt}
use Rattle.std.proofs.Math.ListN.{replicate, drop_of_length-le}
use Rattle.std.proofs.lemmas.List.{get_or-replicate, length-replicate}
use Rattle.std.proofs.lemmas.Bool.{lt-leb}
use Rattle.session.specs.Table.{Session, Wrote, read, pick, base, size, words}
use Rattle.session.specs.TableLaws.{inside}
use Rattle.session.specs.Fresh.{Leaves, empty_session}
use Rattle.session.specs.declared.Field.{Field}

pub zeros_empty : (ws : List ℕ) → ((k : ℕ) → k < words → get_or ws k 0 ≡ 0) → read ws ≡ empty_session
unfolding read empty_session
zeros_empty ws z = fun_ext (λ f. fun_ext (λ i. go f i (ltb i (size f)) refl))
  where
    go : (f : Field) (i : ℕ) (b : Bool) → ltb i (size f) ≡ b → ◌≡◌ {A = ℕ} (pick b (get_or ws (base f + i) 0) 0) 0
    go f i true e = let l : i < size f = ltb-true i (size f) e in z (base f + i) (omega (arith, inside f))
    go f i false e = refl

-- the same of memory that was filled
pub filled_empty : (ws ws' : List ℕ) → length ws ≡ words → ws' ≡ replicate (length ws) 0 → Wrote ws ws' empty_session
filled_empty ws ws' long e =
    let same : length ws' ≡ length ws = rw e (length-replicate (length ws) zero) in
    record {
      same_length = same;
      reading = zeros_empty ws' (λ k h. rw e (get_or-replicate (length ws) k 0 0 (omega arith)));
      past = drop_of_length-le ws' {i = words} (omega arith) ∙ sym (drop_of_length-le ws {i = words} (omega arith));
    }

-- one more word made zero
pub zeros_more : (ws : List ℕ) (i : ℕ) → i < length ws → ((k : ℕ) → k < i → get_or ws k 0 ≡ 0) → (k : ℕ) → k < i + 1
    → get_or (set ws i 0) k 0 ≡ 0
zeros_more ws i h z k l = go (dec_lt k i)
  where
    go : Dec (k < i) → get_or (set ws i 0) k 0 ≡ 0
    go (yes m) = get_or-set_other ws i k 0 0 (λ e. omega arith) ∙ z k m
    go (no n) = let e : k ≡ i = omega arith in rw e (get_or-set_same ws i 0 0 h)

-- the words past the layout stay
pub drop_past : (ws : List ℕ) (i : ℕ) → i < words → drop words (set ws i 0) ≡ drop words ws
drop_past ws i h = drop-set-lt words ws i 0 h

pub leaves_short : (ws : List ℕ) (s : Session) → length ws < words → Leaves ws ws s
leaves_short ws s h = rw (lt-leb words (length ws) h) refl

pub leaves-written : {a b : List ℕ} {s : Session} → words ≤ length a → Wrote a b s → Leaves a b s
leaves-written {a} h w = rw (le-leb words (length a) h) w
