-- Clearing field by field, and that a tidy session cleared where it is used is the empty one.
use Rattle.std.specs.Prelude.{ℕ, zero, suc, ◌+◌, ◌≤◌, ◌<◌, ◌≡◌, refl, Bool, true, false, List, [], ◌∷◌, T, ltb, eqb, length, get_or, set, take}
use Rattle.std.proofs.Math.Path.{fun_ext}
use native.Mathlib.Numerals.{unary_clauses}
use Rattle.std.proofs.Math.Seq.{paste}
use Rattle.std.proofs.Math.ListN.{replicate}
use Rattle.std.proofs.lemmas.List.{append-nil, take-append-drop, get_or-replicate, length-replicate}
use Rattle.std.proofs.lemmas.List.Edits.{paste_more}
use Rattle.std.proofs.Common.{sym, ap, arith, eqb→eq, ltb-true, ltb-false, lt-ltb, le-ltb}
use Rattle.std.proofs.lemmas.Bool.{eqb-false}
use Rattle.session.specs.Names.{most_objects, most_links, object_places, link_places}
use Rattle.session.specs.Table.{Session, Wrote, Class, Class.always, Class.per_handle, Class.per_slot, Class.per_link, read}
use Rattle.session.specs.Table.{sweep, pick, both, class, places_of, code, same, fields, words_of, base, size, words}
use Rattle.session.specs.TableLaws.{bounded, inside, both_l, both_r, same_eq, sweep_zero, sweep-more, wrote_none, wrote_then}
use Rattle.session.specs.TableLaws.{wrote_word, wrote_more}
use Rattle.session.specs.Fresh.{empty_session}
use Rattle.session.specs.Renew.{Tidy, Zeroed, used, places_in, cleared}
use Rattle.session.specs.declared.Field.{Field}
use Rattle.session.specs.declared.Field.TheVariants.{Objects, Links, Kind, LinkSource}

-- one place more of a field
pub wrote_swept : (a b : List ℕ) (f : Field) (i : ℕ) → i < size f → words ≤ length b → Wrote a b (sweep (read a) f i (λ _. 0))
    → Wrote a (set b (base f + i) 0) (sweep (read a) f (i + 1) (λ _. 0))
wrote_swept a b f i h l w = rw (sweep-more (read a) f i (λ _. 0)) at (wrote_more f i 0 w (wrote_word b f i 0 h l))

-- n words from a word on made zero, as a part of the memory that is filled
module _ (ws : List ℕ) (start n : ℕ) (long : words ≤ length ws) (fits : start + n ≤ words) where
  filled_none : paste ws start (replicate n 0) 0 ≡ ws
  filled_none = rw (append-nil (take start ws)) (simp unary_clauses (take-append-drop start ws))

  filled-more : (k : ℕ) → k < n
      → set (paste ws start (replicate n 0) k) (start + k) 0 ≡ paste ws start (replicate n 0) (k + 1)
  filled-more k h =
      rw (get_or-replicate {A = ℕ} n k 0 0 h) at
      (paste_more ws start (replicate n 0) k 0 (omega arith) (omega (arith, length-replicate {A = ℕ} n 0)))

  pub zeroed : Zeroed ws (paste ws start (replicate n 0) n) start n
  zeroed f begins few = go n (omega arith)
    where
      go : (k : ℕ) → k ≤ n → Wrote ws (paste ws start (replicate n 0) k) (sweep (read ws) f k (λ _. 0))
      go zero h = rw (filled_none, sweep_zero (read ws) f (λ _. 0)) (wrote_none ws)
      go (suc k) h =
          let w = go k (omega arith) in
          let e : k + 1 ≡ suc k = omega arith in
          rw (← begins, filled-more k (omega arith), e) at (wrote_swept ws _ f k (omega arith) (omega (arith, w.same_length)) w)

-- more handles and links, more places
pub more_places : {h l m n : ℕ} → h ≤ m → l ≤ n → (c : Class) → places_of h l c ≤ places_of m n c
more_places a b (always k) = omega arith
more_places a b per_handle = a
more_places a b per_slot = omega arith
more_places a b per_link = b

-- the fields stand in the order of their numbers
abbrev is_in_order : ℕ → List Field → Bool
is_in_order n [] = true
is_in_order n (f ∷ fs) = both (eqb (code f) n) (is_in_order (n + 1) fs)

in_order : (n : ℕ) (fs : List Field) → T (is_in_order n fs) → (k : ℕ) → k < length fs → code (get_or fs k Objects) ≡ n + k
in_order n [] t k m = absurd (omega arith)
in_order n (f ∷ fs) t zero m =
    let e : code f ≡ n = eqb→eq (code f) n (both_l (eqb (code f) n) (is_in_order (n + 1) fs) t) in
    omega arith
in_order n (f ∷ fs) t (suc k) m =
    let e = in_order (n + 1) fs (both_r (eqb (code f) n) (is_in_order (n + 1) fs) t) k (omega arith) in
    omega arith

-- the field of a number
abbrev field_at : ℕ → Field
field_at k = get_or fields k Objects

code_at : (k : ℕ) → k < length fields → code (field_at k) ≡ k
code_at k m = let e = in_order 0 fields tt k m in omega arith

-- the places of the field of a number are in the table at that number
places_at : (h l : ℕ) (fs : List Field) (k : ℕ) → k < length fs
    → get_or (places_in h l fs) k 0 ≡ places_of h l (class (get_or fs k Objects))
places_at h l [] k m = absurd (omega arith)
places_at h l (f ∷ fs) zero m = refl
places_at h l (f ∷ fs) (suc k) m = places_at h l fs k (omega arith)

-- the next field begins where this one ends
words_more : (fs : List Field) (k : ℕ) → k < length fs
    → words_of (take (suc k) fs) ≡ words_of (take k fs) + size (get_or fs k Objects)
words_more [] k m = absurd (omega arith)
words_more (f ∷ fs) zero m = omega arith
words_more (f ∷ fs) (suc k) m = let e = words_more fs k (omega arith) in omega arith

pub next_begins : (k start : ℕ) → k < length fields → start ≡ words_of (take k fields)
    → start + get_or (places_in object_places link_places fields) k 0 ≡ words_of (take (k + 1) fields)
next_begins k start low reached =
    let e : k + 1 ≡ suc k = omega arith in
    rw (places_at object_places link_places fields k low, e, words_more fields k low, reached) refl

-- no field is cleared yet
cleared_none : (s : Session) (h l : ℕ) → cleared s h l 0 ≡ s
unfolding cleared
cleared_none s h l = fun_ext (λ f. fun_ext (λ i. rw (le-ltb (code f) 0 (omega arith)) refl))

-- one field more
cleared_more : (s : Session) (h l : ℕ) (f : Field)
    → sweep (cleared s h l (code f)) f (places_of h l (class f)) (λ _. 0) ≡ cleared s h l (code f + 1)
unfolding cleared sweep
cleared_more s h l f = fun_ext (λ g. fun_ext (λ i. go g i (same f g) refl))
  where
    go : (g : Field) (i : ℕ) (b : Bool) → same f g ≡ b
        → ◌≡◌ {A = ℕ} (pick b (pick (ltb i (places_of h l (class f))) 0 (cleared s h l (code f) g i)) (cleared s h l (code f) g i))
        (cleared s h l (code f + 1) g i)
    go g i true e =
        let q : f ≡ g = same_eq f g (rw e tt) in
        rw (q, le-ltb (code g) (code g) (omega arith), lt-ltb (code g) (code g + 1) (omega arith)) refl
    go g i false e =
        ap (λ (d : Bool). pick d (pick (ltb i (places_of h l (class g))) 0 (s g i)) (s g i)) (step (ltb (code g) (code f)) refl)
      where
        step : (d : Bool) → ltb (code g) (code f) ≡ d → d ≡ ltb (code g) (code f + 1)
        step true q = let h : code g < code f = ltb-true (code g) (code f) q in sym (lt-ltb (code g) (code f + 1) (omega arith))
        step false q =
            let h : code f ≤ code g = ltb-false (code g) (code f) q in
            let d : code f ≡ code g → ⊥ = eqb-false (code f) (code g) e in
            sym (le-ltb (code g) (code f + 1) (omega arith))

-- no word written yet
pub wrote_uncleared : (ws : List ℕ) (h l : ℕ) → Wrote ws ws (cleared (read ws) h l 0)
wrote_uncleared ws h l = rw (cleared_none (read ws) h l) (wrote_none ws)

-- The fields are cleared one by one: k of them are, and the next begins at a word.
module _ (h l k start : ℕ) (fits : h ≤ object_places) (fits' : l ≤ link_places) (low : k < length fields)
    (reached : start ≡ words_of (take k fields)) where
  begins : start ≡ base (field_at k)
  begins = rw (code_at k low) reached

  few : get_or (places_in h l fields) k 0 ≤ size (field_at k)
  few = rw (places_at h l fields k low) (more_places fits fits' (class (field_at k)))

  pub clears_inside : start + get_or (places_in h l fields) k 0 ≤ words
  clears_inside = omega (arith, few, begins, inside (field_at k))

  pub wrote_cleared : {a b c : List ℕ} → Wrote a b (cleared (read a) h l k) → Zeroed b c start (get_or (places_in h l fields) k 0)
      → Wrote a c (cleared (read a) h l (k + 1))
  wrote_cleared {a} p z =
      let q = rw (places_at h l fields k low) at (z (field_at k) begins few) in
      wrote_then p (rw (p.reading, cleared_at a) at q)
    where
      cleared_at : (a : List ℕ)
          → sweep (cleared (read a) h l k) (field_at k) (places_of h l (class (field_at k))) (λ _. 0) ≡ cleared (read a) h l (k + 1)
      cleared_at a = rw (code_at k low) at (cleared_more (read a) h l (field_at k))

-- the counts of a tidy session fit the layout
pub tidy_objects : (s : Session) → Tidy s → s Objects 0 ≤ most_objects
unfolding Tidy
tidy_objects s t = let h = (t Kind).0 in omega arith

pub tidy_links : (s : Session) → Tidy s → s Links 0 ≤ most_links
unfolding Tidy
tidy_links s t = let h = (t LinkSource).0 in omega arith

-- a place is made zero, or was zero
zero_past : (i n x : ℕ) → (n ≤ i → x ≡ 0) → ◌≡◌ {A = ℕ} (pick (ltb i n) 0 x) 0
zero_past i n x h = go (ltb i n) refl
  where
    go : (b : Bool) → ltb i n ≡ b → ◌≡◌ {A = ℕ} (pick b 0 x) 0
    go true e = refl
    go false e = h (ltb-false i n e)

-- a tidy session cleared where it is used is empty
pub used-cleared : (s : Session) → Tidy s → cleared s (s Objects 0 + 1) (s Links 0 + 1) (length fields) ≡ empty_session
unfolding Tidy cleared empty_session
used-cleared s t =
    fun_ext (λ f. fun_ext (λ i. rw (lt-ltb (code f) (length fields) (bounded f)) (zero_past i (used s f) (s f i) ((t f).1 i))))
