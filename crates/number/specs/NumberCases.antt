-- What reading gives, case by case.
use Rattle.std.specs.Prelude.{ℕ, suc, ◌+◌, ◌≤◌, ◌<◌, Bool, List, ◌≡◌, ltb, leb, length, drop, Ok, Err}
use Rattle.std.proofs.Math.Bool.{true, false}
use Rattle.std.proofs.Math.Path.{refl}
use Rattle.std.proofs.Common.{ap, subst, lt-ltb, le-ltb, le-leb, ltb-true, ltb-false, leb-true, leb-false}
use Rattle.std.proofs.lemmas.Bool.{lt-leb}
use Rattle.number.specs.Number.{more, first, value, shortest, judged, read_first, read_at, Reading}
use Rattle.number.specs.declared.Unread.TheVariants.{Bad, CutShort}

-- Two numbers that were read are one only with one value and one next place.
pub same_read : (v n w m : ℕ) → ◌≡◌ {A = Reading} (Ok (v, n)) (Ok (w, m)) → (v ≡ w) × (n ≡ m)
same_read v n w m e =
    let p : ◌≡◌ {A = ℕ × ℕ} (v, n) (w, m) = cc in
    (ap (λ (q : ℕ × ℕ). q.0) p, ap (λ (q : ℕ × ℕ). q.1) p)

-- What a number's bytes give, case by case.
module _ (limit : ℕ) (number : List ℕ) (next : ℕ) where
  pub judged-value : shortest number ≡ true → value number ≤ limit → judged limit number next ≡ Ok (value number, next)
  unfolding judged
  judged-value s l = rw (s, judged) (rw (le-leb (value number) limit l))

  pub judged_long : shortest number ≡ false → judged limit number next ≡ Err (Bad next)
  unfolding judged
  judged_long s = rw (s, judged)

  pub judged-above : limit < value number → judged limit number next ≡ Err (Bad next)
  unfolding judged
  judged-above l = go (shortest number) refl
    where
      go : (b : Bool) → shortest number ≡ b → judged limit number next ≡ Err (Bad next)
      go true s = rw (s, judged) (rw (lt-leb (value number) limit l))
      go false s = judged_long s

-- What stands at a place, case by case: a number that ends, or one that is cut short.
module _ (limit : ℕ) (bytes : List ℕ) (at : ℕ) where
  pub read_ends : more (drop at bytes) < length (drop at bytes)
      → read_at limit bytes at ≡ judged limit (first (drop at bytes)) (at + suc (more (drop at bytes)))
  unfolding read_at read_first
  read_ends l = rw (lt-ltb (more (drop at bytes)) (length (drop at bytes)) l, read_at, read_first)

  pub read-cut : length (drop at bytes) ≤ more (drop at bytes) → read_at limit bytes at ≡ Err CutShort
  unfolding read_at read_first
  read-cut l = rw (le-ltb (more (drop at bytes)) (length (drop at bytes)) l, read_at, read_first)

-- What reading at a place gives, with what holds there.
pub data At (limit : ℕ) (bytes : List ℕ) (at : ℕ) : Reading → Type 0 where
  cut : length (drop at bytes) ≤ more (drop at bytes) → At limit bytes at (Err CutShort)
  bad : more (drop at bytes) < length (drop at bytes) → At limit bytes at (Err (Bad (at + suc (more (drop at bytes)))))
  good : more (drop at bytes) < length (drop at bytes)
      → shortest (first (drop at bytes)) ≡ true
      → value (first (drop at bytes)) ≤ limit
      → At limit bytes at (Ok (value (first (drop at bytes)), at + suc (more (drop at bytes))))

module _ (limit : ℕ) (bytes : List ℕ) (at : ℕ) where
  reading_ends : more (drop at bytes) < length (drop at bytes)
      → At limit bytes at (judged limit (first (drop at bytes)) (at + suc (more (drop at bytes))))
  reading_ends l = short (shortest number) refl
    where
      number : List ℕ
      number = first (drop at bytes)

      next : ℕ
      next = at + suc (more (drop at bytes))

      within : (b : Bool)
          → leb (value number) limit ≡ b
          → shortest number ≡ true
          → At limit bytes at (judged limit number next)
      within true e s = let h = leb-true (value number) limit e in rw (judged-value limit number next s h) (good l s h)
      within false e s = rw (judged-above limit number next (leb-false (value number) limit e)) (bad l)

      short : (b : Bool) → shortest number ≡ b → At limit bytes at (judged limit number next)
      short true s = within (leb (value number) limit) refl s
      short false s = rw (judged_long limit number next s) (bad l)

  pub reading : At limit bytes at (read_at limit bytes at)
  reading = go (ltb (more (drop at bytes)) (length (drop at bytes))) refl
    where
      go : (b : Bool) → ltb (more (drop at bytes)) (length (drop at bytes)) ≡ b → At limit bytes at (read_at limit bytes at)
      go true e =
          let l = ltb-true (more (drop at bytes)) (length (drop at bytes)) e in
          rw (read_ends limit bytes at l) (reading_ends l)
      go false e =
          let l = ltb-false (more (drop at bytes)) (length (drop at bytes)) e in
          rw (read-cut limit bytes at l) (cut l)

  -- what holds where reading gives this
  pub reading_as : (r : Reading) → read_at limit bytes at ≡ r → At limit bytes at r
  reading_as r e = subst (λ (x : Reading). At limit bytes at x) e reading
