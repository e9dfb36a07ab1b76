-- Looking for a number in a field: the places passed do not have it.
use Rattle.std.specs.Prelude.{ℕ, ◌+◌, ◌-◌, ◌≤◌, ◌<◌, ◌≡◌, Option}
use Rattle.std.proofs.Common.{arith}
use Rattle.std.proofs.Math.Decide.{dec_lt}
use Rattle.session.specs.Table.{Session}
use Rattle.session.specs.declared.Field.{Field}
use Rattle.rules.specs.Formula.{Formula, Holds, Formula.◌≐◌, Formula.some}
use Rattle.reading.specs.Eights.{OrEnd, or_end_so}
use Rattle.reading.specs.Holders.{First}

-- one of the eight places from i on has v in field f
abbrev pub near : Session → Field → ℕ → ℕ → Formula
near s f v i = some 8 (λ k. s f (i + k) ≐ v)

-- no place from b up to r has v in field f
pub record Passed (s : Session) (f : Field) (v b r : ℕ) : Type 0 where
  pub onward : b ≤ r
  pub others : (i : ℕ) → b ≤ i → i < r → s f i ≡ v → ⊥

-- the first place from b on and before e that has it, or e
pub record Found (s : Session) (f : Field) (v b e r : ℕ) : Type 0 where
  pub passed : Passed s f v b r
  pub within : r ≤ e
  pub here : r < e → s f r ≡ v

module _ (s : Session) (f : Field) (v b : ℕ) where
  -- none passed yet
  pub passed_none : Passed s f v b b
  passed_none = record { onward = omega arith; others = λ i a l. absurd (none i a l) }
    where
      none : (i : ℕ) → b ≤ i → i < b → ⊥
      none i a l = omega arith

  -- eight more passed, and one more
  pub passed_eight : (r : ℕ) → Passed s f v b r → (Holds (near s f v r) → ⊥) → Passed s f v b (r + 8)
  passed_eight r p n = record { onward = let o = p.onward in omega arith; others = λ i a l q. go i a l q (dec_lt i r) }
    where
      back : (i : ℕ) → r ≤ i → r + (i - r) ≡ i
      back i a = omega arith

      go : (i : ℕ) → b ≤ i → i < r + 8 → s f i ≡ v → Dec (i < r) → ⊥
      go i a l q (yes x) = p.others i a x q
      go i a l q (no x) = n (i - r, omega arith, rw (back i (omega arith)) q)

  pub passed_one : (r : ℕ) → Passed s f v b r → (s f r ≡ v → ⊥) → Passed s f v b (r + 1)
  passed_one r p n = record { onward = let o = p.onward in omega arith; others = λ i a l q. go i a l q (dec_lt i r) }
    where
      go : (i : ℕ) → b ≤ i → i < r + 1 → s f i ≡ v → Dec (i < r) → ⊥
      go i a l q (yes x) = p.others i a x q
      go i a l q (no x) = let e : i ≡ r = omega arith in n (rw e at q)

  -- the first place that the field has v at
  pub found_by : (e : ℕ) (r : Option ℕ) → OrEnd (First (λ i. s f i ≐ v) b e) e r → OrEnd (Found s f v b e) e r
  found_by e r h = or_end_so (First (λ i. s f i ≐ v) b e) (Found s f v b e) e r (λ q _ x. all q x) h
    where
      all : (q : ℕ) → First (λ i. s f i ≐ v) b e q → Found s f v b e q
      all q x = record {
        passed = record { onward = x.passed.from; others = λ i a l. x.passed.none i l a };
        within = x.within;
        here = x.there;
      }
