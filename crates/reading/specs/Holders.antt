-- The tasks that may hold blocks by their slots, and how far handles were passed in looking for one.
use Rattle.std.specs.Prelude.{ℕ, ◌+◌, ◌-◌, ◌≤◌, ◌<◌, ◌≡◌, Bool, true, false, Option, Some, None}
use Rattle.std.proofs.Common.{subst, sym, arith, below_more}
use Rattle.std.proofs.Math.Decide.{dec_lt}
use Rattle.session.specs.Table.{Session}
use Rattle.session.specs.declared.Field.TheVariants.{TaskState}
use Rattle.session.specs.Names.{granted, running}
use Rattle.rules.specs.Formula.{Formula, Holds, test, Formula.◌≐◌, Formula.◌or◌}
use Rattle.rules.specs.FormulaLaws.{passed, failed}
use Rattle.reading.specs.Eights.{NoneBy, NextBy, OrEnd}

-- a task that may hold blocks by its slots
abbrev pub is_holder : Session → ℕ → Formula
is_holder s h = s TaskState h ≐ granted or s TaskState h ≐ running

-- from a on to r, without r, the formula holds nowhere
pub record Passed (f : ℕ → Formula) (a r : ℕ) : Type 0 where
  pub from : a ≤ r
  pub none : (i : ℕ) → i < r → a ≤ i → Holds (f i) → ⊥

-- the first from a on that the formula holds of, or n if it holds of none before n
pub record First (f : ℕ → Formula) (a n r : ℕ) : Type 0 where
  pub within : r ≤ n
  pub passed : Passed f a r
  pub there : r < n → Holds (f r)

-- nothing is passed at the start, and then one more that the formula does not hold of
pub pass_none : (f : ℕ → Formula) (a r : ℕ) → r ≡ a → Passed f a r
pass_none f a r e = record { from = omega arith; none = λ i l h. absurd (less i l h) }
  where
    less : (i : ℕ) → i < r → a ≤ i → ⊥
    less i l h = omega arith

pub pass_more : (f : ℕ → Formula) (a r q : ℕ) → q ≡ r + 1 → Passed f a r → (Holds (f r) → ⊥) → Passed f a q
pass_more f a r q e p n =
    rw e (record {
      from = let l = p.from in omega arith;
      none = below_more (λ (i : ℕ). a ≤ i → Holds (f i) → ⊥) r p.none (λ h. n);
    })

pub pass_on : (f : ℕ → Formula) (a r q : ℕ) → Passed f a r → Passed f r q → Passed f a q
pass_on f a r q p o = record { from = let l = p.from in let m = o.from in omega arith; none = λ i l h. go i l h (dec_lt i r) }
  where
    go : (i : ℕ) → i < q → a ≤ i → Dec (i < r) → Holds (f i) → ⊥
    go i l h (yes b) = p.none i b h
    go i l h (no b) = o.none i l (omega arith)

-- so many in a row that the formula holds of none of
pub pass_row : (f : ℕ → Formula) (a c : ℕ) → ((n : ℕ) → n < c → Holds (f (a + n)) → ⊥) → Passed f a (a + c)
pass_row f a c h =
    record {
      from = omega arith;
      none = λ i l g x. let e : i ≡ a + (i - a) = omega arith in h (i - a) (omega arith) (subst (λ (n : ℕ). Holds (f n)) e x);
    }

-- the next place by a test that answers what the formula says is the first
pub first_by : (R : ℕ → Bool → Type 0) (f : ℕ → Formula) (a n : ℕ) (r : Option ℕ) → a ≤ n → NextBy R a n r
    → ((i : ℕ) (c : Bool) → R i c → c ≡ test (f i)) → OrEnd (First f a n) n r
unfolding NextBy OrEnd
first_by R f a n r l h t = go r h
  where
    none : (q : ℕ) → a ≤ q → NoneBy R a q → Passed f a q
    none q m w = record { from = m; none = λ i b o. failed _ (sym (t i false (w i o b))) }

    go : (r : Option ℕ) → NextBy R a n r → OrEnd (First f a n) n r
    go None w = record { within = omega arith; passed = none n l w; there = λ b. absurd (omega arith) }
    go (Some q) w =
        (record { within = let b = w.1 in omega arith; passed = none q w.0 w.2; there = λ b. passed (f q) (sym (t q true w.3)) }, w.1)
