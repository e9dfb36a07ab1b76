-- What a formula says and what its test computes agree.
use Rattle.std.specs.Prelude.{ℕ, zero, suc, ◌≤◌, ◌<◌, ◌≡◌, refl, Bool, true, false, ◌⊎◌, T, eqb, leb}
use Rattle.std.proofs.Common.{sym, subst, ap, ◌∙◌, inl, inr, arith, eqb-true, leb-true, leb-false}
use Rattle.std.proofs.Math.Decide.{dec_lt}
use Rattle.std.proofs.lemmas.Bool.{eqb-false}
use Rattle.rules.specs.Formula.{Formula, Holds, test, all_of, any_of, choose, Formula.◌≐◌, Formula.◌≼◌, Formula.◌and◌}
use Rattle.rules.specs.Formula.{Formula.◌or◌, Formula.◌then◌, Formula.never, Formula.each, Formula.some}

-- a formula holds or does not, and its test says which
pub data Told (b : Bool) (P : Type 0) : Type 0 where
  it_holds : b ≡ true → P → Told b P
  it_fails : b ≡ false → (P → ⊥) → Told b P

-- i below n + 1: at n, or below n
data Below (n i : ℕ) : Type 0 where
  last : i ≡ n → Below n i
  lower : i < n → Below n i

below : (n i : ℕ) → i < suc n → Below n i
below n i h = go (dec_lt i n)
  where
    go : Dec (i < n) → Below n i
    go (yes l) = lower l
    go (no f) = last (omega arith)

told-each : (n : ℕ) (p : ℕ → Bool) (P : ℕ → Type 0) → ((i : ℕ) → Told (p i) (P i)) → Told (all_of n p) ((i : ℕ) → i < n → P i)
told-each zero p P t = it_holds refl (λ i h. absurd (empty i h))
  where
    empty : (i : ℕ) → i < 0 → ⊥
    empty i h = omega arith
told-each (suc n) p P t = go (t n) (told-each n p P t)
  where
    at : P n → ((i : ℕ) → i < n → P i) → (i : ℕ) → Below n i → P i
    at x f i (last e) = subst P (sym e) x
    at x f i (lower h) = f i h

    go : Told (p n) (P n) → Told (all_of n p) ((i : ℕ) → i < n → P i) → Told (all_of (suc n) p) ((i : ℕ) → i < suc n → P i)
    go (it_fails e f) r = it_fails (rw (e, all_of)) (λ h. f (h n (omega arith)))
    go (it_holds e x) (it_fails e' f) = it_fails (rw (e, all_of) e') (λ h. f (λ i l. h i (omega arith)))
    go (it_holds e x) (it_holds e' y) = it_holds (rw (e, all_of) e') (λ i l. at x y i (below n i l))

told_some : (n : ℕ) (p : ℕ → Bool) (P : ℕ → Type 0) → ((i : ℕ) → Told (p i) (P i)) → Told (any_of n p) ((i : ℕ) × (i < n) × P i)
told_some zero p P t = it_fails refl (λ h. let l = h.1 in omega arith)
told_some (suc n) p P t = go (t n) (told_some n p P t)
  where
    out : (P n → ⊥) → (((i : ℕ) × (i < n) × P i) → ⊥) → (i : ℕ) → Below n i → P i → ⊥
    out f g i (last e) x = f (subst P e x)
    out f g i (lower h) x = g (i, h, x)

    go : Told (p n) (P n) → Told (any_of n p) ((i : ℕ) × (i < n) × P i) → Told (any_of (suc n) p) ((i : ℕ) × (i < suc n) × P i)
    go (it_holds e x) r = it_holds (rw (e, any_of)) (n, omega arith, x)
    go (it_fails e f) (it_holds e' y) = it_holds (rw (e, any_of) e') (y.0, (let l = y.1 in omega arith), y.2)
    go (it_fails e f) (it_fails e' g) = it_fails (rw (e, any_of) e') (λ h. out f g h.0 (below n h.0 h.1) h.2)

pub told : (f : Formula) → Told (test f) (Holds f)
unfolding test
told (a ≐ b) = go (eqb a b) refl
  where
    go : (c : Bool) → eqb a b ≡ c → Told (eqb a b) (a ≡ b)
    go true e = it_holds e (eqb-true a b e)
    go false e = it_fails e (eqb-false a b e)
told (a ≼ b) = go (leb a b) refl
  where
    go : (c : Bool) → leb a b ≡ c → Told (leb a b) (a ≤ b)
    go true e = it_holds e (leb-true a b e)
    go false e = it_fails e (λ h. let l : b < a = leb-false a b e in omega arith)
told (f and g) = go (told f) (told g)
  where
    go : Told (test f) (Holds f) → Told (test g) (Holds g) → Told (test (f and g)) (Holds (f and g))
    go (it_holds e x) (it_holds e' y) = it_holds (rw e e') (x, y)
    go (it_holds e x) (it_fails e' n) = it_fails (rw e e') (λ h. n h.1)
    go (it_fails e n) r = it_fails (rw e) (λ h. n h.0)
told (f or g) = go (told f) (told g)
  where
    neither : (Holds f → ⊥) → (Holds g → ⊥) → Holds f ⊎ Holds g → ⊥
    neither m n (inl x) = m x
    neither m n (inr y) = n y

    go : Told (test f) (Holds f) → Told (test g) (Holds g) → Told (test (f or g)) (Holds (f or g))
    go (it_holds e x) r = it_holds (rw e) (inl x)
    go (it_fails e m) (it_holds e' y) = it_holds (rw e e') (inr y)
    go (it_fails e m) (it_fails e' n) = it_fails (rw e e') (neither m n)
told (f then g) = go (told f) (told g)
  where
    go : Told (test f) (Holds f) → Told (test g) (Holds g) → Told (test (f then g)) (Holds (f then g))
    go (it_holds e x) (it_holds e' y) = it_holds (rw e e') (λ _. y)
    go (it_holds e x) (it_fails e' n) = it_fails (rw e e') (λ h. n (h x))
    go (it_fails e m) r = it_holds (rw e) (λ x. absurd (m x))
told never = it_fails refl (λ x. x)
told (each n f) = told-each n (λ i. test (f i)) (λ i. Holds (f i)) (λ i. told (f i))
told (some n f) = told_some n (λ i. test (f i)) (λ i. Holds (f i)) (λ i. told (f i))

-- what a test that passed or failed says
pub passed : (f : Formula) → test f ≡ true → Holds f
passed f e = go (told f)
  where
    go : Told (test f) (Holds f) → Holds f
    go (it_holds e' x) = x
    go (it_fails e' n) = absurd (subst (λ (b : Bool). T b) (sym e ∙ e') tt)

pub failed : (f : Formula) → test f ≡ false → Holds f → ⊥
failed f e h = go (told f)
  where
    go : Told (test f) (Holds f) → ⊥
    go (it_holds e' x) = subst (λ (b : Bool). T b) (sym e' ∙ e) tt
    go (it_fails e' n) = n h

pub passes : (f : Formula) → Holds f → test f ≡ true
passes f h = go (told f)
  where
    go : Told (test f) (Holds f) → test f ≡ true
    go (it_holds e' x) = e'
    go (it_fails e' n) = absurd (n h)

pub fails : (f : Formula) → (Holds f → ⊥) → test f ≡ false
fails f n = go (told f)
  where
    go : Told (test f) (Holds f) → test f ≡ false
    go (it_holds e' x) = absurd (n x)
    go (it_fails e' _) = e'

-- once the first part is known, the test is that of the second
pub test_and : (f g : Formula) → Holds f → test (f and g) ≡ test g
unfolding test
test_and f g h = rest (passes f h)
  where
    rest : test f ≡ true → elim (test f) as (λ _. Bool) [ true ↦ test g | false ↦ false ] ≡ test g
    rest e = ap (λ (b : Bool). elim b as (λ _. Bool) [ true ↦ test g | false ↦ false ]) e

pub test_or : (f g : Formula) → (Holds f → ⊥) → test (f or g) ≡ test g
unfolding test
test_or f g n = rest (fails f n)
  where
    rest : test f ≡ false → elim (test f) as (λ _. Bool) [ true ↦ true | false ↦ test g ] ≡ test g
    rest e = ap (λ (b : Bool). elim b as (λ _. Bool) [ true ↦ true | false ↦ test g ]) e

pub test_then : (f g : Formula) → Holds f → test (f then g) ≡ test g
unfolding test
test_then f g h = rest (passes f h)
  where
    rest : test f ≡ true → elim (test f) as (λ _. Bool) [ true ↦ test g | false ↦ true ] ≡ test g
    rest e = ap (λ (b : Bool). elim b as (λ _. Bool) [ true ↦ test g | false ↦ true ]) e

-- a choice, once the formula is known to hold or to fail
pub choose_yes {ℓ} : {A : Type ℓ} (f : Formula) (a b : A) → Holds f → choose f a b ≡ a
choose_yes f a b h = rw (passes f h)

pub choose_no {ℓ} : {A : Type ℓ} (f : Formula) (a b : A) → (Holds f → ⊥) → choose f a b ≡ b
choose_no f a b n = rw (fails f n)

-- either a formula holds or it fails
pub data Case (f : Formula) : Type 0 where
  it_does : Holds f → Case f
  it_does_not : (Holds f → ⊥) → Case f

pub decide : (f : Formula) → Case f
decide f = go (told f)
  where
    go : Told (test f) (Holds f) → Case f
    go (it_holds e x) = it_does x
    go (it_fails e n) = it_does_not n

-- two formulas that say the same have the same test
pub test-same : (f g : Formula) → (Holds f → Holds g) → (Holds g → Holds f) → test f ≡ test g
test-same f g to from = go (decide f)
  where
    go : Case f → test f ≡ test g
    go (it_does x) = passes f x ∙ sym (passes g (to x))
    go (it_does_not n) = fails f n ∙ sym (fails g (λ y. n (from y)))

-- and a choice by the one is a choice by the other
pub choose-same : {A : Type 0} (f g : Formula) (a b : A) → (Holds f → Holds g) → (Holds g → Holds f) → choose f a b ≡ choose g a b
choose-same f g a b to from = rw (test-same f g to from)

-- what holds of both holds of the one that is chosen
pub choose_case {ℓ} : {A : Type ℓ} (P : A → Type 0) (f : Formula) (a b : A) → (Holds f → P a) → ((Holds f → ⊥) → P b) → P (choose f a b)
choose_case P f a b y n = go (decide f)
  where
    go : Case f → P (choose f a b)
    go (it_does h) = subst P (sym (choose_yes f a b h)) (y h)
    go (it_does_not h) = subst P (sym (choose_no f a b h)) (n h)
