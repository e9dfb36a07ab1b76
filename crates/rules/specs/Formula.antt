-- A rule, written once: `Holds` is what it says, `test` computes whether it does. FormulaLaws proves that the two agree.
use Rattle.std.specs.Prelude.{ℕ, zero, suc, ◌+◌, ◌≤◌, ◌<◌, ◌≡◌, Bool, true, false, ◌⊎◌, eqb, leb}
use Rattle.session.specs.Table.{pick}

infix 50 ◌≐◌
infix 50 ◌≼◌
infixr 40 ◌and◌
infixr 30 ◌or◌
infixr 20 ◌then◌
infix 20 ◌iff◌
pub data Formula : Type 0 where
  ◌≐◌ ◌≼◌ : ℕ → ℕ → Formula
  ◌and◌ ◌or◌ ◌then◌ : Formula → Formula → Formula
  never : Formula
  each some : ℕ → (ℕ → Formula) → Formula

abbrev pub Holds : Formula → Type 0
Holds (a ≐ b) = a ≡ b
Holds (a ≼ b) = a ≤ b
Holds (f and g) = Holds f × Holds g
Holds (f or g) = Holds f ⊎ Holds g
Holds (f then g) = Holds f → Holds g
Holds never = ⊥
Holds (each n f) = (i : ℕ) → i < n → Holds (f i)
Holds (some n f) = (i : ℕ) × (i < n) × Holds (f i)

abbrev pub all_of : ℕ → (ℕ → Bool) → Bool
all_of zero p = true
all_of (suc n) p = elim (p n) [ true ↦ all_of n p | false ↦ false ]

abbrev pub any_of : ℕ → (ℕ → Bool) → Bool
any_of zero p = false
any_of (suc n) p = elim (p n) [ true ↦ true | false ↦ any_of n p ]

unfoldable pub test : Formula → Bool
test (a ≐ b) = eqb a b
test (a ≼ b) = leb a b
test (f and g) = elim (test f) [ true ↦ test g | false ↦ false ]
test (f or g) = elim (test f) [ true ↦ true | false ↦ test g ]
test (f then g) = elim (test f) [ true ↦ test g | false ↦ true ]
test never = false
test (each n f) = all_of n (λ i. test (f i))
test (some n f) = any_of n (λ i. test (f i))

abbrev pub not : Formula → Formula
not f = f then never

abbrev pub ◌iff◌ : Formula → Formula → Formula
f iff g = (f then g) and (g then f)

-- the first where the formula holds, else the second
abbrev pub choose {ℓ} : {A : Type ℓ} → Formula → A → A → A
choose f a b = pick (test f) a b

-- how many places below n
unfoldable pub count : ℕ → (ℕ → Formula) → ℕ
count zero f = 0
count (suc n) f = choose (f n) (1 + count n f) (count n f)
