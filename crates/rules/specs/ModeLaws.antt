-- The mode rule is the pairs of document 01; what it gives for numbers that are no modes; and the laws that its users need.
use Rattle.std.specs.Prelude.{ℕ, suc, ◌-◌, ◌≡◌, refl, true, ◌⊎◌}
use Rattle.std.proofs.Common.{inl, inr, arith}
use Rattle.session.specs.Names.{mode_ro, mode_rw, mode_ew, mode_const}
use Rattle.rules.specs.Formula.{Formula, Holds, test, not, ◌iff◌, Formula.◌≐◌, Formula.◌and◌, Formula.◌or◌, Formula.each}
use Rattle.rules.specs.FormulaLaws.{passed}
use Rattle.rules.specs.Modes.{is_mode, conflict, stopped_by}

-- the modes are m and n, in either order
abbrev pub pair : ℕ → ℕ → ℕ → ℕ → Formula
pair m n a b = a ≐ m and b ≐ n or a ≐ n and b ≐ m

-- document 01: "Holds by different tasks conflict in these pairs: RW with EW, EW with EW, CONST with RW, CONST with EW."
abbrev pub listed : ℕ → ℕ → Formula
listed a b = pair mode_rw mode_ew a b or pair mode_ew mode_ew a b or pair mode_const mode_rw a b or pair mode_const mode_ew a b

-- on all sixteen combinations two rules say the same
abbrev sixteen : (ℕ → ℕ → Formula) → (ℕ → ℕ → Formula) → Formula
sixteen f g = each 4 (λ i. each 4 (λ j. f (suc i) (suc j) iff g (suc i) (suc j)))

agree : (f g : ℕ → ℕ → Formula) → test (sixteen f g) ≡ true → (a b : ℕ) → Holds (is_mode a) → Holds (is_mode b) → Holds (f a b iff g a b)
agree f g e a b x y =
    let i : suc (a - 1) ≡ a = let l = x.0 in omega arith in
    let j : suc (b - 1) ≡ b = let l = y.0 in omega arith in
    rw (i, j) at (passed (sixteen f g) e (a - 1) (let h = x.1 in omega arith) (b - 1) (let h = y.1 in omega arith))

pub conflict-listed : (a b : ℕ) → Holds (is_mode a) → Holds (is_mode b) → Holds (conflict a b iff listed a b)
unfolding test
conflict-listed = agree conflict listed refl

pub stopped-listed : (a b : ℕ) → Holds (is_mode a) → Holds (is_mode b) → Holds (stopped_by a b iff listed a b)
unfolding test
stopped-listed = agree stopped_by listed refl

-- A number that is no mode conflicts with every number but RO and itself. No session asks: SlotModes of `laws`.
pub conflict_no_mode : (a b : ℕ) → (Holds (is_mode a) → ⊥) → Holds (conflict a b iff (not (b ≐ mode_ro) and not (a ≐ b)))
conflict_no_mode a b n = ((λ x. (x.1.0, differ x.1.1)), λ y. ((λ e. n (omega arith, omega arith)), (y.0, inl y.1)))
  where
    differ : (a ≡ b → ⊥) ⊎ (a ≡ mode_ew) × (b ≡ mode_ew) → a ≡ b → ⊥
    differ (inl d) e = d e
    differ (inr x) e = let l = x.0 in n (omega arith, omega arith)

-- the laws that callers use
pub conflict_swap : (a b : ℕ) → Holds (conflict a b) → Holds (conflict b a)
conflict_swap a b x = (x.1.0, (x.0, go x.1.1))
  where
    go : (a ≡ b → ⊥) ⊎ (a ≡ mode_ew) × (b ≡ mode_ew) → (b ≡ a → ⊥) ⊎ (b ≡ mode_ew) × (a ≡ mode_ew)
    go (inl d) = inl (λ e. d (omega arith))
    go (inr y) = inr (y.1, y.0)

-- what no hold stops may stand beside all of them
pub conflict_stops : (a b : ℕ) → Holds (conflict a b) → Holds (stopped_by a b)
conflict_stops a b x = x

pub conflict_not_ro : (a b : ℕ) → Holds (conflict a b) → b ≡ mode_ro → ⊥
conflict_not_ro a b x = x.1.0

pub stopped_not_ro : (a b : ℕ) → Holds (stopped_by a b) → a ≡ mode_ro → ⊥
stopped_not_ro a b x = x.0
