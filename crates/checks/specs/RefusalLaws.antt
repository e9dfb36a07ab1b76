-- A refusal, check by check: the first that fails gives its number; one that holds is passed over.
use Rattle.std.specs.Prelude.{ℕ, ◌≡◌, refl, List, [], ◌∷◌, eqb}
use Rattle.std.proofs.Common.{sym, ◌∙◌}
use Rattle.session.specs.Table.{pick}
use Rattle.rules.specs.Formula.{Formula, Holds}
use Rattle.rules.specs.FormulaLaws.{choose_yes, choose_no}
use Rattle.rules.specs.Checks.{Check, check, refusal}

-- the checks after the one of a number
abbrev pub after : ℕ → List Check → List Check
after n [] = []
after n (c ∷ cs) = pick (eqb c.number n) cs (after n cs)

-- the refusal is that of the checks after the one of a number
abbrev pub Left : List Check → ℕ → Type 0
Left cs n = refusal cs ≡ refusal (after n cs)

pub stop : (n : ℕ) (f : Formula) (cs : List Check) → (Holds f → ⊥) → n ≡ refusal (check n f ∷ cs)
unfolding refusal
stop n f cs h = sym (choose_no f (refusal cs) n h)

pub skip : (n : ℕ) (f : Formula) (cs : List Check) → Holds f → refusal (check n f ∷ cs) ≡ refusal cs
unfolding refusal
skip n f cs h = choose_yes f (refusal cs) n h

-- no check is left
pub done : refusal [] ≡ 0
unfolding refusal
done = refl

pub stops : {m : ℕ} (n : ℕ) (f : Formula) (cs : List Check) → m ≡ refusal (check n f ∷ cs) → (Holds f → ⊥) → n ≡ m
stops n f cs e h = stop n f cs h ∙ sym e
