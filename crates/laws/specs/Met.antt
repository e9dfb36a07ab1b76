-- An operation is accepted exactly if it meets each of its checks. What was met is read by the check's number.
use Rattle.std.specs.Prelude.{ℕ, ◌≤◌, ◌≡◌, refl, Bool, true, false, List, [], ◌∷◌, T, eqb, leb}
use Rattle.std.proofs.Common.{sym, ◌∙◌, arith, leb→le}
use Rattle.session.specs.Table.{both, pick}
use Rattle.session.specs.TableLaws.{both_l, both_r}
use Rattle.rules.specs.Formula.{Formula, Holds, Formula.◌≐◌}
use Rattle.rules.specs.FormulaLaws.{Case, decide, choose_yes, choose_no, choose_case, Case.it_does, Case.it_does_not}
use Rattle.rules.specs.Checks.{Check, refusal, last_refusal}

-- what each check of a list says, in the list's order
abbrev pub met : List Check → Type 0
met [] = Unit {0}
met (c ∷ cs) = Holds c.rule × met cs

-- what the check of a number says; a number that the list has not says nothing
abbrev pub asked : ℕ → List Check → Formula
asked n [] = 0 ≐ 0
asked n (c ∷ cs) = pick (eqb c.number n) c.rule (asked n cs)

-- the checks of a list by their numbers: of `c : Checked (grant_checks s t)`, `c 16` is what check 16 says
abbrev pub Checked : List Check → Type 0
Checked cs = (n : ℕ) → Holds (asked n cs)

pub by_number : (cs : List Check) → met cs → Checked cs
by_number [] m n = refl
by_number (c ∷ cs) m n = go (eqb c.number n) (by_number cs m.1 n)
  where
    go : (b : Bool) → Holds (asked n cs) → Holds (pick b c.rule (asked n cs))
    go true x = m.0
    go false x = x

-- every check has a number from 1 to the largest
abbrev pub numbered : List Check → Bool
numbered [] = true
numbered (c ∷ cs) = both (leb 1 c.number) (both (leb c.number last_refusal) (numbered cs))

module _ (c : Check) (cs : List Check) (t : T (numbered (c ∷ cs))) where
  number_low : 1 ≤ c.number
  number_low = leb→le 1 c.number (both_l (leb 1 c.number) (both (leb c.number last_refusal) (numbered cs)) t)

  others : T (both (leb c.number last_refusal) (numbered cs))
  others = both_r (leb 1 c.number) (both (leb c.number last_refusal) (numbered cs)) t

  number_high : c.number ≤ last_refusal
  number_high = leb→le c.number last_refusal (both_l (leb c.number last_refusal) (numbered cs) others)

  rest-numbered : T (numbered cs)
  rest-numbered = both_r (leb c.number last_refusal) (numbered cs) others

-- where no check fails, each is met (the second argument is `tt` for a list that is written out)
pub all_met_lem : (cs : List Check) → T (numbered cs) → refusal cs ≡ 0 → met cs
unfolding refusal
all_met_lem [] t e = tt
all_met_lem (c ∷ cs) t e = go (decide c.rule) (all_met_lem cs (rest-numbered c cs t))
  where
    go : Case c.rule → (refusal cs ≡ 0 → met cs) → met (c ∷ cs)
    go (it_does h) r = (h, r (sym (choose_yes c.rule (refusal cs) c.number h) ∙ e))
    go (it_does_not n) r = absurd (nonzero (sym (choose_no c.rule (refusal cs) c.number n) ∙ e))
      where
        nonzero : c.number ≡ 0 → ⊥
        nonzero z = let l = number_low c cs t in omega arith

-- a refusal is one of the numbers
pub refusal_few : (cs : List Check) → T (numbered cs) → refusal cs ≤ last_refusal
unfolding refusal
refusal_few [] t = omega arith
refusal_few (c ∷ cs) t =
    let more = refusal_few cs (rest-numbered c cs t) in
    choose_case (λ (n : ℕ). n ≤ last_refusal) c.rule (refusal cs) c.number (λ h. more) (λ n. number_high c cs t)

-- and where each is met, none fails
pub none_fails : (cs : List Check) → met cs → refusal cs ≡ 0
unfolding refusal
none_fails [] m = refl
none_fails (c ∷ cs) m = choose_yes c.rule (refusal cs) c.number m.0 ∙ none_fails cs m.1
