-- The refusal of a list of checks, one check at a time, what a number's reading meets, and what an answer says.
use Rattle.std.specs.Prelude.{ℕ, ◌≤◌, ◌<◌, ◌≡◌, refl, List, [], ◌∷◌, Ok, Err}
use Rattle.std.proofs.Math.Path.{ap}
use Rattle.std.proofs.Common.{sym, ◌∙◌, arith, lit<}
use Rattle.number.specs.declared.Unread.TheVariants.{Bad, CutShort}
use Rattle.number.specs.Number.{refusal_of, value_of, Reading}
use Rattle.rules.specs.declared.Operation.{Operation}
use Rattle.rules.specs.Checks.{Check, check, refusal}
use Rattle.rules.specs.Formula.{Formula, Holds, Formula.◌≐◌}
use Rattle.rules.specs.FormulaLaws.{Case, decide, choose_yes, choose_no, Case.it_does, Case.it_does_not}
use Rattle.record.specs.RecordReading.{Behind, Refused, behind, clears, number_checks, answered, refused_record, placed}

-- A reading that is not refused is a value, and the place behind it.
pub is-value : (at : ℕ) (r : Reading) → (refusal_of r ≡ 3 → ⊥) → (refusal_of r ≡ 4 → ⊥) → r ≡ Ok (value_of r, behind at r)
unfolding refusal_of value_of behind
is-value at (Ok (v, next)) p q = refl
is-value at (Err (Bad next)) p q = absurd (q refl)
is-value at (Err CutShort) p q = absurd (p refl)

module _ (n : ℕ) (f : Formula) (cs : List Check) where
  -- a check that is met is passed, and one that fails is the refusal
  pub refusal-met : Holds f → refusal (check n f ∷ cs) ≡ refusal cs
  unfolding refusal
  refusal-met h = choose_yes f (refusal cs) n h

  pub refusal_fails : (Holds f → ⊥) → refusal (check n f ∷ cs) ≡ n
  unfolding refusal
  refusal_fails h = choose_no f (refusal cs) n h

  -- where there is no refusal every check is met
  pub refusal_none : 0 < n → refusal (check n f ∷ cs) ≡ 0 → Holds f × (refusal cs ≡ 0)
  refusal_none p e = go (decide f)
    where
      go : Case f → Holds f × (refusal cs ≡ 0)
      go (it_does h) = (h, sym (refusal-met h) ∙ e)
      go (it_does_not h) = absurd (no (refusal_fails h))
        where
          no : refusal (check n f ∷ cs) ≡ n → ⊥
          no r = omega (arith, e, r)

-- a refusal is no more than the checks' numbers
abbrev pub UpTo : ℕ → List Check → Type 0
UpTo m [] = Unit {0}
UpTo m (c ∷ cs) = (c.number ≤ m) × UpTo m cs

pub refusal-most : (m : ℕ) (cs : List Check) → UpTo m cs → refusal cs ≤ m
unfolding refusal
refusal-most m [] u = omega arith
refusal-most m (c ∷ cs) u = go (decide c.rule) (refusal-most m cs u.1)
  where
    go : Case c.rule → refusal cs ≤ m → refusal (c ∷ cs) ≤ m
    go (it_does h) r = rw (choose_yes c.rule (refusal cs) c.number h) r
    go (it_does_not h) r = rw (choose_no c.rule (refusal cs) c.number h) u.0

pub refusal_empty : refusal [] ≡ 0
unfolding refusal
refusal_empty = refl

-- What a number's reading meets.
module _ (cs : List Check) where
  pub number_cut : (r : Reading) → r ≡ Err CutShort → refusal (number_checks r cs) ≡ 3
  unfolding refusal_of
  number_cut r e = refusal_fails 3 (clears 3 r) _ (λ c. c (ap refusal_of e))

  pub number_bad : (r : Reading) (next : ℕ) → r ≡ Err (Bad next) → refusal (number_checks r cs) ≡ 4
  unfolding refusal_of
  number_bad r next e =
      refusal-met 3 (clears 3 r) _ (λ c. (let f = ap refusal_of e in omega arith))
      ∙ refusal_fails 4 (clears 4 r) cs (λ c. c (ap refusal_of e))

  -- a number that is not read is refused
  pub number_unread : (r : Reading) (n : ℕ) → 0 < n → refusal_of r ≡ n → refusal (number_checks r cs) ≡ n
  unfolding refusal_of
  number_unread (Ok read) n p e = absurd (omega arith)
  number_unread (Err (Bad next)) n p e = number_bad (Err (Bad next)) next refl ∙ e
  number_unread (Err CutShort) n p e = number_cut (Err CutShort) refl ∙ e

  pub number-value : (r : Reading) (v next : ℕ) → r ≡ Ok (v, next) → refusal (number_checks r cs) ≡ refusal cs
  unfolding refusal_of
  number-value r v next e =
      let f = ap refusal_of e in
      refusal-met 3 (clears 3 r) _ (λ c. omega arith) ∙ refusal-met 4 (clears 4 r) cs (λ c. omega arith)

  pub number_none : (at : ℕ) (r : Reading)
      → refusal (number_checks r cs) ≡ 0
      → (r ≡ Ok (value_of r, behind at r)) × (refusal cs ≡ 0)
  number_none at r e =
      let c3 = refusal_none 3 (clears 3 r) _ (lit< tt) e in
      let c4 = refusal_none 4 (clears 4 r) cs (lit< tt) c3.1 in
      (is-value at r c3.0 c4.0, c4.1)

-- What an answer says, without a refusal and with one.
module _ (n : ℕ) (op : Operation) (next : ℕ) where
  pub answered_none : n ≡ 0 → answered n op next ≡ record { refused = 0; operation = op; next = next }
  unfolding answered
  answered_none e = choose_yes (n ≐ 0) _ _ e

  pub answered-refused : (m : ℕ) → 0 < m → n ≡ m → answered n op next ≡ refused_record m
  unfolding answered
  answered-refused m p e = choose_no (n ≐ 0) _ _ (λ z. omega arith) ∙ rw e

  pub answered-number : (answered n op next).refused ≡ n
  answered-number = go (decide (n ≐ 0))
    where
      go : Case (n ≐ 0) → (answered n op next).refused ≡ n
      go (it_does e) = rw (answered_none e) (sym e)
      go (it_does_not h) = rw (answered-refused n (omega (arith, h)) refl)

module _ (n next : ℕ) where
  pub placed_none : n ≡ 0 → placed n next ≡ Behind next
  unfolding placed
  placed_none e = choose_yes (n ≐ 0) _ _ e

  pub placed-refused : (m : ℕ) → 0 < m → n ≡ m → placed n next ≡ Refused m
  unfolding placed
  placed-refused m p e = choose_no (n ≐ 0) _ _ (λ z. omega arith) ∙ rw e
