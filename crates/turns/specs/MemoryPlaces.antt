-- Places in a memory, where one past the end is the end.
use Rattle.std.specs.Prelude.{ℕ, ◌-◌, ◌≤◌, List, ◌≡◌, length, take, drop}
use Rattle.std.proofs.Common.{ap, sym, ◌∙◌, arith, length-drop, drop_of_length-le, take_all}
use Rattle.std.proofs.Math.Seq.{drop-length}
use Rattle.rules.specs.Formula.{Formula, Holds, choose, Formula.◌≼◌}
use Rattle.rules.specs.FormulaLaws.{Case, decide, choose_yes, choose_no, Case.it_does, Case.it_does_not}

abbrev pub least : ℕ → ℕ → ℕ
least a b = choose (a ≼ b) a b

-- as many as are asked for, or all that are there
pub take-least : (n : ℕ) (l : List ℕ) → take (least n (length l)) l ≡ take n l
take-least n l = go (decide (n ≼ length l))
  where
    go : Case (n ≼ length l) → take (least n (length l)) l ≡ take n l
    go (it_does h) = ap (λ (k : ℕ). take k l) (choose_yes (n ≼ length l) n (length l) h)
    go (it_does_not h) =
        ap (λ (k : ℕ). take k l) (choose_no (n ≼ length l) n (length l) h) ∙ take_all (length l) l (omega arith)
        ∙ sym (take_all n l (omega arith))

-- what lies behind a place past the end is nothing
pub drop-least : (n : ℕ) (l : List ℕ) → drop (least n (length l)) l ≡ drop n l
drop-least n l = go (decide (n ≼ length l))
  where
    go : Case (n ≼ length l) → drop (least n (length l)) l ≡ drop n l
    go (it_does h) = ap (λ (k : ℕ). drop k l) (choose_yes (n ≼ length l) n (length l) h)
    go (it_does_not h) =
        ap (λ (k : ℕ). drop k l) (choose_no (n ≼ length l) n (length l) h) ∙ drop-length l
        ∙ sym (drop_of_length-le l {i = n} (omega arith))

-- how much a memory holds from a place on tells which place that is
place-told : (n : ℕ) (l : List ℕ) → length l - length (drop n l) ≡ least n (length l)
place-told n l = go (decide (n ≼ length l))
  where
    go : Case (n ≼ length l) → length l - length (drop n l) ≡ least n (length l)
    go (it_does h) = omega (arith, length-drop n l) ∙ sym (choose_yes (n ≼ length l) n (length l) h)
    go (it_does_not h) = omega (arith, length-drop n l) ∙ sym (choose_no (n ≼ length l) n (length l) h)

pub chosen_place : (f : Formula) (held place : ℕ) (l rest : List ℕ) → place ≤ length l → (Holds f → rest ≡ drop place l)
    → ((Holds f → ⊥) → rest ≡ drop held l)
    → (length rest ≤ length l) × (length l - length rest ≡ choose f place (least held (length l)))
chosen_place f held place l rest h a b = go (decide f)
  where
    go : Case f → (length rest ≤ length l) × (length l - length rest ≡ choose f place (least held (length l)))
    go (it_does y) = (
      omega (arith, ap length (a y), length-drop place l),
      rw (a y) (place-told place l ∙ choose_yes (place ≼ length l) place (length l) h)
          ∙ sym (choose_yes f place (least held (length l)) y),
    )
    go (it_does_not n) = (
      omega (arith, ap length (b n), length-drop held l),
      rw (b n) (place-told held l) ∙ sym (choose_no f place (least held (length l)) n),
    )
