-- The operations' names as one text: where each ends in it, and that it lies there.
use Rattle.std.specs.Prelude.{ℕ, suc, ◌+◌, ◌-◌, ◌≡◌, refl, List, [], ◌∷◌, ◌++◌, get_or, length, take, drop}
use Rattle.std.proofs.Common.{arith, ext_get_or}
use Rattle.rules.specs.Formula.{Holds, test, Formula.◌≐◌, Formula.◌≼◌, Formula.◌and◌, Formula.each}
use Rattle.rules.specs.FormulaLaws.{passed}
use Rattle.rules.specs.Step.{rules, last_code}
use Rattle.rules.specs.Arity.{is_code, column, name_of}

-- The names one behind the other, and where each ends in them, by the codes from 0 on.
abbrev joined : List (List ℕ) → List ℕ
joined [] = []
joined (n ∷ ns) = n ++ joined ns

abbrev ends_from : ℕ → List (List ℕ) → List ℕ
ends_from at [] = []
ends_from at (n ∷ ns) = (at + length n) ∷ ends_from (at + length n) ns

unfoldable pub all_names : List ℕ
unfolding rules
all_names = joined (column (λ r. r.name) rules)

unfoldable pub name_ends : List ℕ
unfolding rules
name_ends = ends_from 0 (column (λ r. r.name) rules)

abbrev pub name_end : ℕ → ℕ
name_end code = get_or name_ends code 0

-- what lies from the end before a code's to its own
abbrev pub name_within : ℕ → List ℕ
name_within code = take (name_end code - name_end (code - 1)) (drop (name_end (code - 1)) all_names)

-- A code's name lies there, for every code.
pub name_placed : (code : ℕ) → Holds (is_code code) → Holds (name_end (code - 1) ≼ name_end code and name_end code ≼ length all_names)
unfolding all_names name_ends rules test
name_placed code h =
    passed (each (suc last_code) (λ c. name_end (c - 1) ≼ name_end c and name_end c ≼ length all_names)) refl code (omega arith)

pub name_found : (code : ℕ) → Holds (is_code code) → name_within code ≡ name_of code
unfolding all_names name_ends name_of rules test
name_found code h =
    let same =
    passed
    (each (suc last_code)
    (λ c. length (name_within c) ≐ length (name_of c)
    and each (length (name_within c)) (λ i. get_or (name_within c) i 0 ≐ get_or (name_of c) i 0)))
    refl code (omega arith) in
    ext_get_or 0 (name_within code) (name_of code) same.0 same.1
