-- How many fields each operation has, what it is called, and the editions of sheets that know it, by its code.
use Rattle.std.specs.Prelude.{ℕ, zero, suc, ◌≤◌, ◌<◌, ◌≡◌, ◌⊎◌, refl, List, [], ◌∷◌, get_or, length}
use Rattle.std.specs.Prelude.{Option, Option.Some, Option.None}
use Rattle.std.proofs.Common.{⊎_elim, arith}
use Rattle.std.proofs.lemmas.List.{get_or_past}
use Rattle.rules.specs.declared.Operation.{Operation}
use Rattle.rules.specs.Formula.{Formula, Holds, test, choose, Formula.◌≼◌, Formula.◌and◌, Formula.◌then◌}
use Rattle.rules.specs.Formula.{Formula.each}
use Rattle.rules.specs.FormulaLaws.{passed, choose_no}
use Rattle.rules.specs.Step.{Rule, rules, last_code, last_edition, last_of, rule_of, unknown}

pub rows-counted : length rules ≡ suc last_code
unfolding rules
rows-counted = refl

-- the codes that there are
abbrev pub is_code : ℕ → Formula
is_code code = 1 ≼ code and code ≼ last_code

-- what each row has
abbrev pub column : {A : Type 0} → (Rule → A) → List Rule → List A
column of [] = []
column of (r ∷ rs) = of r ∷ column of rs

pub column-at : {A : Type 0} (of : Rule → A) (rs : List Rule) (n : ℕ) (d : Rule) → get_or (column of rs) n (of d) ≡ of (get_or rs n d)
column-at of [] n d = refl
column-at of (r ∷ rs) zero d = refl
column-at of (r ∷ rs) (suc n) d = column-at of rs n d

-- "Operations: code, then fields"
abbrev pub field_count : ℕ → ℕ
unfolding rules
field_count code = get_or (column (λ r. r.arity) rules) code 0

-- An edition is the first number of a sheet, 1 or 2. "Sheets whose first number is 2 may use operation 13; in edition 1 reading or
-- writing it gives 6": the codes that an edition knows. (A single call has no edition, and takes every code.)
abbrev pub is_edition : ℕ → Formula
is_edition n = 1 ≼ n and n ≼ last_edition

abbrev pub knows : ℕ → ℕ → Formula
knows edition code = is_code code and code ≼ last_of edition

-- the last edition knows every code
pub last_knows : (code : ℕ) → Holds (is_code code) → Holds (knows last_edition code)
last_knows code h = (h, rw (choose_no (last_edition ≼ 1) 12 last_code (λ l. omega arith)) h.1)

unfoldable pub name_of : ℕ → List ℕ
unfolding rules
name_of code = get_or (column (λ r. r.name) rules) code []

-- no code, no name
pub name_none : (code : ℕ) → (code ≡ 0) ⊎ (last_code < code) → name_of code ≡ []
unfolding name_of rules
name_none code = ⊎_elim (λ e. rw e refl) (λ h. get_or_past (column (λ r. r.name) rules) code [] (omega arith))

-- every operation has from one to five fields
pub fields_some : (code : ℕ) → Holds (is_code code) → 1 ≤ field_count code
unfolding rules test
fields_some code h = passed (each (suc last_code) (λ c. 1 ≼ c then 1 ≼ field_count c)) refl code (omega arith) h.0

pub fields_few : (code : ℕ) → Holds (is_code code) → field_count code ≤ 5
unfolding rules test
fields_few code h = passed (each (suc last_code) (λ c. field_count c ≼ 5)) refl code (omega arith)

-- an operation has as many fields as its row says
pub fields-counted : (o : Operation) → field_count o.code ≡ (rule_of o).arity
unfolding rules
fields-counted o = column-at (λ r. r.arity) rules o.code unknown

-- "6. The operation code is unknown" to an edition, or has so many fields
unfoldable pub arity_of : ℕ → ℕ → Option ℕ
unfolding rules
arity_of edition code = choose (knows edition code) (Some (field_count code)) None
