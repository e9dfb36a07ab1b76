-- A number in decimal digits, highest first, as bytes of text.
use Rattle.std.specs.Prelude.{ℕ, zero, suc, ◌+◌, ◌/◌, ◌%◌, true, false, List, [], ◌∷◌, ◌++◌, ltb}

-- in so many steps: a number below 10 is one digit, any other the digits of its tenth and then its last
unfoldable pub decimal_in : ℕ → ℕ → List ℕ
decimal_in zero v = (v + 48) ∷ []
decimal_in (suc steps) v = elim (ltb v 10) [ true ↦ (v + 48) ∷ [] | false ↦ decimal_in steps (v / 10) ++ (v % 10 + 48) ∷ [] ]

-- The tenth is smaller, so that a number is more steps than it needs.
unfoldable pub decimal : ℕ → List ℕ
decimal v = decimal_in v v
