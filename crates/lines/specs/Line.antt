-- "The sheet program .. prints per record its number from 1, the refusal (0 if accepted), and the handle or link made" and
-- last a line that "gives live tasks, undelivered links, dropped": three numbers a line.
use Rattle.std.specs.Prelude.{ℕ, List, [], ◌∷◌, ◌++◌}
use Rattle.decimal.specs.Decimal.{decimal}

abbrev pub space : ℕ
space = 32

abbrev pub newline : ℕ
newline = 10

-- a number and the byte behind it
unfoldable pub marked : ℕ → ℕ → List ℕ
marked v mark = decimal v ++ mark ∷ []

unfoldable pub line : ℕ → ℕ → ℕ → List ℕ
unfolding marked
line a b c = marked a space ++ marked b space ++ marked c newline
