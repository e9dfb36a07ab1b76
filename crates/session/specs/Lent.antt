-- A session in words that are lent to a function, at the function's two moments.
use Rattle.std.specs.Prelude.{ℕ, List}
use Rattle.session.specs.Table.{Session, Wrote, read}

-- what the words say at entry
abbrev pub was : List ℕ → Session
was ws = read ws

-- at exit they hold the session q, and are otherwise as they were
abbrev pub Becomes : List ℕ → List ℕ → Session → Type 0
Becomes ws ws' q = Wrote ws ws' q
