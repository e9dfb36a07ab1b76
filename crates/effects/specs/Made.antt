-- What an operation that makes something, or climbs, leaves and answers.
use Rattle.std.specs.Prelude.{ℕ, ◌+◌, ◌≡◌, List}
use Rattle.session.specs.Table.{Session, Wrote}
use Rattle.session.specs.declared.Field.TheVariants.{Links}
use Rattle.rules.specs.Formula.{choose}
use Rattle.rules.specs.Checks.{makes_link}

-- memory holds the session s, and the answer r is the handle or link m that was made, or the m steps climbed
pub record Made (before after : List ℕ) (s : Session) (m r : ℕ) : Type 0 where
  pub wrote : Wrote before after s
  pub answer : r ≡ m

-- the link that a dependence on a source makes, 0 if it makes none
unfoldable pub link_made : Session → ℕ → ℕ
link_made s source = choose (makes_link s source) (s Links 0 + 1) 0
