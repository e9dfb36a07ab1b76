-- A release keeps a session: the caller lets go of one block.
use Rattle.std.specs.Prelude.{ℕ}
use Rattle.session.specs.Table.{Session}
use Rattle.rules.specs.Formula.{Formula.◌≐◌}
use Rattle.rules.specs.Checks.{release_checks}
use Rattle.rules.specs.Effects.{release}
use Rattle.laws.specs.Keeping.{Kept}
use Rattle.laws.specs.Met.{Checked}
use Rattle.laws.specs.LettingGo.{let_go_keeps}

pub release_keeps : (s : Session) (caller b : ℕ) → Checked (release_checks s caller b) → Kept s → Kept (release s caller b)
unfolding release
release_keeps s caller b c k = let_go_keeps s caller (λ h. h ≐ b) (c 8) k
