-- What an event and a task begin with.
use Rattle.std.specs.Prelude.{ℕ}
use Rattle.session.specs.Names.{latch, even_tally, resolved, waiting}
use Rattle.rules.specs.Formula.{choose, Formula.◌≐◌}

-- the tally of an event of this type
unfoldable pub first_tally : ℕ → ℕ
first_tally ty = choose (ty ≐ latch) even_tally 0

-- the state of a task with n pre-slots
unfoldable pub first_state : ℕ → ℕ
first_state n = choose (n ≐ 0) resolved waiting
