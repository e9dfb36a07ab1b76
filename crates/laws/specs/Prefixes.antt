-- A list of operations run in two parts.
use Rattle.std.specs.Prelude.{◌≡◌, refl, List, [], ◌∷◌, ◌++◌}
use Rattle.session.specs.Table.{Session}
use Rattle.rules.specs.declared.Operation.{Operation}
use Rattle.rules.specs.Step.{fresh_session}
use Rattle.rules.specs.Demand.{next, run, session_after}

pub run-parts : (s : Session) (early late : List Operation) → run s (early ++ late) ≡ run (run s early) late
unfolding run
run-parts s [] late = refl
run-parts s (o ∷ os) late = run-parts (next s o) os late

-- from fresh
pub session_parts : (early late : List Operation) → session_after (early ++ late) ≡ run (session_after early) late
session_parts early late = run-parts fresh_session early late
