-- Every call keeps a session kept, and check 2 never refuses one.
use Rattle.std.specs.Prelude.{◌≡◌}
use Rattle.session.specs.Table.{Session}
use Rattle.rules.specs.declared.Operation.{Operation}
use Rattle.rules.specs.Formula.{Holds}
use Rattle.rules.specs.Sound.{kept}
use Rattle.rules.specs.Step.{step}
use Rattle.laws.specs.ByName.{kept-sound}
use Rattle.laws.specs.Accepted.{Called, called, checked, step-sound, Called.refused, Called.accepted}
use Rattle.laws.specs.Operations.{accepted_keeps}

pub step_keeps : (s : Session) (o : Operation) → Holds (kept s) → Holds (kept (step s o).leaves)
step_keeps s o k = go (called s o)
  where
    go : Called s o → Holds (kept (step s o).leaves)
    go (refused n w e) = rw e k
    go (accepted h n w e a) = rw e (accepted_keeps s o a k)

-- a kept session is sound, so the answer is that of the checks from 6 on
pub kept_step : (s : Session) (o : Operation) → Holds (kept s) → step s o ≡ checked s o
kept_step s o k = step-sound s o (kept-sound s k)
