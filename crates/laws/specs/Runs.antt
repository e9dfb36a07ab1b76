-- Lists of calls: every session that a list from fresh leaves is kept, and no list undoes what lasts.
use Rattle.std.specs.Prelude.{List, [], ◌∷◌}
use Rattle.session.specs.Table.{Session}
use Rattle.rules.specs.declared.Operation.{Operation}
use Rattle.rules.specs.Formula.{Holds}
use Rattle.rules.specs.Sound.{kept}
use Rattle.rules.specs.Step.{fresh_session, step}
use Rattle.rules.specs.Demand.{next, run, session_after}
use Rattle.laws.specs.FreshKept.{fresh_kept}
use Rattle.laws.specs.StepKeeps.{step_keeps}
use Rattle.laws.specs.Lasting.{Later, later_same, later_then}
use Rattle.laws.specs.OneCall.{one-call}

pub run_keeps : (s : Session) (os : List Operation) → Holds (kept s) → Holds (kept (run s os))
unfolding run next
run_keeps s [] k = k
run_keeps s (o ∷ os) k = run_keeps (step s o).leaves os (step_keeps s o k)

pub always_kept : (os : List Operation) → Holds (kept (session_after os))
always_kept os = run_keeps fresh_session os fresh_kept

pub run_later : (s : Session) (os : List Operation) → Later s (run s os)
unfolding run next
run_later s [] = later_same s
run_later s (o ∷ os) = later_then (one-call s o) (run_later (step s o).leaves os)
