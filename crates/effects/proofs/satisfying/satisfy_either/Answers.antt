-- `effects::satisfying::satisfy_either` meets its contract: whether d is a task chooses between `satisfy_slot` and
-- `satisfy_event`, each of which gets its part of `Satisfiable`.
use Rattle.rules.specs.FormulaLaws.{choose_yes, choose_no}
use Rattle.rules.specs.Effects.{satisfy}
use Rattle.effects.proofs.satisfying.satisfy_either.Goals as goal

pub returns-then-get-eq-TASK : goal.returns-then-get-eq-TASK
unfolding satisfy
returns-then-get-eq-TASK c =
    rw (choose_yes _ _ _
    (rw c.get.ensures at c.if-get-eq-TASK.true))
    c.satisfy_slot.ensures

pub returns-else-get-eq-TASK : goal.returns-else-get-eq-TASK
unfolding satisfy
returns-else-get-eq-TASK c =
    rw (choose_no _ _ _ (rw c.get.ensures at
    c.if-get-eq-TASK.false)) c.satisfy_event.ensures
