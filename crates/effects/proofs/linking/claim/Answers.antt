-- `effects::linking::claim` meets its contract: of a task, whose slot is then below 16, the mode is put (`choose_yes`), else
-- nothing (`choose_no`).
use Rattle.session.specs.TableLaws.{wrote_none}
use Rattle.rules.specs.FormulaLaws.{choose_yes, choose_no}
use Rattle.rules.specs.Effects.{claim}
use Rattle.effects.proofs.linking.claim.Goals as goal

pub returns-then-get-eq-TASK : goal.returns-then-get-eq-TASK
unfolding claim
returns-then-get-eq-TASK c =
    rw (choose_yes _ _ _
    (rw c.get.ensures at c.if-get-eq-TASK.true))
    c.set.ensures

pub returns-else-get-eq-TASK : goal.returns-else-get-eq-TASK
unfolding claim
returns-else-get-eq-TASK c = rw (choose_no _ _ _ (rw c.get.ensures at c.if-get-eq-TASK.false)) (wrote_none _)
