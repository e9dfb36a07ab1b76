-- `retiring::finishing::ready_marked` meets its contract: an open link of a marked event is ready (`ready_yes`); one not marked
-- or not open is as it was (`ready_no`).
use mathlib.Core.Path.{sym, ◌∙◌}
use Rattle.session.specs.TableLaws.{wrote_none}
use Rattle.retiring.specs.Finish.{ready_yes, ready_no}
use Rattle.retiring.proofs.finishing.ready_marked.Goals as goal

pub returns-then-get-eq-LINK_OPEN : goal.returns-then-get-eq-LINK_OPEN
returns-then-get-eq-LINK_OPEN c =
    rw (ready_yes _ _ _ (sym c.get.ensures ∙ c.if-get-eq-LINK_OPEN.true)
    (rw c.get-e.ensures at c.if-fires-e-eq1.true)) c.set.ensures

pub returns-else-get-eq-LINK_OPEN : goal.returns-else-get-eq-LINK_OPEN
returns-else-get-eq-LINK_OPEN c = rw (ready_no _ _ _ (λ x. c.if-get-eq-LINK_OPEN.false (c.get.ensures ∙ x.0))) (wrote_none _)

pub returns-else-fires-e-eq1 : goal.returns-else-fires-e-eq1
returns-else-fires-e-eq1 c =
    let e = c.get-e.ensures in
    rw (ready_no _ _ _ (λ x. (rw e at c.if-fires-e-eq1.false) x.1)) (wrote_none _)
