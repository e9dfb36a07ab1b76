-- `effects::satisfying::satisfy_event` meets its contract: a latch counts (`event-counts`), a fired event stays (`event_stays`),
-- and any other fires (`event_fires`).
use Rattle.session.specs.TableLaws.{wrote_none}
use Rattle.effects.specs.Satisfying.{event-counts, event_stays, event_fires}
use Rattle.effects.proofs.satisfying.satisfy_event.Goals as goal

pub returns-then-get-eq-LATCH : goal.returns-then-get-eq-LATCH
returns-then-get-eq-LATCH c =
    rw (event-counts _ _ _ _
    (rw c.get.ensures at c.if-get-eq-LATCH.true))
    c.tally.ensures

pub returns-then-get-ne-FIRED : goal.returns-then-get-ne-FIRED
returns-then-get-ne-FIRED c =
    rw (event_fires _ _ _ _ (rw c.get.ensures at c.if-get-eq-LATCH.false)
    (rw c.get-else-get-eq-LATCH.ensures at c.if-get-ne-FIRED.true))
    c.fire_one.ensures

pub returns-else-get-ne-FIRED : goal.returns-else-get-ne-FIRED
returns-else-get-ne-FIRED c =
    rw (event_stays _ _ _ _ (rw c.get.ensures at c.if-get-eq-LATCH.false)
    (rw c.get-else-get-eq-LATCH.ensures at c.if-get-ne-FIRED.false))
    (wrote_none _)
