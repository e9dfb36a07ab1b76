-- `retiring::finishing::fire_marked` meets its contract: of a marked event the state is put (`fire_yes`), and of any other the
-- row is as it was (`fire_no`).
use Rattle.session.specs.TableLaws.{wrote_none}
use Rattle.retiring.specs.Finish.{fire_yes, fire_no}
use Rattle.retiring.proofs.finishing.fire_marked.Goals as goal

pub returns-then-fires-e-eq1 : goal.returns-then-fires-e-eq1
returns-then-fires-e-eq1 c =
    rw (fire_yes _ _ _ c.if-fires-e-eq1.true) c.set.ensures

pub returns-else-fires-e-eq1 : goal.returns-else-fires-e-eq1
returns-else-fires-e-eq1 c = rw (fire_no _ _ _ c.if-fires-e-eq1.false) (wrote_none _)
