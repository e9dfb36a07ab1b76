-- `checks::granting::slot_at` meets its contract: the three fields read, by the definition of `slot_at`.
use Rattle.checks.specs.GrantChecks.{slot_at}
use Rattle.checks.proofs.granting.slot_at.Goals as goal

pub returns : goal.returns
unfolding slot_at
returns c = rw (c.get.ensures, c.get-2.ensures, c.get-3.ensures)
