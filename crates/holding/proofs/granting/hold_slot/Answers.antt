-- `holding::granting::hold_slot` meets its contract: of a slot with a block the mark is put (`grant_row-own`), and of an empty one
-- the row is as it was (`grant_row_empty`).
use Rattle.session.specs.TableLaws.{wrote_none}
use Rattle.holding.specs.GrantedSlots.{grant_row-own, grant_row_empty}
use Rattle.holding.proofs.granting.hold_slot.Goals as goal

pub returns-then-get-ge1 : goal.returns-then-get-ge1
returns-then-get-ge1 c =
    rw (grant_row-own _ _ _ c.requires.1 (rw c.get.ensures at c.if-get-ge1.true))
    c.set.ensures

pub returns-else-get-ge1 : goal.returns-else-get-ge1
returns-else-get-ge1 c = rw (grant_row_empty _ _ _ (rw c.get.ensures at c.if-get-ge1.false)) (wrote_none _)
