-- `reading::holds::holds_block` meets its contract: the maker's hold is enough (`right`); else the slots decide (`ahead`), of which
-- there are none past the last handle (`no_slots`).
use Rattle.reading.specs.Holds.{no_slots}
use Rattle.reading.specs.TestLaws.{ahead, no, right, wrong, yes}
use mathlib.Core.Logic.{inr}
use Rattle.reading.proofs.holds.holds_block.Goals as goal

pub returns-then-holds_made : goal.returns-then-holds_made
returns-then-holds_made c = right _ (inr (yes _ c.holds_made.ensures c.if-holds_made.true))

pub returns-then-t-gt-MOST_OBJECTS : goal.returns-then-t-gt-MOST_OBJECTS
returns-then-t-gt-MOST_OBJECTS c =
    ahead _ _ (no _ c.holds_made.ensures c.if-holds_made.false) (wrong _ (no_slots _ _ _ c.if-t-gt-MOST_OBJECTS.true))

pub returns : goal.returns
returns c = ahead _ _ (no _ c.holds_made.ensures c.if-holds_made.false) c.task_holds.ensures
