-- `checks::handles::has_room` meets its contract: n is at most the most objects, so comparing with the difference is comparing
-- the sum (`room_for`).
use Rattle.reading.specs.TestLaws.{room_for}
use native.Mathlib.Omega.{arith}
use Rattle.checks.proofs.handles.has_room.Goals as goal

pub returns : goal.returns
returns c = rw c.get.ensures (room_for _ _ _ (omega arith))
