-- `checks::handles::are_blocks_left` meets its contract: the blocks of the slots before j remain, so one that does not decides
-- against all (`wrong`), and at the count all of them do (`right`).
use Rattle.checks.specs.Scan.{through-more, through_none}
use Rattle.reading.specs.TestLaws.{no, right, wrong, yes}
use native.Mathlib.Omega.{arith}
use Rattle.checks.proofs.handles.are_blocks_left.Goals as goal

pub loop-j-init : goal.loop-j-init
loop-j-init c = through_none _

pub returns-then-not-remains_or_null : goal.returns-then-not-remains_or_null
returns-then-not-remains_or_null c =
    wrong _ (λ x. no _ c.remains_or_null.ensures c.if-not-remains_or_null.true
    (rw c.of_slot_at.ensures (x c.loop-j.j (omega arith))))

pub loop-j-preserved : goal.loop-j-preserved
loop-j-preserved c =
    through-more _ _ c.loop-j.invariant (rw c.of_slot_at.ensures at (yes _ c.remains_or_null.ensures c.if-not-remains_or_null.false))

pub returns : goal.returns
returns c = right _ (λ i h. c.loop-j.invariant.all i (omega arith))
