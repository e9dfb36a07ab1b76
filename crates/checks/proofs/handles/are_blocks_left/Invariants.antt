-- `checks::handles::are_blocks_left` meets its contract: the blocks of the slots before j remain, so one that does not decides
-- against all (`wrong`), and at the count all of them do (`right`).
use Rattle.checks.specs.Scan.{Through}
use Rattle.rules.specs.Checks.{or_null, remains}
use Rattle.session.specs.Table.{at, read}
use Rattle.session.specs.declared.Field.TheVariants.{SlotPayload}
use Rattle.checks.proofs.handles.are_blocks_left.Given as goal

abbrev pub invariant-loop-j : goal.invariant-loop-j
invariant-loop-j l = Through (λ i. or_null (read l.s) (remains (read l.s)) (read l.s SlotPayload (at l.t i))) l.j
