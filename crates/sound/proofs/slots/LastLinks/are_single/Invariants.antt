-- `sound::slots::LastLinks::are_single` meets its contract: what `is_single` answers, from l to l + 1 (`each_more`), at 1 by
-- `single-first`.
use Rattle.std.specs.Prelude.{◌≡◌}
use Rattle.session.specs.Table.{read}
use Rattle.rules.specs.Formula.{test, Formula.each}
use Rattle.sound.specs.LinkOf.{single}
use Rattle.sound.proofs.slots.LastLinks.are_single.Given as goal

abbrev pub invariant-loop-l : goal.invariant-loop-l
invariant-loop-l l = l.ok ≡ test (each l.l (single (read l.self.v.s.now)))
