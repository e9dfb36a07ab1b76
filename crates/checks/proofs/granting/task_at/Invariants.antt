-- `checks::granting::task_at` meets its contract: the array's first j slots are the table's (`up_to-more`), at 16 all of them; the
-- other fields as they are read, by the definition of `task_at`.
use Rattle.checks.specs.GrantChecks.{slot_at, up_to}
use Rattle.session.specs.Table.{at, read}
use lib.ListN.{length, take}
use mathlib.Core.Path.{◌≡◌}
use Rattle.checks.proofs.granting.task_at.Given as goal

abbrev pub invariant-loop-j : goal.invariant-loop-j
invariant-loop-j l = (length l.slots ≡ 16) × (take l.j l.slots ≡ up_to l.j (λ k. slot_at (read l.s) (at l.t k)))
