-- `reading::holds::holds_made` meets its contract: not held by its maker is `wrong`; else by the creator (`after`, `equals`).
use Rattle.reading.specs.TestLaws.{after, equals, wrong}
use native.Mathlib.Omega.{arith}
use Rattle.reading.proofs.holds.holds_made.Goals as goal

pub returns-then-of_object-ne1 : goal.returns-then-of_object-ne1
returns-then-of_object-ne1 c = wrong _ (λ x. omega arith)

pub returns : goal.returns
returns c = rw c.of_object-2.ensures (after _ _ (omega arith) (equals _ _))
