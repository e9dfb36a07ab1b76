-- `reading::holders::is_holder` meets its contract: granted is the first side of the `or` (`right`), and of any other state the
-- second decides (`beside`).
use Rattle.reading.specs.TestLaws.{beside, equals, right}
use mathlib.Core.Logic.{inl}
use mathlib.Core.Path.{◌∙◌, sym}
use native.Mathlib.Omega.{arith}
use Rattle.reading.proofs.holders.is_holder.Goals as goal

pub returns-then-state-eq-GRANTED : goal.returns-then-state-eq-GRANTED
returns-then-state-eq-GRANTED c = right _ (inl (sym c.get-state.ensures ∙ c.if-state-eq-GRANTED.true))

pub returns : goal.returns
returns c = rw c.get-state.ensures (beside _ _ (λ x. omega arith) (equals _ _))
