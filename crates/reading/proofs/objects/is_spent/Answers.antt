-- `reading::objects::is_spent` meets its contract: destroyed is `right`, not fired `wrong`; else by the type (`beside`, `after`).
use Rattle.reading.specs.TestLaws.{after, beside, right, wrong}
use mathlib.Core.Logic.{inl, ⊎_elim}
use native.Mathlib.Omega.{arith}
use Rattle.reading.proofs.objects.is_spent.Goals as goal

pub returns-then-state-ge-DESTROYED_UNFIRED : goal.returns-then-state-ge-DESTROYED_UNFIRED
returns-then-state-ge-DESTROYED_UNFIRED c = right _ (inl (omega arith))

pub returns-then-state-ne-FIRED : goal.returns-then-state-ne-FIRED
returns-then-state-ne-FIRED c = wrong _ (λ x. ⊎_elim (λ y. omega arith) (λ y. omega arith) x)

pub returns : goal.returns
returns c =
    beside _ _ (λ x. omega arith)
    (after _ _ (omega arith) (rw (← c.of_object.ensures) c.is_gone_when_fired.ensures))
