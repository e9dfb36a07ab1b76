-- The three reasons, in the order of the formula.
use Rattle.reading.specs.TestLaws.{beside, no, right, yes}
use Rattle.rules.specs.Effects.{drops}
use mathlib.Core.Logic.{inl, inr}
use Rattle.reading.proofs.objects.drops.Goals as goal

pub returns-then-is_gone : goal.returns-then-is_gone
unfolding drops
returns-then-is_gone c = right _ (inl (yes _ c.is_gone.ensures c.if-is_gone.true))

pub returns-then-is_fired_sticky : goal.returns-then-is_fired_sticky
unfolding drops
returns-then-is_fired_sticky c = right _ (inr (inl (yes _ c.is_fired_sticky.ensures c.if-is_fired_sticky.true)))

pub returns : goal.returns
unfolding drops
returns c =
    beside _ _ (no _ c.is_gone.ensures c.if-is_gone.false)
    (beside _ _ (no _ c.is_fired_sticky.ensures c.if-is_fired_sticky.false) c.overflows.ensures)
