-- `reading::objects::overflows` meets its contract: no latch or no such slot is `wrong`; else the tally decides (`test-same`).
use Rattle.reading.specs.TestLaws.{after, equals, no, wrong, yes}
use mathlib.Core.Logic.{inl, inr, ⊎_elim}
use mathlib.Core.Path.{◌∙◌}
use native.Mathlib.Omega.{arith}
use Rattle.rules.specs.FormulaLaws.{test-same}
use Rattle.reading.proofs.objects.overflows.Goals as goal

pub returns-then-not-is_kind : goal.returns-then-not-is_kind
returns-then-not-is_kind c = wrong _ (λ x. no _ c.is_kind.ensures c.if-not-is_kind.true x.0)

pub returns-then-of_object-ne-LATCH : goal.returns-then-of_object-ne-LATCH
returns-then-of_object-ne-LATCH c = wrong _ (λ x. omega arith)

pub returns-then-j-eq0 : goal.returns-then-j-eq0
returns-then-j-eq0 c =
    rw c.of_object-tally.ensures
    (after _ _ (yes _ c.is_kind.ensures
    c.if-not-is_kind.false)
    (after _ _ (omega arith)
    (equals _ _ ∙ test-same _ _ (λ x. inl (omega arith, x)) (λ x. ⊎_elim (λ y. y.1) (λ y. absurd (omega arith)) x))))

pub returns-then-j-ne1 : goal.returns-then-j-ne1
returns-then-j-ne1 c = wrong _ (λ x. ⊎_elim (λ y. omega arith) (λ y. omega arith) x.1.1)

pub returns : goal.returns
returns c =
    rw c.of_object-tally.ensures
    (after _ _ (yes _ c.is_kind.ensures
    c.if-not-is_kind.false)
    (after _ _ (omega arith)
    (equals _ _ ∙ test-same _ _ (λ x. inr (omega arith, x)) (λ x. ⊎_elim (λ y. absurd (omega arith)) (λ y. y.1) x))))
