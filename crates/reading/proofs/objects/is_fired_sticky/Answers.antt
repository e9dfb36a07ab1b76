-- `reading::objects::is_fired_sticky` meets its contract: no event or no such type is `wrong`; else the state decides (`after`).
use Rattle.reading.specs.TestLaws.{after, equals, no, wrong, yes}
use Rattle.reading.proofs.objects.is_fired_sticky.Goals as goal

pub returns-then-not-is_kind : goal.returns-then-not-is_kind
returns-then-not-is_kind c = wrong _ (λ x. no _ c.is_kind.ensures c.if-not-is_kind.true x.0)

pub returns-then-not-refuses_further : goal.returns-then-not-refuses_further
returns-then-not-refuses_further c =
    wrong _ (λ x. no _ (rw c.of_object.ensures at c.refuses_further.ensures) c.if-not-refuses_further.true
    x.1.0)

pub returns : goal.returns
returns c =
    rw c.of_object-2.ensures
    (after _ _ (yes _ c.is_kind.ensures c.if-not-is_kind.false)
    (after _ _ (yes _ (rw c.of_object.ensures at c.refuses_further.ensures) c.if-not-refuses_further.false)
    (equals _ _)))
