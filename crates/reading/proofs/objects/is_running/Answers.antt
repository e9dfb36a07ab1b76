-- `reading::objects::is_running` meets its contract: not made or no task is `wrong`; else the state decides (`after`, `equals`).
use Rattle.reading.specs.TestLaws.{after, equals, no, wrong, yes}
use Rattle.reading.proofs.objects.is_running.Goals as goal

pub returns-then-not-is_made : goal.returns-then-not-is_made
returns-then-not-is_made c = wrong _ (λ x. no _ c.is_made.ensures c.if-not-is_made.true x.0)

pub returns-then-not-is_kind : goal.returns-then-not-is_kind
returns-then-not-is_kind c = wrong _ (λ x. no _ c.is_kind.ensures c.if-not-is_kind.true x.1.0)

pub returns : goal.returns
returns c =
    rw c.of_object.ensures
    (after _ _ (yes _ c.is_made.ensures c.if-not-is_made.false)
    (after _ _ (yes _ c.is_kind.ensures c.if-not-is_kind.false) (equals _ _)))
