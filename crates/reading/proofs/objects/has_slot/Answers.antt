-- `reading::objects::has_slot` meets its contract: kind by kind (`task-slot`, `has_event_slot`); of another kind none has (`other-slot`).
use mathlib.Core.Path.{◌∙◌, sym}
use Rattle.session.specs.Table.{read}
use Rattle.rules.specs.Bools.{test_lt}
use Rattle.reading.specs.TestLaws.{wrong}
use Rattle.reading.specs.SlotsByKind.{task-slot, other-slot}
use Rattle.reading.proofs.objects.has_slot.Goals as goal

pub returns-then-kind-eq-TASK : goal.returns-then-kind-eq-TASK
returns-then-kind-eq-TASK c =
    let a = c.args in
    rw c.of_object.ensures
    (sym (test_lt _ _) ∙ task-slot (read a.s.now) a.h a.j (sym c.of_object-kind.ensures ∙ c.if-kind-eq-TASK.true))

pub returns : goal.returns
returns c =
    let k = c.of_object-kind.ensures in
    let a = c.args in
    wrong _ (other-slot (read a.s.now) a.h a.j (λ t. c.if-kind-eq-TASK.false (k ∙ t)) (λ e. c.if-kind-eq-EVENT.false (k ∙ e)))
