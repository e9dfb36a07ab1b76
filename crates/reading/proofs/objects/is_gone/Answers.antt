-- `reading::objects::is_gone` meets its contract: kind by kind (`template-gone` and its like); of no kind nothing is (`gone_by`).
use Rattle.reading.specs.Gone.{block-gone, event-gone, gone_by, task-gone, template-gone}
use Rattle.reading.specs.TestLaws.{at_most, wrong}
use Rattle.session.specs.Table.{read}
use mathlib.Core.Path.{◌∙◌, sym}
use native.Mathlib.Omega.{arith}
use Rattle.reading.proofs.objects.is_gone.Goals as goal

pub returns-then-kind-eq-TEMPLATE : goal.returns-then-kind-eq-TEMPLATE
returns-then-kind-eq-TEMPLATE c =
    let a = c.args in
    rw c.of_object.ensures
    (at_most _ _ ∙ (template-gone (read a.s.now) a.h
    (sym c.of_object-kind.ensures ∙ c.if-kind-eq-TEMPLATE.true)))

pub returns-then-kind-eq-TASK : goal.returns-then-kind-eq-TASK
returns-then-kind-eq-TASK c =
    let a = c.args in
    rw c.of_object-then-kind-eq-TASK.ensures
    (at_most _ _ ∙ (task-gone (read a.s.now) a.h
    (sym c.of_object-kind.ensures ∙ c.if-kind-eq-TASK.true)))

pub returns-then-kind-eq-EVENT : goal.returns-then-kind-eq-EVENT
returns-then-kind-eq-EVENT c =
    let a = c.args in
    c.is_spent.ensures ∙
    (event-gone (read a.s.now) a.h (sym c.of_object-kind.ensures ∙ c.if-kind-eq-EVENT.true))

pub returns-then-kind-eq-BLOCK : goal.returns-then-kind-eq-BLOCK
returns-then-kind-eq-BLOCK c =
    let a = c.args in
    rw c.of_object-then-kind-eq-BLOCK.ensures
    (at_most _ _ ∙ (block-gone (read a.s.now) a.h
    (sym c.of_object-kind.ensures ∙ c.if-kind-eq-BLOCK.true)))

pub returns : goal.returns
returns c =
    let a = c.args in
    wrong _ (λ x. let g = gone_by (read a.s.now) a.h x in omega arith)
