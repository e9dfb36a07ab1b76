-- `reading::objects::is_live` meets its contract: no task fails (`fails`); else the state decides (`test_and`).
use mathlib.Core.Path.{sym, ◌∙◌}
use native.Mathlib.Omega.{arith}
use Rattle.rules.specs.FormulaLaws.{fails, test_and}
use Rattle.session.specs.Table.{read}
use Rattle.session.specs.Names.{task, running}
use Rattle.session.specs.declared.Field.TheVariants.{Kind, TaskState}
use Rattle.rules.specs.Formula.{test, Formula.◌≐◌, Formula.◌≼◌}
use Rattle.reading.proofs.objects.is_live.Goals as goal

pub returns-then-get-ne-TASK : goal.returns-then-get-ne-TASK
returns-then-get-ne-TASK c = sym (fails _ (λ x. let e = c.get.ensures in omega (arith, x.0, c.if-get-ne-TASK.true)))

pub returns : goal.returns
unfolding test
returns c =
    let a = c.args in
    let s = read a.s.now in
    rw c.get-2.ensures
    (sym (test_and (s Kind a.h ≐ task) (s TaskState a.h ≼ running)
    (sym c.get.ensures ∙ c.if-get-ne-TASK.false)))
