-- `reading::objects::task_slots` meets its contract: 17 takes the template's count (`choose_yes`), another n stays (`choose_no`).
use Rattle.rules.specs.FormulaLaws.{choose_no, choose_yes}
use mathlib.Core.Path.{◌∙◌, sym}
use Rattle.reading.proofs.objects.task_slots.Goals as goal

pub returns-then-n-eq-UNKNOWN_COUNT : goal.returns-then-n-eq-UNKNOWN_COUNT
returns-then-n-eq-UNKNOWN_COUNT c = c.of_object.ensures ∙ sym (choose_yes _ _ _ c.if-n-eq-UNKNOWN_COUNT.true)

pub returns : goal.returns
returns c = sym (choose_no _ _ _ c.if-n-eq-UNKNOWN_COUNT.false)
