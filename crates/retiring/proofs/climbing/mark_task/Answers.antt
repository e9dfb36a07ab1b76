-- `retiring::climbing::mark_task` meets its contract: without a live descendant what waits finishes (`finishes-waits`), and is marked
-- (`climbed-mark`), as the first or as one of several; any other is passed (`climbed_past`). That its event is made bounds the index.
use mathlib.Core.Path.{refl, sym, ◌∙◌}
use mathlib.Core.Logic.{inl, inr}
use native.Mathlib.Omega.{arith}
use Rattle.session.specs.Table.{read}
use Rattle.rules.specs.FormulaLaws.{passed, failed}
use Rattle.retiring.specs.Finish.{finishes-waits}
use Rattle.retiring.specs.Climb.{event-made, climbed_past, climbed-mark}
use Rattle.retiring.proofs.climbing.mark_task.Goals as goal

pub returns-then-not-task_waits : goal.returns-then-not-task_waits
returns-then-not-task_waits c =
    let a = c.args in
    let p = c.requires in
    let s = read a.s.now in
    climbed_past s p.0 a.h p.3.known a.fires.now a.found p.1 p.3
    (failed _ (sym (finishes-waits s a.h p.2) ∙ sym c.task_waits.ensures ∙ c.if-not-task_waits.true))

pub bounds-fires-h : goal.bounds-fires-h
bounds-fires-h c =
    let p = c.requires in
    let f = passed _ (sym c.task_waits.ensures ∙ c.if-not-task_waits.false) in
    omega (arith, (event-made _ p.0 _ f.0).1, p.0.frame.few)

pub returns-in-Nothing : goal.returns-in-Nothing
returns-in-Nothing c =
    let a = c.args in
    let p = c.requires in
    let s = read a.s.now in
    let f = passed _ (sym (finishes-waits s a.h p.2) ∙ sym c.task_waits.ensures ∙ c.if-not-task_waits.false) in
    climbed-mark s p.0 a.h p.3.known a.fires.now a.found p.1 p.3 f c.told-fires _ (inl (c.in-Nothing.is, refl))

pub returns-in_default : goal.returns-in_default
returns-in_default c =
    let a = c.args in
    let p = c.requires in
    let s = read a.s.now in
    let f = passed _ (sym (finishes-waits s a.h p.2) ∙ sym c.task_waits.ensures ∙ c.if-not-task_waits.false) in
    climbed-mark s p.0 a.h p.3.known a.fires.now a.found p.1 p.3 f c.told-fires _ (inr refl)
