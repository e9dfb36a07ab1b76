-- `sound::slots::note_link` meets its contract: to a task l is the last link there (`row_link`); else the row stays (`row_skip`).
use mathlib.Core.Path.{◌≡◌, sym, ◌∙◌}
use native.Mathlib.Omega.{arith}
use Rattle.session.specs.declared.Field.TheVariants.{Kind, LinkTarget}
use Rattle.session.specs.Table.{read}
use Rattle.sound.specs.LinkOf.{row_link, row_skip}
use Rattle.sound.proofs.slots.note_link.Goals as goal

pub returns-then-of_object-eq-TASK : goal.returns-then-of_object-eq-TASK
returns-then-of_object-eq-TASK c =
    let a = c.args in
    let p = c.requires in
    let s = read a.s.now in
    let e = c.of_link-target.ensures in
    let d = c.of_link-slot.ensures in
    let t : s Kind (s LinkTarget a.l) ≡ 2 = rw e at (sym c.of_object.ensures ∙ c.if-of_object-eq-TASK.true) in
    rw (e, d) (row_link s a.row.now a.l p.3 p.0 t (omega (arith, p.1, p.2)))

pub returns-else-of_object-eq-TASK : goal.returns-else-of_object-eq-TASK
returns-else-of_object-eq-TASK c =
    let a = c.args in
    let e = c.of_link-target.ensures in
    row_skip (read a.s.now) a.row.now a.l c.requires.3 (λ t. c.if-of_object-eq-TASK.false (c.of_object.ensures ∙ rw e t))
