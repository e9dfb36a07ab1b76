-- `sound::slots::Slot::is_slot_by` meets its contract: a slot there is unclaimed or claimed (`slot_there`), else none (`slot_nowhere`).
use mathlib.Core.Path.{sym, ◌∙◌}
use Rattle.session.specs.Table.{read}
use Rattle.sound.specs.LinkOf.{slot_there, slot_nowhere}
use Rattle.sound.proofs.slots.Slot.is_slot_by.Goals as goal

pub returns-then-there : goal.returns-then-there
returns-then-there c =
    let a = c.args.self.now in
    let e = rw (c.of_object-n.ensures, c.of_object-is_task.ensures) at c.if-there.true in
    rw (c.is_claimed_by.ensures, c.is_unclaimed_by.ensures)
    (sym (slot_there (read a.s.now) a.m a.h a.j e))

pub returns : goal.returns
returns c =
    let a = c.args.self.now in
    let e = rw (c.of_object-n.ensures, c.of_object-is_task.ensures) at c.if-there.false in
    c.is_no_slot.ensures ∙ sym (slot_nowhere (read a.s.now) a.m a.h a.j e)
