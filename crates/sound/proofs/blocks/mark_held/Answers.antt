-- `sound::blocks::mark_held` meets its contract: a held block with a place is marked (`held_yes`); else as before (`held_no`).
use mathlib.Core.Path.{◌≡◌, sym, ◌∙◌}
use native.Mathlib.Omega.{arith}
use Rattle.session.specs.declared.Field.TheVariants.{SlotMark}
use Rattle.session.specs.Table.{read}
use Rattle.sound.specs.Held.{held_yes, held_no}
use Rattle.sound.proofs.blocks.mark_held.Goals as goal

pub returns-then-payload-le-MOST_OBJECTS : goal.returns-then-payload-le-MOST_OBJECTS
returns-then-payload-le-MOST_OBJECTS c =
    let a = c.args in
    let s = read a.s.now in
    let e = c.of_slot-payload.ensures in
    let m : s SlotMark a.i ≡ 2 = sym c.of_slot.ensures ∙ c.if-of_slot-eq-HELD.true in
    let l = rw e at c.if-payload-le-MOST_OBJECTS.true in
    rw e (held_yes s a.row.now a.i c.requires m (omega arith))

pub returns-else-payload-le-MOST_OBJECTS : goal.returns-else-payload-le-MOST_OBJECTS
returns-else-payload-le-MOST_OBJECTS c =
    let a = c.args in
    let e = c.of_slot-payload.ensures in
    held_no (read a.s.now) a.row.now a.i c.requires (λ m l. omega (arith, e, l, c.if-payload-le-MOST_OBJECTS.false))

pub returns-else-of_slot-eq-HELD : goal.returns-else-of_slot-eq-HELD
returns-else-of_slot-eq-HELD c =
    let a = c.args in
    held_no (read a.s.now) a.row.now a.i c.requires (λ m l. c.if-of_slot-eq-HELD.false (c.of_slot.ensures ∙ m))
