-- `sound::holders::note_holder` meets its contract: a hold is noted by `note_held`; else the row is kept (`holders_skip`).
use mathlib.Core.Path.{◌∙◌}
use Rattle.session.specs.Table.{read}
use Rattle.sound.specs.HolderTable.{holders_skip}
use Rattle.sound.proofs.holders.note_holder.Goals as goal

pub returns-else-of_slot-eq-HELD : goal.returns-else-of_slot-eq-HELD
returns-else-of_slot-eq-HELD c =
    let a = c.args in
    holders_skip (read a.s.now) a.row.now a.i c.requires.2 (λ m. c.if-of_slot-eq-HELD.false (c.of_slot.ensures ∙ m))
