-- `sound::slots::note_links` meets its contract: zeros are the row at link 1 (`row_first`); `note_link` leads from l to l + 1.
use Rattle.session.specs.Table.{read}
use Rattle.sound.specs.LinkOf.{row_first}
use Rattle.sound.proofs.slots.note_links.Goals as goal

pub loop-l-init : goal.loop-l-init
loop-l-init c = row_first (read c.args.v.now.s.now) _ c.requires.none
