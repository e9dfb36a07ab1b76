-- `sound::slots::note_links` meets its contract: zeros are the row at link 1 (`row_first`); `note_link` leads from l to l + 1.
use Rattle.session.specs.Names.{slot_places}
use Rattle.session.specs.Table.{read}
use Rattle.sound.specs.LinkOf.{last_link}
use Rattle.sound.specs.Row.{Row}
use Rattle.sound.proofs.slots.note_links.Given as goal

abbrev pub invariant-loop-l : goal.invariant-loop-l
invariant-loop-l l = Row l.row slot_places (last_link (read l.s) l.l)
