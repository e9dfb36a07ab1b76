-- `sound::counted::note_sources` meets its contract: zeros are the rows at link 0 (`none_made`, `none_served`); `note_source` leads from
-- l to l + 1.
use Rattle.session.specs.Table.{read}
use Rattle.sound.specs.Sources.{Noted}
use Rattle.sound.proofs.counted.note_sources.Given as goal

abbrev pub invariant-loop-l : goal.invariant-loop-l
invariant-loop-l l = Noted (read l.s) l.sources.made l.sources.served l.l
