-- `sound::counted::note_sources` meets its contract: zeros are the rows at link 0 (`none_made`, `none_served`); `note_source` leads from
-- l to l + 1.
use Rattle.session.specs.Table.{read}
use Rattle.sound.specs.Sources.{none_made, none_served}
use Rattle.sound.proofs.counted.note_sources.Goals as goal

pub loop-l-init : goal.loop-l-init
loop-l-init c =
    let s = read c.args.v.now.s.now in
    record { made = none_made s _ c.requires.0; served = none_served s _ c.requires.1 }
