-- `sound::blocks::mark_all_held` meets its contract: zeros are the row at 0 (`held_none`); `mark_held` leads from i to i + 1.
use Rattle.session.specs.Table.{read}
use Rattle.sound.specs.Held.{held_none}
use Rattle.sound.proofs.blocks.mark_all_held.Goals as goal

pub loop-i-init : goal.loop-i-init
loop-i-init c = held_none (read c.args.v.now.s.now) _ c.requires
