-- `sound::blocks::mark_all_held` meets its contract: zeros are the row at 0 (`held_none`); `mark_held` leads from i to i + 1.
use Rattle.session.specs.Names.{object_places}
use Rattle.session.specs.Table.{read}
use Rattle.sound.specs.Held.{held_flag}
use Rattle.sound.specs.Row.{Row}
use Rattle.sound.proofs.blocks.mark_all_held.Given as goal

abbrev pub invariant-loop-i : goal.invariant-loop-i
invariant-loop-i l = Row l.row object_places (held_flag (read l.s) l.i)
