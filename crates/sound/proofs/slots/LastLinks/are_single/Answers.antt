-- `sound::slots::LastLinks::are_single` meets its contract: what `is_single` answers, from l to l + 1 (`each_more`), at 1 by
-- `single-first`.
use mathlib.Core.Path.{sym}
use Rattle.session.specs.Table.{read}
use Rattle.sound.specs.LinkOf.{single-first}
use Rattle.reading.specs.Loops.{each_more}
use Rattle.sound.proofs.slots.LastLinks.are_single.Goals as goal

pub loop-l-init : goal.loop-l-init
loop-l-init c = sym (single-first (read c.args.self.now.v.s.now))

pub loop-l-preserved : goal.loop-l-preserved
loop-l-preserved c = let l = c.loop-l in rw (c.is_single-ok.ensures, l.invariant) (sym (each_more l.l _))
