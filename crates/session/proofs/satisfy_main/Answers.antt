-- `session::satisfy_main` meets its contract: its three writes to slot 32, one after another (`wrote_more`).
use Rattle.session.specs.Names.{mode_rw, satisfied}
use Rattle.session.specs.Table.{at}
use Rattle.session.specs.Fresh.{fresh_session}
use Rattle.session.specs.TableLaws.{wrote_none, wrote_more}
use Rattle.session.specs.declared.Field.TheVariants.{SlotMode, SlotMark, SlotPayload}
use Rattle.session.proofs.satisfy_main.Goals as goal

pub returns : goal.returns
unfolding fresh_session
returns c =
    wrote_more SlotPayload (at 2 0) 1
    (wrote_more SlotMark (at 2 0) satisfied
    (wrote_more SlotMode (at 2 0) mode_rw (rw c.requires at (wrote_none c.args.s.now)) c.set.ensures)
    c.set-2.ensures)
    c.set-3.ensures
