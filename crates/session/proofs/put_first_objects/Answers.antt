-- `session::put_first_objects` meets its contract: its six writes into the empty session, one after another (`wrote_more`).
use Rattle.session.specs.Names.{block, task, fresh, resolved}
use Rattle.session.specs.Fresh.{first_objects}
use Rattle.session.specs.TableLaws.{wrote_none, wrote_more}
use Rattle.session.specs.declared.Field.TheVariants.{Objects, Kind, TaskState, TaskSlots, BlockState}
use Rattle.session.proofs.put_first_objects.Goals as goal

pub returns : goal.returns
unfolding first_objects
returns c =
    wrote_more TaskSlots 2 1
    (wrote_more TaskState 2 resolved
    (wrote_more BlockState 1 fresh
    (wrote_more Kind 2 task
    (wrote_more Kind 1 block
    (wrote_more Objects 0 2 (rw c.requires at (wrote_none c.args.s.now)) c.set.ensures) c.set-2.ensures)
    c.set-3.ensures)
    c.set-4.ensures)
    c.set-5.ensures)
    c.set-6.ensures
