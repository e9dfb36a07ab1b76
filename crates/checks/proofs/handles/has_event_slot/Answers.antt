-- `checks::handles::has_event_slot` meets its contract: the type that is read tells it of an event of a user's (`slot_tested`).
use Rattle.session.specs.Table.{read}
use Rattle.checks.specs.UserEvents.{slot_tested}
use Rattle.checks.proofs.handles.has_event_slot.Goals as goal

pub returns : goal.returns
returns c =
    rw c.of_object.ensures (slot_tested (read c.args.s.now) c.args.e c.args.j c.requires)
