-- `reading::objects::has_event_slot` meets its contract: of an event its type decides (`event-slot`).
use Rattle.session.specs.Table.{read}
use Rattle.reading.specs.SlotsByKind.{event-slot}
use Rattle.reading.proofs.objects.has_event_slot.Goals as goal

pub returns : goal.returns
returns c =
    rw (c.has_type_slot.ensures, c.of_object.ensures)
    (event-slot (read c.args.s.now) c.args.e c.args.j c.requires.1)
