-- `sound::objects::event_part` meets its contract: six numbers are read, callees judge count, type and payload (`simp` with Bools).
use Rattle.sound.proofs.Bools.{bools}
use Rattle.sound.proofs.objects.event_part.Goals as goal

pub returns : goal.returns
returns c =
    simp (
      c.is_payload.ensures,
      c.is_event_type.ensures,
      c.is_link_count.ensures,
      c.of_object-is.ensures,
      c.of_object-links.ensures,
      c.of_object-tally.ensures,
      c.of_object-payload.ensures,
      c.of_object-kind.ensures,
      c.of_object-state.ensures,
      bools,
    )
