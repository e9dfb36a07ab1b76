-- `sound::objects::is_object` meets its contract: the kind's range, and the answers of the four parts (`simp` with Bools).
use Rattle.sound.proofs.Bools.{bools}
use Rattle.sound.proofs.objects.is_object.Goals as goal

pub returns : goal.returns
returns c =
    simp (
      c.block_part.ensures,
      c.event_part.ensures,
      c.task_part.ensures,
      c.template_part.ensures,
      c.of_object-kind.ensures,
      bools,
    )
