-- `sound::unused::is_empty` meets its contract: the kind compared with 0, and the answers of five callees (`simp` with Bools).
use Rattle.sound.proofs.Bools.{bools}
use Rattle.sound.proofs.unused.is_empty.Goals as goal

pub returns : goal.returns
returns c =
    simp (
      c.task_part.ensures,
      c.template_part.ensures,
      c.of_object.ensures,
      c.are_no_slots.ensures,
      c.block_part.ensures,
      c.event_part.ensures,
      bools,
    )
