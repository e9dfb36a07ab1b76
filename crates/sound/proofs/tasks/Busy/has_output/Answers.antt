-- `sound::tasks::Busy::has_output` meets its contract: h and the one before are read, `is_output_of` does the rest (`simp` with Bools).
use Rattle.sound.proofs.Bools.{bools}
use Rattle.sound.proofs.tasks.Busy.has_output.Goals as goal

pub returns : goal.returns
returns c =
    simp (
      c.is_output_of.ensures,
      c.of_object-4.ensures,
      c.of_object-3.ensures,
      c.of_object-2.ensures,
      c.of_object.ensures,
      c.saturating_sub-b.ensures,
      c.of_object-kind.ensures,
      bools,
    )
