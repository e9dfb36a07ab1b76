-- `sound::links::is_link` meets its contract: the link and both ends' kinds are read, callees give the rest (`simp` with Bools).
use Rattle.sound.proofs.Bools.{bools}
use Rattle.sound.proofs.links.is_link.Goals as goal

pub returns : goal.returns
returns c =
    simp (
      c.of_object-2.ensures,
      c.is_made-2.ensures,
      c.does_link_agree.ensures,
      c.has_slot.ensures,
      c.is_made.ensures,
      c.is_user_event.ensures,
      c.of_object.ensures,
      c.of_link-slot.ensures,
      c.of_link-target.ensures,
      c.of_link-source.ensures,
      bools,
    )
