-- `sound::slots::Slot::is_claimed_by` meets its contract: three fields are read, and three callees give the rest (`simp` with Bools).
use Rattle.sound.proofs.Bools.{bools}
use Rattle.sound.proofs.slots.Slot.is_claimed_by.Goals as goal

pub returns : goal.returns
returns c =
    simp (
      c.is_payload.ensures,
      c.is_paid_by.ensures,
      c.is_linked_by.ensures,
      c.of_slot-payload.ensures,
      c.of_slot-mark.ensures,
      c.of_slot-mode.ensures,
      bools,
    )
