-- `sound::holders::does_clash` meets its contract: by what the row says of other holders in RW, EW and CONST (`clashes_found`).
use Prim.Native.Nat.{◌/◌, ◌≤◌, ◌<◌}
use mathlib.Core.Path.{◌∙◌}
use native.Mathlib.Omega.{arith}
use Rattle.session.specs.Names.{most_objects, object_places}
use Rattle.session.specs.declared.Field.TheVariants.{SlotPayload}
use Rattle.session.specs.Table.{read}
use Rattle.laws.specs.SlotPlaces.{place_owner}
use Rattle.sound.specs.HolderTable.{clashes_found}
use Rattle.sound.proofs.holders.does_clash.Goals as goal

pub returns : goal.returns
returns c =
    let a = c.args in
    let s = read a.s.now in
    let h = c.requires.1 in
    let e = c.of_slot-b.ensures in
    let t : a.i / 16 < object_places = place_owner object_places a.i c.requires.0 in
    let u : a.i / 16 ≤ most_objects = omega arith in
    rw (
      c.conflicts.ensures,
      c.conflicts-2.ensures,
      c.conflicts-3.ensures,
      c.of_slot-mode.ensures,
    )
    (clashes_found s a.i _ _ _ c.requires.2.modes
    (c.is_other.ensures ∙ rw e
    (c.requires.2.says (s SlotPayload a.i) 1 (a.i / 16) h.block (omega arith) u))
    (c.is_other-2.ensures ∙ rw e
    (c.requires.2.says (s SlotPayload a.i) 2 (a.i / 16) h.block (omega arith) u))
    (c.is_other-3.ensures ∙ rw e (c.requires.2.says (s SlotPayload a.i) 3 (a.i / 16) h.block (omega arith) u)))
