-- `sound::holders::note_held` meets its contract: the joined holder in its cell makes the row of i + 1 slots (`holders_more`).
use Prim.Native.Nat.{◌/◌, ◌<◌}
use native.Mathlib.Omega.{arith}
use Rattle.session.specs.Names.{object_places}
use Rattle.session.specs.Table.{read}
use Rattle.laws.specs.SlotPlaces.{place_owner}
use Rattle.sound.specs.HolderTable.{holders_more}
use Rattle.sound.proofs.holders.note_held.Goals as goal

pub returns : goal.returns
returns c =
    let a = c.args in
    let s = read a.s.now in
    let h = c.requires.2 in
    let t : a.i / 16 < object_places = place_owner object_places a.i c.requires.0 in
    rw (c.join.ensures, c.of_slot-b.ensures, c.of_slot-mode.ensures)
    (holders_more s a.row.now a.i c.requires.3 c.requires.1 h.block h.mode.0 h.mode.1 h.task_low (omega arith))
