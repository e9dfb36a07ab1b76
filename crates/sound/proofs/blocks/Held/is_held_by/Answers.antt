-- `sound::blocks::Held::is_held_by` meets its contract: the mark tells of slots (`chosen`), the field of the maker (`test_either`).
use Prim.Native.Nat.{◌+◌, ◌*◌}
use mathlib.Core.Path.{sym, ◌∙◌}
use native.Mathlib.Omega.{arith}
use lib.ListN.{get_or}
use Rattle.session.specs.declared.Field.TheVariants.{Objects, BlockHeld}
use Rattle.session.specs.Table.{read}
use Rattle.rules.specs.Reading.{slot_holds}
use Rattle.rules.specs.Formula.{Formula.◌≐◌, Formula.some}
use Rattle.sound.specs.Held.{held_flag}
use Rattle.rules.specs.Bools.{chosen, test_either, test_eq}
use Rattle.sound.proofs.blocks.Held.is_held_by.Goals as goal

pub returns : goal.returns
unfolding held_flag
returns c =
    let a = c.args in
    let s = read a.self.now.s.now in
    let f = some (16 * (s Objects 0 + 1)) (slot_holds s a.b) in
    let q = chosen (get_or a.self.now.marks.now a.b 0) f (a.self.now.noted.entry a.b (omega arith)) in
    rw (c.of_object-made.ensures, q) (sym (test_either f (s BlockHeld a.b ≐ 1) ∙ rw (test_eq (s BlockHeld a.b) 1)))
