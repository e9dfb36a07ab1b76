-- `sound::holders::are_compatible_by` meets its contract: from i to i + 1, the answer by `each_more`, the row by `note_holder`.
use mathlib.Core.Path.{sym}
use Rattle.session.specs.Table.{read}
use Rattle.sound.specs.HolderTable.{holders_none}
use Rattle.reading.specs.Loops.{each_none, each_more}
use Rattle.sound.proofs.holders.are_compatible_by.Goals as goal

pub loop-i-init : goal.loop-i-init
loop-i-init c = let none = c.requires.none in (sym (each_none _), holders_none (read c.args.v.now.s.now) _ none.size none.entry)

pub loop-i-preserved : goal.loop-i-preserved
loop-i-preserved c =
    let l = c.loop-i in
    (rw (c.is_compatible-ok.ensures, l.invariant.0) (sym (each_more l.i _)), c.note_holder.ensures)
