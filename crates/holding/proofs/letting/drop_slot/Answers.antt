-- `holding::letting::drop_slot` meets its contract: the mark put is what `mark_after` gives of the two words read, which is
-- `mark_row` since the slot is one of t's (`mark_row-own`).
use mathlib.Core.Path.{◌≡◌, ◌∙◌}
use Prim.Native.Nat.{◌+◌, ◌*◌}
use Rattle.session.specs.Table.{read}
use Rattle.holding.specs.SweepRows.{row}
use Rattle.holding.specs.Letting.{mark_row, mark_row-own}
use Rattle.holding.proofs.letting.drop_slot.Goals as goal

pub returns : goal.returns
returns c =
    let r = row (read c.args.s.now) (c.args.t * 16 + c.args.j) in
    let v : c.mark_after.result ≡ mark_row c.args.t c.args.b (c.args.t * 16 + c.args.j) r =
    (rw (c.get-mark.ensures, c.get-payload.ensures) at c.mark_after.ensures)
    ∙ mark_row-own c.args.t c.args.b c.args.j r c.requires.1 in
    rw (← v) c.set.ensures
