-- `holding::letting::drop_slots` meets its contract: the slots before j are swept: at first nothing has changed (`own_begin`),
-- each turn is one row more (`row_next`), and 16 are all (`slots_end`).
use Rattle.holding.specs.SweepRows.{row_next, own_begin}
use Rattle.holding.specs.Letting.{mark_row, mark_row-other, slots_end}
use native.Mathlib.Omega.{arith}
use native.Mathlib.Nat.{add_assoc}
use Rattle.session.specs.Table.{read}
use Rattle.session.specs.TableLaws.{wrote_none, wrote_then}
use Rattle.holding.proofs.letting.drop_slots.Goals as goal

pub loop-j-init : goal.loop-j-init
loop-j-init c =
    let a = c.args in (
      omega arith,
      rw
          (own_begin (read a.s.now) a.t (mark_row a.t a.b) (mark_row-other (read a.s.now) a.t a.b)) (wrote_none _),
    )

pub loop-j-preserved : goal.loop-j-preserved
loop-j-preserved c =
    let f = c.drop_slot in
    let l = c.loop-j in
    let i = l.invariant in
    (i.0, rw (← add_assoc, ← row_next _ _ _ _ _ i.1.reading) (wrote_then i.1 f.ensures))

pub returns : goal.returns
returns c =
    let l = c.loop-j in
    rw (← slots_end _ _ _ l.j (omega arith)) l.invariant.1
