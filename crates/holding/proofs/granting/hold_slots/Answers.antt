-- `holding::granting::hold_slots` meets its contract: the slots before j are swept: at first nothing has changed (`own_begin`),
-- each turn is one row more (`row_next`), and 16 are all (`granted-end`).
use native.Mathlib.Omega.{arith}
use native.Mathlib.Nat.{add_assoc}
use Rattle.session.specs.Table.{read}
use Rattle.session.specs.TableLaws.{wrote_none, wrote_then}
use Rattle.holding.specs.SweepRows.{row_next, own_begin}
use Rattle.holding.specs.GrantedSlots.{grant_row, grant_row-other, granted-end}
use Rattle.holding.proofs.granting.hold_slots.Goals as goal

pub loop-j-init : goal.loop-j-init
loop-j-init c =
    let a = c.args in (
      omega arith,
      rw
          (own_begin (read a.s.now) a.t (grant_row a.t) (grant_row-other (read a.s.now) a.t)) (wrote_none _),
    )

pub loop-j-preserved : goal.loop-j-preserved
loop-j-preserved c =
    let f = c.hold_slot in
    let i = c.loop-j.invariant in
    (i.0, rw (← add_assoc, ← row_next _ _ _ _ _ i.1.reading) (wrote_then i.1 f.ensures))

pub returns : goal.returns
returns c =
    let l = c.loop-j in
    rw (← granted-end _ _ l.j (omega arith)) l.invariant.1
