-- `holding::letting::let_go_all` meets its contract: the three parts, one behind the other (`wrote_next`), are `let_go`
-- (`let_go_all`); each leaves what the next requires (`after-slots`, `after-made`, `active_made`).
use Rattle.session.specs.Table.{read}
use Rattle.rules.specs.Effects.{bury_doomed}
use Rattle.laws.specs.Puts.{wrote_next}
use Rattle.holding.specs.Letting.{made_let_go, after-slots, after-made, active_made, let_go_all}
use Rattle.holding.proofs.letting.let_go_all.Goals as goal

pub drop_all_made-requires : goal.drop_all_made-requires
drop_all_made-requires c =
    let a = c.args in
    let w = c.drop_slots.ensures in
    let y = rw (← w.reading) at (after-slots (read a.s.now) a.t 0 c.requires.0 c.requires.2) in
    (y.0, y.1)

pub bury_all-requires : goal.bury_all-requires
bury_all-requires c =
    let a = c.args in
    let w = wrote_next (λ r. made_let_go r a.t) c.drop_slots.ensures c.drop_all_made.ensures in
    let y = rw (← w.reading) at (after-made (read a.s.now) a.t 0 c.requires.0 c.requires.3) in (
      y.0,
      y.1,
      rw (← w.reading) at
          (active_made (read a.s.now) a.t 0 c.requires.4),
    )

pub returns : goal.returns
returns c =
    let a = c.args in
    rw (let_go_all (read a.s.now) a.t)
    (wrote_next bury_doomed (wrote_next (λ r. made_let_go r a.t) c.drop_slots.ensures c.drop_all_made.ensures)
    c.bury_all.ensures)
