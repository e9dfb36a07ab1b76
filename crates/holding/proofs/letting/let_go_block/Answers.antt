-- `holding::letting::let_go_block` meets its contract: the three parts, one behind the other (`wrote_next`), are `release`, since
-- every doomed block is held (`let_go-one`); the first two leave what `bury` requires (`after_one`, `active_one`).
use Rattle.session.specs.Table.{read, put}
use Rattle.session.specs.declared.Field.TheVariants.{BlockHeld, BlockState}
use Rattle.rules.specs.Effects.{release}
use Rattle.laws.specs.Puts.{wrote_next}
use Rattle.holding.specs.SweepRows.{row}
use Rattle.holding.specs.Letting.{made_row, buried, after_one, active_one, let_go-one}
use Rattle.holding.proofs.letting.let_go_block.Goals as goal

pub bury-requires : goal.bury-requires
bury-requires c =
    let a = c.args in
    let w = wrote_next (λ r. put r BlockHeld a.b (made_row a.t a.b (row r a.b))) c.drop_slots.ensures
    c.drop_made.ensures in (
      rw (← w.reading) at
          (after_one (read a.s.now) a.t a.b c.requires.0),
      c.requires.3,
      rw (← w.reading) at
          (active_one (read a.s.now) a.t a.b c.requires.5),
    )

pub returns : goal.returns
unfolding release
returns c =
    let a = c.args in
    rw (← let_go-one (read a.s.now) a.t a.b c.requires.2 c.requires.4)
    (wrote_next (λ r. put r BlockState a.b (buried r a.b))
    (wrote_next (λ r. put r BlockHeld a.b (made_row a.t a.b (row r a.b))) c.drop_slots.ensures
    c.drop_made.ensures)
    c.bury.ensures)
