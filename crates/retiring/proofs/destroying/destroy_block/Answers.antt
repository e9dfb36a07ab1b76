-- `retiring::destroying::destroy_block` meets its contract: what `let_go_block` wrote and the fate put behind it (`wrote_next`)
-- are `destroy_block` (`destroy_block-parts`); letting go leaves what `fate_of` requires.
use Rattle.session.specs.Table.{read, put}
use Rattle.session.specs.declared.Field.TheVariants.{BlockState}
use Rattle.laws.specs.Puts.{wrote_next}
use Rattle.holding.specs.Letting.{active_release}
use Rattle.retiring.specs.RetiringParts.{fate, few_release, destroy_block-parts}
use Rattle.retiring.proofs.destroying.destroy_block.Goals as goal

pub fate_of-state-requires : goal.fate_of-state-requires
fate_of-state-requires c =
    let p = c.requires in
    let a = c.args in
    let w = c.let_go_block.ensures in (
      rw (← w.reading) at (few_release (read a.s.now) a.t a.b p.0),
      p.3,
      rw
          (← w.reading) at (active_release (read a.s.now) a.t a.b p.5),
    )

pub returns : goal.returns
returns c =
    let a = c.args in
    let w = c.set.ensures in
    rw (← destroy_block-parts (read a.s.now) a.t a.b)
    (wrote_next (λ r. put r BlockState a.b (fate r a.b)) c.let_go_block.ensures
    (rw c.fate_of-state.ensures at c.set.ensures))
