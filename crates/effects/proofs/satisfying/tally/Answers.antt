-- `effects::satisfying::tally` meets its contract: the new tally is put, and at the count 0 the event is fired behind it
-- (`choose_yes`, `wrote_next`), else not (`choose_no`).
use Rattle.session.specs.Table.{put}
use Rattle.rules.specs.FormulaLaws.{choose_yes, choose_no}
use Rattle.rules.specs.Effects.{fire_one, tally}
use Rattle.effects.specs.Satisfying.{next_tally}
use Rattle.laws.specs.Puts.{wrote_next}
use Rattle.effects.proofs.satisfying.tally.Goals as goal

pub fire_one-requires : goal.fire_one-requires
unfolding put
fire_one-requires c =
    let p = c.requires.0 in
    let w = c.set.ensures.reading in
    (p.handle, rw w p.links, rw w p.no_more)

pub returns-then-n-eq-EVEN_TALLY : goal.returns-then-n-eq-EVEN_TALLY
unfolding tally next_tally
returns-then-n-eq-EVEN_TALLY c =
    rw (← c.get.ensures, ← c.next_tally-n.ensures, choose_yes _ _ _ c.if-n-eq-EVEN_TALLY.true)
    (wrote_next (λ r. fire_one r c.args.e 0) c.set.ensures
    c.fire_one.ensures)

pub returns-else-n-eq-EVEN_TALLY : goal.returns-else-n-eq-EVEN_TALLY
unfolding tally next_tally
returns-else-n-eq-EVEN_TALLY c =
    rw (← c.get.ensures, ← c.next_tally-n.ensures, choose_no _ _ _ c.if-n-eq-EVEN_TALLY.false) c.set.ensures
