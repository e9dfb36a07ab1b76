-- `effects::firing::fire_one` meets its contract: the state and the payload are put, and then the links set; the three together
-- are `fire_one` (`fire_one-words`).
use Rattle.session.specs.Table.{read, put}
use Rattle.session.specs.TableLaws.{wrote_more, wrote_none}
use Rattle.session.specs.Names.{fired, ready}
use Rattle.session.specs.declared.Field.TheVariants.{EventState, EventPayload}
use Rattle.effects.specs.OpenLinks.{open_links_set, fire_one-words}
use Rattle.laws.specs.Puts.{wrote_next}
use Rattle.effects.proofs.firing.fire_one.Goals as goal

pub set_open_links-requires : goal.set_open_links-requires
unfolding put
set_open_links-requires c =
    let w = wrote_more EventPayload _ _ (wrote_more EventState _ _ (wrote_none c.args.s.now) c.set.ensures)
    c.set-2.ensures in
    (rw w.reading c.requires.1, rw w.reading c.requires.2)

pub returns : goal.returns
returns c =
    let a = c.args in
    let w = wrote_more EventPayload a.e a.p
    (wrote_more EventState a.e fired (wrote_none a.s.now) c.set.ensures) c.set-2.ensures in
    rw (← fire_one-words (read a.s.now) a.e a.p)
    (wrote_next (λ r. open_links_set r a.e ready) w c.set_open_links.ensures)
