-- `effects::delivering::deliver` meets its contract: with the link's source gone or as it was the link can still be brought
-- (`expire-ready`), and the two writes are `deliver` (`wrote_next`).
use Rattle.rules.specs.Effects.{bring, deliver}
use Rattle.laws.specs.Puts.{wrote_next}
use Rattle.effects.specs.Delivering.{expire-ready}
use Rattle.effects.proofs.delivering.deliver.Goals as goal

pub bring-requires : goal.bring-requires
bring-requires c =
    let ready = expire-ready _ _ c.requires.0 c.requires.1 in
    let now = c.expire.ensures.reading in
    (rw now ready.0, rw now ready.1)

pub returns : goal.returns
unfolding deliver
returns c =
    wrote_next (λ r. bring r c.args.l) c.expire.ensures c.bring.ensures
