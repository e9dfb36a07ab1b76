-- `tally::raised` meets its contract: each of the four counts by `capped`, put together by `raise-each`.
use Rattle.tally.specs.Raise.{raise-each}
use Rattle.tally.proofs.raised.Goals as goal

pub returns : goal.returns
returns c =
    let a = c.args in
    raise-each a.tally a.counts _ _ _ _
    c.capped.ensures c.capped-2.ensures c.capped-3.ensures
    c.capped-4.ensures
