-- `sheet_counts::count_fresh` meets its contract: the first words of the memory are the session, and what is left in them is left in the
-- memory (`read_first`, `wrote_first`).
use Rattle.session.specs.First.{read_first, wrote_first}
use Rattle.sheet_counts.proofs.count_fresh.Goals as goal

pub count_on_fresh-requires : goal.count_on_fresh-requires
count_on_fresh-requires c = rw (c.in-Some.ensures.cases.same, read_first c.args.memory.now) c.requires.1

pub returns : goal.returns
returns c =
    let ws = c.args.memory.now in
    let x = c.count_on_fresh.ensures in
    record { counts = x.counts; session = wrote_first ws _ _ c.requires.0 (rw c.in-Some.ensures.cases.same at x.session) }
