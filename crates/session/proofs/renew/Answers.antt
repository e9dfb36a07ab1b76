-- `session::renew` meets its contract: what is made of the first words is made of the memory (`wrote_first`).
use Rattle.session.specs.First.{read_first, wrote_first}
use Rattle.session.proofs.renew.Goals as goal

pub renew_tidy-requires : goal.renew_tidy-requires
renew_tidy-requires c = rw (c.in-Some.ensures.cases.same, read_first c.args.s.now) c.requires.1

pub returns-in-Some : goal.returns-in-Some
returns-in-Some c =
    let chunk = c.in-Some.ensures.cases in
    wrote_first _ _ _ chunk.enough (rw chunk.same at c.renew_tidy.ensures)
