-- `ancestors::live::last_live` meets its contract: what the first words say is what the memory says (`read_first`).
use Rattle.session.specs.First.{read_first}
use Rattle.ancestors.proofs.live.last_live.Goals as goal

pub last_live_of-requires : goal.last_live_of-requires
last_live_of-requires c = rw (c.in-Some.ensures.cases.same, read_first c.args.s.now) (c.requires.1, c.requires.2, c.requires.3)

pub returns : goal.returns
returns c = rw (c.in-Some.ensures.cases.same, read_first c.args.s.now) at c.last_live_of.ensures
