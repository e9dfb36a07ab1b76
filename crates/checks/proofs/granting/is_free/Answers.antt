-- `checks::granting::is_free` meets its contract: what the first words say is what the memory says (`read_first`).
use Rattle.session.specs.First.{read_first}
use Rattle.checks.proofs.granting.is_free.Goals as goal

pub is_unstopped-requires : goal.is_unstopped-requires
is_unstopped-requires c = rw (c.in-Some.ensures.cases.same, read_first c.args.s.now) (c.requires.1, c.requires.2, c.requires.3)

pub returns : goal.returns
returns c = rw (c.in-Some.ensures.cases.same, read_first c.args.s.now) at c.is_unstopped.ensures
