-- `checks::handles::first_words` meets its contract: what the first words say is what the memory says (`read_first`).
use Rattle.session.specs.First.{read_first}
use Rattle.checks.proofs.handles.first_words.Goals as goal

pub returns : goal.returns
returns c = rw c.in-Some.ensures.cases.same (read_first c.args.s.now)
