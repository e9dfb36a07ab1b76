-- `session::write_fresh` meets its contract: short memory stays (`leaves_short`); what is written into the first words of long memory is
-- written into it (`wrote_first`).
use mathlib.Core.Path.{refl}
use borrow.Author.Tests.{lt-leb, le-leb}
use Rattle.session.specs.Table.{words}
use Rattle.session.specs.First.{wrote_first}
use Rattle.session.specs.Fresh.{fresh_session}
use Rattle.session.specs.FreshLaws.{leaves_short, leaves-written}
use Rattle.session.proofs.write_fresh.Goals as goal

pub returns-in_default-clause-answer : goal.returns-in_default-clause-answer
returns-in_default-clause-answer c = rw (lt-leb words _ c.in_default.ensures.cases) refl

pub returns-in_default-clause-memory : goal.returns-in_default-clause-memory
returns-in_default-clause-memory c = leaves_short _ fresh_session c.in_default.ensures.cases

pub returns-clause-answer : goal.returns-clause-answer
returns-clause-answer c = rw (le-leb words _ c.in-Some.ensures.cases.enough) refl

pub returns-clause-memory : goal.returns-clause-memory
returns-clause-memory c =
    let chunk = c.in-Some.ensures.cases in
    leaves-written chunk.enough (wrote_first _ _ _ chunk.enough (rw chunk.same at c.put_fresh.ensures))
