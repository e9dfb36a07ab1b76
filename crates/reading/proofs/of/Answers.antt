-- `reading::of` meets its contract: past the last place `read` is 0, by its definition; else it is what `get` answers.
use borrow.Author.Tests.{le-ltb}
use Rattle.session.specs.Table.{read}
use Rattle.reading.proofs.of.Goals as goal

pub returns-then-i : goal.returns-then-i
unfolding read
returns-then-i g c = rw (c.requires.1, le-ltb _ _ c.if-i.true)
