-- `engine::apply_sound` meets its contract: what was played on the first words was played on the memory (`replied_first`).
use Rattle.session.specs.First.{read_first}
use Rattle.engine.specs.Played.{replied_first}
use Rattle.engine.proofs.apply_sound.Goals as goal

pub play-requires : goal.play-requires
play-requires c = rw (c.in-Some.ensures.cases.same, read_first c.args.memory.now) c.requires.1

pub returns : goal.returns
returns c = replied_first c.args.memory.now _ _ c.args.op c.requires.0 (rw c.in-Some.ensures.cases.same at c.play.ensures)
