-- `engine::play` meets its contract: by the code one of three callees plays the operation, and what each plays is one step
-- of a sound session (`replied`).
use Rattle.engine.specs.Played.{replied}
use Rattle.engine.proofs.play.Goals as goal

pub returns-then-code-lt5 : goal.returns-then-code-lt5
returns-then-code-lt5 c = replied _ _ _ c.args.op c.requires c.make.ensures

pub returns-then-code-lt9 : goal.returns-then-code-lt9
returns-then-code-lt9 c = replied _ _ _ c.args.op c.requires c.call.ensures

pub returns : goal.returns
returns c = replied _ _ _ c.args.op c.requires c.move_on.ensures
