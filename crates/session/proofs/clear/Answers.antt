-- `session::clear` meets its contract: all zeros are the empty session, and nothing stands past them (`filled_empty`).
use Rattle.session.specs.FreshLaws.{filled_empty}
use Rattle.session.proofs.clear.Goals as goal

pub returns : goal.returns
returns c = filled_empty c.args.s.now c.fill.new.self c.told-s (c.fill.ensures.after (λ y e. e))
