-- `effects::satisfying::satisfy` meets its contract: a sound session that meets the checks is one whose event may be triggered
-- (`satisfy-ready`), and the rest is `satisfy_event`'s.
use Rattle.effects.specs.Ready.{satisfy-ready}
use Rattle.effects.proofs.satisfying.satisfy.Goals as goal

pub satisfy_event-requires : goal.satisfy_event-requires
satisfy_event-requires c = satisfy-ready _ _ _ _ _ c.requires.0 c.requires.1
