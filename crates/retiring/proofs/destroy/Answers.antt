-- `retiring::destroy` meets its contract: what is left in the first words is left in the memory (`made_first`).
use Rattle.session.specs.First.{read_first}
use Rattle.effects.specs.MadeFirst.{made_first}
use Rattle.retiring.proofs.destroy.Goals as goal

pub destroy_object-requires : goal.destroy_object-requires
destroy_object-requires c = rw (c.in-Some.ensures.cases.same, read_first c.args.s.now) (c.requires.1, c.requires.2)

pub returns : goal.returns
returns c =
    let ws = c.args.s.now in
    made_first ws c.requires.0 (rw (c.in-Some.ensures.cases.same, read_first ws) at c.destroy_object.ensures)
