-- `class::steps::take` meets its contract: a step on the first words and bytes of the memories is one on them.
use Rattle.session.specs.First.{read_first}
use Rattle.class.specs.Stepped.{took_first}
use Rattle.class.proofs.steps.take.Goals as goal

pub take_step-requires-clause-kept : goal.take_step-requires-clause-kept
take_step-requires-clause-kept c = rw (c.in-Some.ensures.cases.same, read_first) c.requires.lent.1

pub returns : goal.returns
returns c =
    took_first _ _ _ _ _ _ _ _ _ c.requires.lent.0 c.requires.lent.2
    (rw (c.in-Some.ensures.cases.same, c.in-Some-first_chunk_mut.ensures.cases.same) at c.take_step.ensures)
