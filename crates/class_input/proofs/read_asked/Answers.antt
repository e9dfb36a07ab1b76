-- `class_input::read_asked` meets its contract: slices of just the arrays' lengths are those arrays.
use Rattle.class_input.proofs.read_asked.Goals as goal

pub returns-clause-given : goal.returns-clause-given
returns-clause-given g c = rw (c.in-Some.ensures.cases.same, c.in-Some-as_mut_array.ensures.cases.same) at c.read_into.ensures.given

pub returns-clause-stays : goal.returns-clause-stays
returns-clause-stays g c = rw (c.in-Some.ensures.cases.same, c.in-Some-as_mut_array.ensures.cases.same) at c.read_into.ensures.stays
