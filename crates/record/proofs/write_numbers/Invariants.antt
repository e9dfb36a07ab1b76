-- `record::write_numbers` meets its contract: the first fields are written behind the code.
use lib.ListN.{length, get_or}
use Rattle.record.proofs.WriteSteps.{Put}
use Rattle.record.proofs.write_numbers.Given as goal

abbrev pub invariant-loop-field : goal.invariant-loop-field
invariant-loop-field l = Put l.initial.out l.initial.at (λ j. get_or l.fields j 0) (length l.fields) l.field-index l.out l.at
