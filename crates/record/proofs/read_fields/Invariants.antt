-- `record::read_fields` meets its contract: the first fields are passed, and a bad one among them is remembered.
use mathlib.Core.Bool.{cond}
use mathlib.Core.List.{◌++◌}
use lib.ListN.{drop}
use Rattle.record.proofs.ReadSteps.{Passed, blank}
use Rattle.record.proofs.read_fields.Given as goal

abbrev pub invariant-loop-field : goal.invariant-loop-field
invariant-loop-field l =
    Passed l.bytes l.first l.field-index (l.field-items ++ drop l.n blank) (cond l.bad 4 0) l.next
