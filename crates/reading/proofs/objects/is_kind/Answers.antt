-- `reading::objects::is_kind` meets its contract: the kind is read, and the comparison is the formula's test (`equals`).
use Rattle.reading.specs.TestLaws.{equals}
use Rattle.reading.proofs.objects.is_kind.Goals as goal

pub returns : goal.returns
returns c = rw c.of_object.ensures (equals _ _)
