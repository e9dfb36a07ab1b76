-- `reading::counted::leads_from` meets its contract: the source is read, and the comparison is the formula's test (`equals`).
use Rattle.reading.specs.TestLaws.{equals}
use Rattle.reading.proofs.counted.leads_from.Goals as goal

pub returns : goal.returns
returns c = rw c.of_link.ensures (equals _ _)
