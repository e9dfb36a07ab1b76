-- `reading::counted::is_served_from` meets its contract: source and state are read, one after the other (`simp` with Bools).
use Rattle.rules.specs.Bools.{test-both, test_eq}
use Rattle.reading.proofs.counted.is_served_from.Goals as goal

pub returns : goal.returns
returns c = simp (c.of_link.ensures, c.leads_from.ensures, test-both, test_eq)
