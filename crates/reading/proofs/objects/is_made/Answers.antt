-- `reading::objects::is_made` meets its contract: the count is read, and the two bounds are the formula (`simp` with Bools).
use Rattle.rules.specs.Bools.{test-both, test_le}
use Rattle.reading.proofs.objects.is_made.Goals as goal

pub returns : goal.returns
returns c = simp (c.get.ensures, test-both, test_le)
