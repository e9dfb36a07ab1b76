-- `record::is_edition` meets its contract: its two tests are the formula's.
use Rattle.rules.specs.Bools.{test-both, test_le}
use Rattle.record.proofs.is_edition.Goals as goal

pub returns : goal.returns
returns c = simp (test-both, test_le)
