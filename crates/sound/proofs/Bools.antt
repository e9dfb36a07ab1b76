-- The test of a formula by the connectives on Booleans: what `simp` rewrites in the answers on one place.
use Rattle.rules.specs.Bools.{test-not, test-both, test_either, test_implies, test_eq, test_le, test_lt}

pub ruleset bools = (test-not, test-both, test_either, test_implies, test_eq, test_le, test_lt)
