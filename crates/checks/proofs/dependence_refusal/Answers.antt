-- `checks::dependence_refusal` meets its contract: the tests of checks 7 to 13 in turn, and what is left of the checks is what
-- `satisfy_or_link_refusal` answers.
use native.Mathlib.Omega.{arith}
use Rattle.rules.specs.Bools.{tests}
use Rattle.reading.specs.TestLaws.{yes}
use Rattle.rules.specs.Bools.{test_le, test-both, test-not}
use Rattle.rules.specs.Checks.{refusal}
use Rattle.checks.proofs.dependence_refusal.Goals as goal

pub returns-then-mode-lt-RO : goal.returns-then-mode-lt-RO
unfolding refusal
returns-then-mode-lt-RO c = grind (arith, test_le, test-both)

pub returns-then-not-is_made_or_null : goal.returns-then-not-is_made_or_null
unfolding refusal
returns-then-not-is_made_or_null c = grind (arith, tests)

pub has_slot-requires : goal.has_slot-requires
has_slot-requires c = yes _ c.is_destination.ensures c.if-not-is_destination.false

pub returns : goal.returns
unfolding refusal
returns c = grind (arith, test_le, test-both, test-not)
