-- `checks::granting::has_claim` meets its contract: no slot before j is a claim, so one that is decides (`right`), and at the
-- count there is none (`wrong`).
use Rattle.checks.specs.Scan.{through-more, through_none}
use Rattle.reading.specs.TestLaws.{no, right, wrong, yes}
use native.Mathlib.Omega.{arith}
use Rattle.checks.proofs.granting.has_claim.Goals as goal

pub loop-j-init : goal.loop-j-init
loop-j-init c = through_none _

pub returns-then-is_claim : goal.returns-then-is_claim
returns-then-is_claim c =
    right _ (c.loop-j.j, omega arith, rw c.slot_of.ensures at (yes _ c.is_claim.ensures c.if-is_claim.true))

pub loop-j-preserved : goal.loop-j-preserved
loop-j-preserved c =
    through-more _ _ c.loop-j.invariant (rw c.slot_of.ensures at (no _ c.is_claim.ensures c.if-is_claim.false))

pub returns : goal.returns
returns c = wrong _ (λ x. c.loop-j.invariant.all x.0 (let y = x.1 in omega arith) x.2)
