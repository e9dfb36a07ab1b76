-- `checks::granting::has_claim` meets its contract: no slot before j is a claim, so one that is decides (`right`), and at the
-- count there is none (`wrong`).
use Rattle.checks.specs.GrantChecks.{is_claim, slot_at}
use Rattle.checks.specs.Scan.{Through}
use Rattle.rules.specs.Formula.{not}
use Rattle.session.specs.Table.{at, read}
use Rattle.checks.proofs.granting.has_claim.Given as goal

abbrev pub invariant-loop-j : goal.invariant-loop-j
invariant-loop-j l = Through (λ i. not (is_claim (slot_at (read l.s) (at l.t i)))) l.j
