-- `retiring::finishing::fire_above` meets its contract: before the climb nothing is marked (`climbed_none`), and what it found is what
-- `fire_found` fires; it counts the steps.
use native.Mathlib.Omega.{arith}
use Rattle.ancestors.specs.Above.{shows_zeros}
use Rattle.retiring.specs.Climb.{climbed_none}
use Rattle.retiring.proofs.finishing.fire_above.Goals as goal

pub mark_all-requires : goal.mark_all-requires
mark_all-requires c = let p = c.requires in (p.0.frame.few, p.0.frame.falls, shows_zeros)

pub climb-requires : goal.climb-requires
climb-requires c =
    let p = c.requires in
    let known = p.3.known in
    let few = p.0.frame.few in
    (p.0, p.1, p.2, c.mark_all.ensures, climbed_none _ _ p.3, omega arith)

pub returns : goal.returns
returns c = record { wrote = c.fire_found.ensures; answer = omega (arith, c.climb.ensures.steps) }
