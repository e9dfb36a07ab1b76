-- `checks::granting::is_unstopped` meets its contract: each slot before j is free, and for slot j no hold before number q clashes; a
-- claim scanned to the end is free (`free_scanned`), no claim is free (`free_unclaimed`), and a clash decides against (`taken`).
use Prim.Native.Nat.{◌*◌, ◌-◌, ◌≤◌, ◌<◌}
use Rattle.checks.specs.GrantChecks.{slot_at}
use Rattle.checks.specs.Scan.{Scanned, Through}
use Rattle.checks.specs.HolderList.{Listed, reach}
use Rattle.rules.specs.Checks.{slot_free}
use Rattle.session.specs.Names.{slot_places}
use Rattle.session.specs.Table.{at, read}
use Rattle.session.specs.declared.Field.TheVariants.{Objects}
use Rattle.checks.proofs.granting.is_unstopped.Given as goal

abbrev pub invariant-loop-q : goal.invariant-loop-q
invariant-loop-q l =
    Listed (read l.s) l.holders.handles l.holders.found × (l.q ≤ 16 * l.holders.found)
    × (16 * l.holders.found ≤ l.q → read l.s Objects 0 < reach l.holders.handles l.holders.found)
    × Scanned (read l.s) l.t (slot_at (read l.s) (at l.t l.j)) l.holders.handles l.q

abbrev pub decreases-loop-q : goal.decreases-loop-q
decreases-loop-q l = slot_places - l.q

abbrev pub invariant-loop-j : goal.invariant-loop-j
invariant-loop-j l =
    Listed (read l.s) l.holders.handles l.holders.found × Through (λ i. slot_free (read l.s) l.t (at l.t i)) l.j
