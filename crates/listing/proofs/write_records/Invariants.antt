-- `listing::write_records` meets its contract: the text of the records that are left, put from the used length on, gives what the
-- text of all gives.
use Prim.Native.Nat.{◌+◌, ◌-◌, ◌≤◌}
use mathlib.Core.Path.{◌≡◌}
use lib.ListN.{length}
use Rattle.number.specs.Number.{splice}
use Rattle.listing.specs.ListingLaws.{left}
use Rattle.listing.proofs.write_records.Given as goal

abbrev pub invariant-loop-at : goal.invariant-loop-at
invariant-loop-at l =
    (l.k ≤ l.at)
    × (length l.out ≡ length l.initial.out)
    × (l.start + length (left l.sheet 1 l.first) ≤ length l.initial.out)
    × (l.used + length (left l.sheet l.k l.at) ≡ l.start + length (left l.sheet 1 l.first))
    × (splice l.out l.used (left l.sheet l.k l.at) ≡ splice l.initial.out l.start (left l.sheet 1 l.first))

abbrev pub decreases-loop-at : goal.decreases-loop-at
decreases-loop-at l = length l.sheet - l.at
