-- `number::put_groups` meets its contract: the bytes of the rest, put from the place on, give what the value's bytes give.
use mathlib.Core.Path.{◌≡◌}
use Prim.Native.Nat.{◌+◌}
use lib.ListN.{length}
use Rattle.number.specs.Number.{encode, splice}
use Rattle.number.proofs.put_groups.Given as goal

abbrev pub invariant-loop-rest : goal.invariant-loop-rest
invariant-loop-rest l =
    (length l.out ≡ length l.initial.out)
    × (l.last + length (encode l.rest) ≡ l.at + length (encode l.v))
    × (splice l.out l.last (encode l.rest) ≡ splice l.initial.out l.at (encode l.v))

abbrev pub decreases-loop-rest : goal.decreases-loop-rest
decreases-loop-rest l = l.rest
