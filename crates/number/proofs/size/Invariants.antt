-- `number::size` meets its contract: the bytes counted and those of the rest are one more than the value's, the last byte
-- being counted from the start.
use mathlib.Core.Path.{◌≡◌}
use Prim.Native.Nat.{◌+◌, ◌≤◌}
use lib.ListN.{length}
use Rattle.number.specs.Number.{encode}
use Rattle.number.proofs.size.Given as goal

abbrev pub invariant-loop-rest : goal.invariant-loop-rest
invariant-loop-rest l = (l.n + length (encode l.rest) ≡ 1 + length (encode l.v)) × (l.n + l.rest ≤ l.v + 1)

abbrev pub decreases-loop-rest : goal.decreases-loop-rest
decreases-loop-rest l = l.rest
