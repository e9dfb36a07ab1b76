-- `decimal::write` meets its contract: the digits of the rest, put at the place, give what the number's digits give.
use Prim.Native.Nat.{◌+◌, ◌≤◌}
use mathlib.Core.Path.{◌≡◌}
use lib.ListN.{length}
use Rattle.number.specs.Number.{splice}
use Rattle.decimal.specs.Decimal.{decimal}
use Rattle.decimal.proofs.write.Given as goal

abbrev pub invariant-loop-rest : goal.invariant-loop-rest
invariant-loop-rest l =
    (length l.out ≡ length l.initial.out)
    × (l.at + length (decimal l.v) ≤ length l.initial.out)
    × (l.end ≡ l.at + length (decimal l.v))
    × (l.last ≡ l.at + length (decimal l.rest))
    × (l.last ≤ l.end)
    × (splice l.out l.at (decimal l.rest) ≡ splice l.initial.out l.at (decimal l.v))

abbrev pub decreases-loop-rest : goal.decreases-loop-rest
decreases-loop-rest l = l.rest
