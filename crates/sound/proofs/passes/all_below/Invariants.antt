-- `sound::passes::all_below` meets its contract: the answer so far is that of `each` below i, for every formula that the calls answer.
use Rattle.std.proofs.Common.{◌≡◌, ℕ, ◌<◌, Bool}
use Rattle.rules.specs.Formula.{Formula, test}
use Rattle.rules.specs.Formula.Formula.{each}
use Rattle.sound.proofs.passes.all_below.Given as goal

abbrev pub invariant-loop-i : goal.invariant-loop-i
invariant-loop-i g l =
    (f : ℕ → Formula) → ((i : ℕ) (r : Bool) → i < l.end → goal.F-post g l.holds i r → r ≡ test (f i)) → l.ok ≡ test (each l.i f)
