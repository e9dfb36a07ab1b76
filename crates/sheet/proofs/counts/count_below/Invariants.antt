-- `sheet::counts::count_below` meets its contract: the number found is the count below i, for every formula that the calls answer.
use Rattle.std.proofs.Common.{◌≡◌, ℕ, ◌<◌, ◌≤◌, Bool}
use Rattle.rules.specs.Formula.{Formula, test, count}
use Rattle.sheet.proofs.counts.count_below.Given as goal

abbrev pub invariant-loop-i : goal.invariant-loop-i
invariant-loop-i g l =
    ((f : ℕ → Formula) → ((i : ℕ) (r : Bool) → i < l.end → goal.F-post g l.holds i r → r ≡ test (f i)) → l.found ≡ count l.i f)
    × (l.found ≤ l.i)
