-- `record::all_within` meets its contract: every field is within the limit, or one is not.
use Prim.Native.Nat.{ℕ, ◌≤◌, ◌<◌}
use mathlib.Core.Bool.{Bool, true, false}
use mathlib.Core.List.{List}
use mathlib.Core.Path.{◌≡◌, sym}
use native.Mathlib.Omega.{arith}
use borrow.Author.Rules.{rules}
use borrow.Author.Tests.{tests}
use lib.ListN.{length, get_or}
use Rattle.std.specs.Bool.{MatchBool}
use Rattle.std.specs.List.{AllWithin, HoldsAt}
use Rattle.std.proofs.lemmas.Iterator.{cases_from_all, YieldsList-from_slice}
use Rattle.number.specs.Number.{limit32}
use Rattle.rules.specs.Formula.{test}
use Rattle.rules.specs.FormulaLaws.{passes, fails}
use Rattle.record.specs.Writing.{within}
use Rattle.record.proofs.all_within.Goals as goal

tested : (r : Bool) (xs : List ℕ)
    → MatchBool r (AllWithin (λ x. x ≤ limit32) xs 0 (length xs)) ((k : ℕ) × (k < length xs) × HoldsAt (λ x. limit32 < x) xs k)
    → r ≡ test (within (length xs) (λ k. get_or xs k 0))
tested true xs h = sym (passes _ (λ k l. h k 0 (omega arith) l))
tested false xs h = sym (fails _ (λ all. omega (arith, all h.0 h.1, h.2 0)))

pub returns : goal.returns
returns c =
    let xs = c.args.fields.now in
    tested c.all.result xs
    (cases_from_all _ _ _ (λ x. x ≤ limit32) (λ x. limit32 < x) c.all.ensures.ran (YieldsList-from_slice xs cc)
    (λ x q k. search (rules, tests)) (λ x q k. search (rules, tests)))
