-- `reading::eights::any_of_eight` meets its contract: by what `any` answers over the numbers below eight.
use Rattle.std.proofs.Common.{◌+◌, refl, rules, true, false}
use Rattle.std.proofs.lemmas.Iterator.{cases_from_any, YieldsList-from_range}
use Rattle.reading.specs.Eights.{any_below_eight}
use Rattle.reading.proofs.eights.any_of_eight.Goals as goal

pub returns : goal.returns
returns g c =
    any_below_eight (goal.F-post g c.args.passes) c.args.from c.any.result
    (cases_from_any _ _ _ (λ k. goal.F-post g c.args.passes (c.args.from + k) true)
    (λ k. goal.F-post g c.args.passes (c.args.from + k) false) c.any.ensures.ran
    (YieldsList-from_range 0 8 8 refl refl) (λ x q k. search rules) (λ x q k. search rules))
