-- `reading::counted::lacks_one` meets its contract: another type is `wrong`; else what `links_from` counted decides (`equals`).
use Rattle.reading.specs.TestLaws.{after, equals, wrong}
use native.Mathlib.Omega.{arith}
use Rattle.reading.proofs.counted.lacks_one.Goals as goal

pub returns-then-of_object-ne-COUNTED : goal.returns-then-of_object-ne-COUNTED
returns-then-of_object-ne-COUNTED c = wrong _ (λ x. let e = x.0 in omega arith)

pub returns : goal.returns
returns c =
    let n = c.get-n.ensures in
    rw (c.of_object-2.ensures, c.links_from.ensures.delivered, n)
    (after _ _ (omega arith) (equals _ _))
