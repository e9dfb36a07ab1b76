-- `reading::counted::has_its_count` meets its contract: another type is `wrong`; else what `links_from` counted decides (`at_most`).
use Rattle.reading.specs.TestLaws.{after, at_most, wrong}
use native.Mathlib.Omega.{arith}
use Rattle.reading.proofs.counted.has_its_count.Goals as goal

pub returns-then-of_object-ne-COUNTED : goal.returns-then-of_object-ne-COUNTED
returns-then-of_object-ne-COUNTED c = wrong _ (λ x. let e = x.0 in omega arith)

pub returns : goal.returns
returns c =
    let n = c.get-n.ensures in
    rw (c.of_object-2.ensures, c.links_from.ensures.made, n)
    (after _ _ (omega arith) (at_most _ _))
