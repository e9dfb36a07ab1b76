-- `retiring::climbing::task_waits` meets its contract: each early return denies one part of `waits` (`fails`), the third since
-- past the last handle nothing is made; past all of them the last part decides (`test-same`).
use mathlib.Core.Path.{sym, ◌∙◌}
use Prim.Native.Nat.{◌+◌}
use native.Mathlib.Omega.{arith}
use Rattle.session.specs.Table.{read}
use Rattle.session.specs.Names.{output}
use Rattle.rules.specs.Formula.{test, Formula.◌≐◌}
use Rattle.rules.specs.FormulaLaws.{test-same, fails}
use Rattle.retiring.specs.Finish.{waits}
use Rattle.retiring.proofs.climbing.task_waits.Goals as goal

pub returns-then-get-ne-ENDED : goal.returns-then-get-ne-ENDED
returns-then-get-ne-ENDED c = sym (fails _ (λ x. c.if-get-ne-ENDED.true (c.get.ensures ∙ x.1.1.1.1)))

pub returns-then-get-ne1 : goal.returns-then-get-ne1
returns-then-get-ne1 c = sym (fails _ (λ x. c.if-get-ne1.true (c.get-2.ensures ∙ x.1.1.1.0)))

pub returns-then-h-ge-MOST_OBJECTS : goal.returns-then-h-ge-MOST_OBJECTS
returns-then-h-ge-MOST_OBJECTS c =
    let f = c.requires.0.frame in
    sym (fails _ (λ y. let z = f.unmade (c.args.h + 1) (omega (arith, f.few, c.if-h-ge-MOST_OBJECTS.true)) in omega (arith, z, y.0)))

pub returns-then-get-ne-OPEN : goal.returns-then-get-ne-OPEN
returns-then-get-ne-OPEN c = sym (fails _ (λ x. c.if-get-ne-OPEN.true (c.get-3.ensures ∙ x.1.1.0)))

pub returns-then-get-ne-EVENT : goal.returns-then-get-ne-EVENT
returns-then-get-ne-EVENT c = sym (fails _ (λ x. c.if-get-ne-EVENT.true (c.get-4.ensures ∙ x.0)))

pub returns : goal.returns
unfolding test
returns c =
    test-same (c.get-5.result ≐ output) (waits (read c.args.s.now) c.args.h) (λ q. (
      sym c.get-4.ensures ∙ c.if-get-ne-EVENT.false,
      (
        sym c.get-5.ensures ∙ q,
        (
          sym c.get-3.ensures ∙ c.if-get-ne-OPEN.false,
          (sym c.get-2.ensures ∙ c.if-get-ne1.false, sym c.get.ensures ∙ c.if-get-ne-ENDED.false),
        ),
      ),
    ))
    (λ x. c.get-5.ensures ∙ x.1.0)
