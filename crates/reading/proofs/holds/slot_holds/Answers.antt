-- `reading::holds::slot_holds` meets its contract: a slot not held fails (`fails`); else the payload decides (`test_and`).
use mathlib.Core.Path.{sym, ◌∙◌}
use native.Mathlib.Omega.{arith}
use Rattle.session.specs.Table.{read}
use Rattle.session.specs.Names.{held}
use Rattle.session.specs.declared.Field.TheVariants.{SlotMark, SlotPayload}
use Rattle.rules.specs.Formula.{test, Formula.◌≐◌}
use Rattle.rules.specs.FormulaLaws.{fails, test_and}
use Rattle.reading.proofs.holds.slot_holds.Goals as goal

pub returns-then-get-ne-HELD : goal.returns-then-get-ne-HELD
returns-then-get-ne-HELD c = sym (fails _ (λ x. let e = c.get.ensures in omega (arith, x.0, c.if-get-ne-HELD.true)))

pub returns : goal.returns
unfolding test
returns c =
    let a = c.args in
    let s = read a.s.now in
    rw c.get-2.ensures
    (sym (test_and (s SlotMark a.i ≐ held) (s SlotPayload a.i ≐ a.b)
    (sym c.get.ensures ∙ c.if-get-ne-HELD.false)))
