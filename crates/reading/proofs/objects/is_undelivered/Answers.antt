-- `reading::objects::is_undelivered` meets its contract: an open link passes (`passes`); else being ready decides (`test_or`).
use mathlib.Core.Path.{sym, ◌∙◌}
use mathlib.Core.Logic.{inl}
use Rattle.rules.specs.FormulaLaws.{passes, test_or}
use Rattle.session.specs.Table.{read}
use Rattle.rules.specs.Reading.{is_undelivered}
use Rattle.rules.specs.Formula.{test, Formula.◌≐◌}
use Rattle.session.specs.Names.{link_open, ready}
use Rattle.session.specs.declared.Field.TheVariants.{LinkState}
use Rattle.reading.proofs.objects.is_undelivered.Goals as goal

pub returns-then-get-eq-LINK_OPEN : goal.returns-then-get-eq-LINK_OPEN
returns-then-get-eq-LINK_OPEN c =
    let a = c.args in
    sym (passes (is_undelivered (read a.s.now) a.l) (inl (sym c.get.ensures ∙ c.if-get-eq-LINK_OPEN.true)))

pub returns : goal.returns
unfolding test
returns c =
    let a = c.args in
    let s = read a.s.now in
    rw c.get-2.ensures
    (sym (test_or (s LinkState a.l ≐ link_open) (s LinkState a.l ≐ ready)
    (λ e. c.if-get-eq-LINK_OPEN.false (c.get.ensures ∙ e))))
