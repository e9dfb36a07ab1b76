-- `holding::letting::bury` meets its contract: a doomed block that nobody holds is destroyed (`bury_yes`); one held, or not
-- doomed, is as it was (`bury_no`).
use mathlib.Core.Path.{sym, ◌∙◌}
use Rattle.session.specs.TableLaws.{wrote_none}
use Rattle.rules.specs.FormulaLaws.{passed, failed}
use Rattle.holding.specs.Letting.{bury_yes, bury_no}
use Rattle.holding.proofs.letting.bury.Goals as goal

pub returns-then-is_held : goal.returns-then-is_held
returns-then-is_held c =
    rw (bury_no _ _ (λ x. x.1 (passed _ (sym c.is_held.ensures ∙ c.if-is_held.true)))) (wrote_none _)

pub returns-else-is_held : goal.returns-else-is_held
returns-else-is_held c =
    rw (bury_yes _ _ (sym c.get.ensures ∙ c.if-get-eq-DOOMED.true)
    (failed _ (sym c.is_held.ensures ∙ c.if-is_held.false))) c.set.ensures

pub returns-else-get-eq-DOOMED : goal.returns-else-get-eq-DOOMED
returns-else-get-eq-DOOMED c = rw (bury_no _ _ (λ x. c.if-get-eq-DOOMED.false (c.get.ensures ∙ x.0))) (wrote_none _)
