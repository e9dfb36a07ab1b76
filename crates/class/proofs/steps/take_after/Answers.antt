-- `class::steps::take_after` meets its contract: by the two learners.
use mathlib.Core.Path.{refl, ◌∙◌}
use native.Mathlib.Omega.{arith}
use Rattle.rules.specs.Formula.{Formula.◌≼◌, Formula.◌≐◌}
use Rattle.rules.specs.FormulaLaws.{passes, fails}
use Rattle.class.specs.Steps.{holding, after}
use Rattle.class.specs.Stepped.{moved_still, moved_ran}
use Rattle.class.proofs.steps.take_after.Goals as goal

pub returns-then-report-sheet : goal.returns-then-report-sheet
unfolding after
returns-then-report-sheet c =
    let a = c.args in
    rw (fails (a.sheet.learner ≼ a.report.learner) (λ h. omega arith))
    (moved_still _ _ _ _ (c.silent.ensures.0 ∙ c.stopped.ensures) c.silent.ensures.1)

pub returns-then-report-sheet-2 : goal.returns-then-report-sheet-2
unfolding after
returns-then-report-sheet-2 c =
    let a = c.args in
    rw (
      passes (a.sheet.learner ≼ a.report.learner) (omega arith),
      passes (a.sheet.learner ≐ a.report.learner) (omega arith),
    )
    (moved_still _ _ _ _ (c.silent-then-report-sheet-2.ensures.0 ∙ c.hold_later.ensures) c.silent-then-report-sheet-2.ensures.1)

pub returns : goal.returns
unfolding after
returns c =
    let a = c.args in
    rw (
      passes (a.sheet.learner ≼ a.report.learner) (omega arith),
      fails (a.sheet.learner ≐ a.report.learner) (λ h. omega arith),
    )
    (moved_ran _ _ (holding a.report a.place) _ c.run_sheet-shown.ensures
    c.hold.ensures refl)
