-- `class::steps::print_pending` meets its contract: with nobody pending by `moved_still`, with a sheet pending by `moved_ran`.
use mathlib.Core.Path.{refl, ap, ◌∙◌}
use Rattle.class.specs.Steps.{closing, closed}
use Rattle.class.specs.Stepped.{moved_as, moved_still, moved_ran}
use Rattle.class.proofs.steps.print_pending.Goals as goal

pub returns-in-None : goal.returns-in-None
unfolding closed
returns-in-None c =
    let a = c.args in
    moved_as (ap (closed _ a.report _) c.in-None.is)
    (moved_still _ _ _ _ (c.silent.ensures.0 ∙ c.close.ensures) c.silent.ensures.1)

pub returns-in-Some : goal.returns-in-Some
unfolding closed
returns-in-Some c =
    let a = c.args in
    moved_as (ap (closed _ a.report _) c.in-Some.is)
    (moved_ran _ _ (closing a.report) _ c.run_sheet-shown.ensures c.close-in-Some.ensures refl)
