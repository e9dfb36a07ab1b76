-- `class::steps::take_whole` meets its contract: with nobody pending the sheet is held, else by `take_after`.
use mathlib.Core.Path.{ap, ◌∙◌}
use Rattle.class.specs.Steps.{taken}
use Rattle.class.specs.Stepped.{moved_as, moved_still}
use Rattle.class.proofs.steps.take_whole.Goals as goal

pub returns-in-None : goal.returns-in-None
unfolding taken
returns-in-None c =
    let a = c.args in
    moved_as (ap (taken _ a.report _ a.place) c.in-None.is)
    (moved_still _ _ _ _ (c.silent.ensures.0 ∙ c.hold.ensures) c.silent.ensures.1)

pub returns-in-Some : goal.returns-in-Some
unfolding taken
returns-in-Some c =
    let a = c.args in
    moved_as (ap (taken _ a.report _ a.place) c.in-Some.is) c.take_after.ensures
