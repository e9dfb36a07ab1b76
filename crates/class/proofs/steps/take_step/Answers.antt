-- `class::steps::take_step` meets its contract: the step at each stage.
use mathlib.Core.Path.{◌∙◌}
use Rattle.class.specs.Steps.{does_at}
use Rattle.class.specs.Stepped.{took_at, took_number, moved_told, moved_still}
use Rattle.class.proofs.steps.take_step.Goals as goal

pub returns-in-Head : goal.returns-in-Head
unfolding does_at
returns-in-Head c =
    took_at c.args.report _ _ _ _ _ _ _ _ _ c.in-Head.is c.requires.kept
    (moved_told _ c.print_head.ensures)

pub returns-in-Count : goal.returns-in-Count
returns-in-Count c =
    took_number c.args.report _ _ _ _ _ _ c.in-Count.is c.requires.kept
    (c.silent.ensures.0 ∙ c.take_byte.ensures) c.silent.ensures.1

pub returns-in-Sheet : goal.returns-in-Sheet
unfolding does_at
returns-in-Sheet c =
    took_at c.args.report _ _ _ _ _ _ _ _ _ c.in-Sheet.is c.requires.kept
    c.take_sheet.ensures

pub returns-in-Line : goal.returns-in-Line
unfolding does_at
returns-in-Line c =
    took_at c.args.report _ _ _ _ _ _ _ _ _ c.in-Line.is c.requires.kept
    c.print_pending.ensures

pub returns-in-Last : goal.returns-in-Last
unfolding does_at
returns-in-Last c =
    took_at c.args.report _ _ _ _ _ _ _ _ _ c.in-Last.is c.requires.kept
    (moved_told _ c.print_last.ensures)

pub returns-in-Nothing : goal.returns-in-Nothing
unfolding does_at
returns-in-Nothing c =
    took_at c.args.report _ _ _ _ _ _ _ _ _ c.in-Nothing.is c.requires.kept
    (moved_still _ _ _ _ (c.silent-in-Nothing.ensures.0 ∙ rw c.start.ensures at c.at_stage.ensures)
    c.silent-in-Nothing.ensures.1)
