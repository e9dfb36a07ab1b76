-- `class::steps::with_value` meets its contract, stage by stage.
use mathlib.Core.Path.{ap, sym, ◌∙◌}
use Rattle.class.specs.Steps.{valued}
use Rattle.class.specs.Stepped.{valued_same}
use Rattle.class.proofs.steps.with_value.Goals as goal

pub returns-in-Count : goal.returns-in-Count
unfolding valued
returns-in-Count c =
    let a = c.args in
    c.go_on.ensures ∙ ap (λ stage. valued a.report stage a.v) (sym c.in-Count.is)

pub returns-in-Learner : goal.returns-in-Learner
unfolding valued
returns-in-Learner c =
    let a = c.args in
    c.with_entry.ensures ∙ ap (λ stage. valued a.report stage a.v) (sym c.in-Learner.is)

pub returns-in-Turn : goal.returns-in-Turn
unfolding valued
returns-in-Turn c =
    let a = c.args in
    c.with_entry-in-Turn.ensures ∙ ap (λ stage. valued a.report stage a.v) (sym c.in-Turn.is)

pub returns-in-Length : goal.returns-in-Length
unfolding valued
returns-in-Length c =
    let a = c.args in
    c.with_entry-in-Length.ensures ∙ ap (λ stage. valued a.report stage a.v) (sym c.in-Length.is)

pub returns-in_default : goal.returns-in_default
returns-in_default c =
    let d = c.in_default in valued_same c.args.report _ c.args.v d.not-Count d.not-Learner d.not-Turn d.not-Length
