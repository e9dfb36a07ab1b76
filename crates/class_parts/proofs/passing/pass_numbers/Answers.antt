-- `class_parts::passing::pass_numbers` meets its contract: the numbers read (`passed_numbers`), or none (`passed_none`).
use mathlib.Core.Path.{ap, sym, subst, ◌∙◌}
use Rattle.class.specs.declared.Report.{Report}
use Rattle.class.specs.declared.Stage.TheVariants.{Sheet}
use Rattle.class.specs.Steps.{entry_to}
use Rattle.class_parts.specs.Passing.{Passed, passed_none, passed_numbers}
use Rattle.class_parts.proofs.passing.pass_numbers.Goals as goal

pub returns-in-Some : goal.returns-in-Some
returns-in-Some c =
    let f = c.args.file.now in
    let at = c.args.place in
    let r = c.args.report in
    let begins = c.requires.1 in
    let e = c.in-Some.e in
    let w = subst (λ (q : Report). Passed f at r at q) begins (passed_none f at r c.requires.0) in
    let n = passed_numbers f at r at r.left r.pending r.tally e c.requires.2 w
    (sym c.header_at.ensures ∙ c.in-Some.is) in
    subst (λ (q : Report). Passed f at r e.place q)
    (sym (c.with_entry.ensures ∙ ap (λ (q : Report). entry_to q Sheet e.learner e.turn e.length) begins)) n

pub returns-in-None : goal.returns-in-None
returns-in-None c =
    passed_none c.args.file.now c.args.place c.args.report c.requires.0
