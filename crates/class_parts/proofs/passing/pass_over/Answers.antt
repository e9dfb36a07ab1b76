-- `class_parts::passing::pass_over` meets its contract: no entry begins (`passed_none`), or by `pass_numbers` or `pass_from`.
use mathlib.Core.Path.{ap, sym, subst, ◌∙◌}
use Rattle.class.specs.declared.Report.{Report}
use Rattle.std.specs.Prelude.{Option}
use Rattle.class.specs.declared.Turned.{Turned}
use Rattle.class.specs.Steps.{going}
use Rattle.class_parts.specs.Passing.{Passed, passed_none}
use Rattle.class_parts.proofs.passing.pass_over.Goals as goal

pub returns-then-not-begins_entry : goal.returns-then-not-begins_entry
returns-then-not-begins_entry c = passed_none c.args.file.now c.args.place c.args.report c.requires

pub pass_numbers-requires : goal.pass_numbers-requires
pass_numbers-requires c =
    let b = c.begins_entry.ensures c.if-not-begins_entry.false in
    (c.requires, b.0, b.1)

pub pass_from-requires : goal.pass_from-requires
pass_from-requires c =
    (c.requires, (c.begins_entry.ensures c.if-not-begins_entry.false).1)

pub returns-in-Some : goal.returns-in-Some
returns-in-Some c =
    let r = c.args.report in
    let begins = (c.begins_entry.ensures c.if-not-begins_entry.false).0 in
    let e = begins ∙ ap (λ (q : Option Turned). going r.left q r.tally) c.in-Some.is in
    subst (λ (q : Report). Passed c.args.file.now c.args.place q c.pass_from.result.place
    c.pass_from.result.report) (sym e) c.pass_from.ensures
