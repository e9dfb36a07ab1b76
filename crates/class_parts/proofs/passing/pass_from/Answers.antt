-- `class_parts::passing::pass_from` meets its contract: each turn passed leads on.
use mathlib.Core.Path.{refl, sym, ◌∙◌}
use native.Mathlib.Omega.{arith}
use lib.ListN.{length-drop}
use Rattle.rules.specs.FormulaLaws.{passed}
use Rattle.class_rules.specs.Report.{fits}
use Rattle.class.specs.Steps.{going}
use Rattle.class_parts.specs.Passing.{passed_none, passed_then, passed_more, header_inside}
use Rattle.class_parts.proofs.passing.pass_from.Goals as goal

pub loop-more-init : goal.loop-more-init
loop-more-init c = (passed_none c.args.file.now c.args.place _ c.requires.0, c.requires.1)

pub is_whole-requires : goal.is_whole-requires
is_whole-requires c =
    let l = c.loop-more in
    let f = c.args.file.now in
    let is = sym c.header_at.ensures ∙ c.in-Some.is in
    header_inside f l.at _ is

pub supersede-held-requires : goal.supersede-held-requires
supersede-held-requires c =
    let l = c.loop-more in
    let f = c.args.file.now in
    let is = sym c.header_at.ensures ∙ c.in-Some.is in
    header_inside f l.at _ is

pub overflow_add-at : goal.overflow_add-at
overflow_add-at c =
    let l = c.loop-more in
    let f = c.args.file.now in
    let is = sym c.header_at.ensures ∙ c.in-Some.is in
    let w = passed (fits f c.in-Some.later.place c.in-Some.later.length)
    (sym c.is_whole.ensures ∙ c.if-not-is_whole.false) in
    omega (arith, w.1, length-drop c.in-Some.later.place f, header_inside f l.at _ is)

pub loop-more-preserved : goal.loop-more-preserved
loop-more-preserved c =
    let l = c.loop-more in
    let f = c.args.file.now in
    let is = sym c.header_at.ensures ∙ c.in-Some.is in
    let w = passed (fits f c.in-Some.later.place c.in-Some.later.length)
    (sym c.is_whole.ensures ∙ c.if-not-is_whole.false) in
    let m = passed_more f c.args.place _ l.at l.more l.held _ c.args.tally c.loop-more-test.true
    l.invariant.0 is c.if-later-held.false w in
    (rw c.supersede-held.ensures m, omega (arith, c.loop-more-test.true))

pub pass_numbers-requires : goal.pass_numbers-requires
unfolding going
pass_numbers-requires c =
    let l = c.loop-more in
    (l.invariant.0.inside, rw c.go_on.ensures refl, rw c.go_on.ensures l.invariant.1)

pub returns : goal.returns
returns c =
    let l = c.loop-more in
    passed_then c.args.file.now c.args.place l.at _ _ _ _ l.invariant.0
    (rw c.go_on.ensures at c.pass_numbers.ensures)
