-- `class_parts::parts::report_from` meets its contract: the steps so far are a chain, and each leaves fewer.
use mathlib.Core.Path.{sym, ◌∙◌}
use mathlib.Core.Logic.{inl, inr}
use native.Mathlib.Omega.{arith}
use Rattle.class.specs.Steps.{over_nothing, not-over}
use Rattle.class_parts.specs.ReportParts.{going-first, going_along, going_on, going_ends, stepped_fewer}
use Rattle.class_parts.proofs.parts.report_from.Goals as goal

pub loop-lines-init : goal.loop-lines-init
loop-lines-init c =
    going-first c.args.file.now c.args.place c.args.report c.args.memory.now c.args.lines.now
    c.requires.fresh c.requires.place_in_bounds.0

pub overflow_sub-lines : goal.overflow_sub-lines
overflow_sub-lines c = c.loop-lines.invariant.fits

pub pass_over-along-requires : goal.pass_over-along-requires
pass_over-along-requires c = c.loop-lines.invariant.inside

pub shape_of-lines-then-is_over : goal.shape_of-lines-then-is_over
shape_of-lines-then-is_over c = c.loop-lines.invariant.long

pub returns-then-is_over : goal.returns-then-is_over
returns-then-is_over c =
    going_ends _ _ _ _ _ _ _ _ _ _
    (going_along _ _ _ _ _ _ _ _ _ _ c.loop-lines.invariant _ _ c.pass_over-along.ensures)
    (inl (over_nothing _ (sym c.is_over.ensures ∙ c.if-is_over.true)))

pub step_on-part-requires : goal.step_on-part-requires
step_on-part-requires c =
    let l = c.loop-lines.invariant in record {
      kept = l.keeps;
      place_in_bounds = (c.pass_over-along.ensures.inside, omega (arith, l.fits));
    }

pub loop-lines-smaller : goal.loop-lines-smaller
loop-lines-smaller c =
    let f = stepped_fewer _ _ _ _ _ _ _ _ _ c.step_on-part.ensures
    (not-over _ (sym c.is_over.ensures ∙ c.if-is_over.false)) in
    omega (arith, f, c.pass_over-along.ensures.fewer)

pub loop-lines-preserved : goal.loop-lines-preserved
loop-lines-preserved c =
    let t = c.step_on-part in
    let l = c.loop-lines.invariant in
    let g = going_along _ _ _ _ _ _ _ _ _ _ l _ _ c.pass_over-along.ensures in
    going_on _ _ _ _ _ _ _ _ _ _ g _ _ _ (omega (arith, l.fits)) t.auto.lines t.ensures

pub shape_of-lines : goal.shape_of-lines
shape_of-lines c = c.loop-lines.invariant.long

pub returns : goal.returns
returns c =
    going_ends _ _ _ _ _ _ _ _ _ _ c.loop-lines.invariant (inr (omega (arith, c.loop-lines.invariant.fits)))
