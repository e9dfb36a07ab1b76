-- `holding::letting::drop_all_made` meets its contract: the blocks before b are swept, one more by `row_next`, and those up to the next
-- that t made by `made_passed`; past the count of objects none is held (`made-end`).
use Prim.Native.Nat.{ℕ, ◌+◌}
use native.Mathlib.Omega.{arith}
use Rattle.session.specs.Table.{Wrote, read, sweep}
use Rattle.session.specs.TableLaws.{sweep_zero, wrote_none, wrote_then}
use Rattle.session.specs.declared.Field.TheVariants.{BlockHeld}
use Rattle.holding.specs.SweepRows.{rows, row_next}
use Rattle.holding.specs.Letting.{made_row, made_passed, made-end}
use Rattle.reading.specs.Eights.{OrEnd, or_end, or_end_so, before_end}
use Rattle.holding.proofs.letting.drop_all_made.Goals as goal

pub loop-next-init : goal.loop-next-init
unfolding OrEnd
loop-next-init c =
    let p = c.requires in
    let e = c.get-n.ensures in
    (e, omega (arith, e, p.0), p.1, (rw sweep_zero (wrote_none _), omega arith))

pub loop-next-preserved : goal.loop-next-preserved
loop-next-preserved c =
    let f = c.drop_made in
    let s₀ = c.args.s.now in
    let i = c.loop-next.invariant in
    let b = c.in-Some.b in
    let x = (before_end _ _ _ _ c.in-Some.is i.3).0 in
    let swept = λ (q : ℕ). Wrote c.args.s.now f.new.s (sweep (read s₀) BlockHeld q (rows (made_row c.args.t) (read s₀))) in
    let w : Wrote c.args.s.now f.new.s (sweep (read s₀) BlockHeld (b + 1) (rows (made_row c.args.t) (read s₀))) =
    rw (← row_next _ _ _ _ _ x.reading) (wrote_then x f.ensures) in
    (i.0, i.1, i.2, or_end_so _ swept _ _ (λ q l y. rw (← made_passed _ _ _ _ _ w.reading y.passed) w) c.next_with-next.ensures)

pub returns : goal.returns
returns c =
    let i = c.loop-next.invariant in
    rw (← made-end (read c.args.s.now) _ (c.get-n.result + 1) i.2 (omega (arith, i.0))) (rw c.in_default.is at (or_end _ _ _ i.3))
