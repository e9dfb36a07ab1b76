-- `holding::letting::bury_all` meets its contract: the blocks before b are swept, one more by `buried-more`, which leaves who may hold
-- (`active_swept`), and those up to the next that is doomed by `buried_passed`; past the count of objects there is none (`buried-end`).
use Prim.Native.Nat.{ℕ, ◌+◌}
use mathlib.Core.Path.{◌≡◌, refl, ap, ◌∙◌}
use native.Mathlib.Omega.{arith}
use Rattle.session.specs.Table.{Wrote, read, sweep}
use Rattle.session.specs.TableLaws.{sweep_zero, wrote_none, wrote_then, sweep_beside}
use Rattle.session.specs.declared.Field.TheVariants.{Objects, BlockState}
use Rattle.holding.specs.Letting.{active_swept, buried, buried-more, buried_passed, buried-end}
use Rattle.reading.specs.Eights.{OrEnd, or_end, or_end_so, before_end}
use Rattle.holding.proofs.letting.bury_all.Goals as goal

pub loop-next-init : goal.loop-next-init
unfolding OrEnd
loop-next-init c =
    let p = c.requires in
    let e = c.get-n.ensures in
    (e, omega (arith, e, p.0), p.1, p.2, (rw sweep_zero (wrote_none _), omega arith))

pub bury-requires : goal.bury-requires
bury-requires c =
    let i = c.loop-next.invariant in
    let x = before_end _ _ _ _ c.in-Some.is i.4 in
    let s₀ = read c.args.s.now in
    let e : read c.loop-next.s Objects 0 ≡ read _ Objects 0 = ap (λ r. r Objects 0) x.0.reading ∙ sweep_beside _ BlockState
    c.in-Some.b _ Objects 0 refl in (
      omega (arith, e, i.0, i.1),
      omega (arith, i.1, x.1),
      rw (← x.0.reading) at (active_swept s₀ c.in-Some.b (buried s₀) i.3),
    )

pub loop-next-preserved : goal.loop-next-preserved
loop-next-preserved c =
    let f = c.bury in
    let s₀ = c.args.s.now in
    let i = c.loop-next.invariant in
    let b = c.in-Some.b in
    let x = (before_end _ _ _ _ c.in-Some.is i.4).0 in
    let swept = λ (q : ℕ). Wrote c.args.s.now f.new.s (sweep (read s₀) BlockState q (buried (read s₀))) in
    let w : Wrote c.args.s.now f.new.s (sweep (read s₀) BlockState (b + 1) (buried (read s₀))) =
    rw (← buried-more _ _ _ x.reading) (wrote_then x f.ensures) in
    (i.0, i.1, i.2, i.3, or_end_so _ swept _ _ (λ q l y. rw (← buried_passed _ _ _ _ w.reading y.passed) w) c.next_with-next.ensures)

pub returns : goal.returns
returns c =
    let i = c.loop-next.invariant in
    rw (← buried-end (read c.args.s.now) (c.get-n.result + 1) i.2 (omega (arith, i.0))) (rw c.in_default.is at (or_end _ _ _ i.4))
