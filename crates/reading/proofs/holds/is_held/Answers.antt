-- `reading::holds::is_held` meets its contract: the maker's hold passes it, and so does a task that holds (`held_by`).
-- Else no task below h holds it, and none is passed that does (`held_next`): at the end nobody holds it (`held_by_none`).
use Prim.Native.Nat.{ℕ, ◌+◌, ◌<◌}
use mathlib.Core.Path.{ap, sym, ◌∙◌}
use mathlib.Core.Logic.{inr}
use native.Mathlib.Omega.{arith}
use borrow.Author.Count.{below_more}
use Rattle.session.specs.Table.{read}
use Rattle.reading.specs.Holds.{held_by, held_next, held_by_none}
use Rattle.reading.specs.TestLaws.{no, right, wrong, yes}
use Rattle.reading.specs.Eights.{or_end, before_end}
use Rattle.reading.proofs.holds.is_held.Goals as goal

pub returns-then-get-eq1 : goal.returns-then-get-eq1
returns-then-get-eq1 c = right _ (inr (sym c.get.ensures ∙ c.if-get-eq1.true))

pub loop-next-init : goal.loop-next-init
loop-next-init c =
    let p = c.requires in
    let s = read c.args.s.now in
    let e = ap (λ (n : ℕ). n + 1) c.get-2.ensures in (
      e,
      omega (arith, e, p.1),
      p.0,
      p.3,
      (λ x. c.if-get-eq1.false (c.get.ensures ∙ x)),
      held_next s _ _ 0 _ e p.3 (λ k l. absurd (none k l)) c.next_holder-next.ensures,
    )
  where
    none : (k : ℕ) → k < 0 → ⊥
    none k l = omega arith

pub returns-then-holder_holds : goal.returns-then-holder_holds
returns-then-holder_holds c =
    let i = c.loop-next.invariant in
    right _ (held_by (read c.args.s.now) _ c.in-Some.h
    (omega (arith, i.0, (before_end _ _ _ _ c.in-Some.is i.5).1)) (yes _ c.holder_holds.ensures c.if-holder_holds.true))

pub loop-next-preserved : goal.loop-next-preserved
loop-next-preserved c =
    let i = c.loop-next.invariant in
    let none = (before_end _ _ _ _ c.in-Some.is i.5).0 in
    let n = no _ c.holder_holds.ensures c.if-holder_holds.false in (
      i.0,
      i.1,
      i.2,
      i.3,
      i.4,
      held_next (read c.args.s.now) _ _ _ _ i.0 i.3 (below_more _ _ none n) c.next_holder-next-in-Some.ensures,
    )

pub returns : goal.returns
returns c =
    let i = c.loop-next.invariant in
    wrong _ (held_by_none (read c.args.s.now) _ _ i.0 (rw c.in_default.is at (or_end _ _ _ i.5)) i.4)
