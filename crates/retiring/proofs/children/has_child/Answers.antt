-- `retiring::children::has_child` meets its contract: the loop keeps that there is none before `from`: none lower (`none_lower`), then none
-- up to the next that h made and past it (`none_past`). A child decides (`passes`), and with no more there is none (`none_child`).
use mathlib.Core.Path.{refl, sym}
use native.Mathlib.Omega.{arith}
use Rattle.std.specs.Prelude.{None}
use Rattle.session.specs.Table.{read}
use Rattle.session.specs.declared.Field.TheVariants.{TaskCreator}
use Rattle.rules.specs.FormulaLaws.{passes, fails}
use Rattle.reading.specs.Eights.{before_end, or_end}
use Rattle.reading.specs.Finding.{Found}
use Rattle.retiring.specs.Children.{none_past, none_child}
use Rattle.retiring.proofs.children.has_child.Goals as goal

pub get-requires-in-Some : goal.get-requires-in-Some
get-requires-in-Some c =
    let l = c.loop-d in
    let next = before_end (Found (read c.args.s.now) TaskCreator c.args.h l.from _) _ _ _ refl c.in-Some.ensures in
    omega (arith, next.1, l.invariant.1)

pub returns-then-get-last : goal.returns-then-get-last
returns-then-get-last c =
    let l = c.loop-d in
    let next = before_end (Found (read c.args.s.now) TaskCreator c.args.h l.from _) _ _ _ refl c.in-Some.ensures in
    let state = rw c.get-in-Some.ensures at c.if-get-last.true in
    sym (passes _ (c.in-Some.d, omega (arith, next.1, l.invariant.0), (next.0.here next.1, state)))

pub overflow_add-from : goal.overflow_add-from
overflow_add-from c =
    let l = c.loop-d in
    let next = before_end (Found (read c.args.s.now) TaskCreator c.args.h l.from _) _ _ _ refl c.in-Some.ensures in
    omega (arith, next.1, l.invariant.1)

pub loop-d-smaller : goal.loop-d-smaller
loop-d-smaller c =
    let next = before_end (Found (read c.args.s.now) TaskCreator c.args.h c.loop-d.from _) _ _ _ refl c.in-Some.ensures in
    omega (arith, next.1, next.0.passed.onward)

pub loop-d-preserved : goal.loop-d-preserved
loop-d-preserved c =
    let l = c.loop-d in
    let i = l.invariant in
    let s = read c.args.s.now in
    let next = before_end (Found s TaskCreator c.args.h l.from _) _ _ _ refl c.in-Some.ensures in
    let late = c.if-get-last.false in
    let e = c.get-in-Some.ensures in
    (i.0, i.1, omega (arith, next.1), none_past s c.args.h c.args.last l.from c.in-Some.d i.3 next.0.passed (λ q. omega (arith, q, e, late)))

pub returns : goal.returns
returns c =
    let l = c.loop-d in
    let i = l.invariant in
    let s = read c.args.s.now in
    let more = or_end (Found s TaskCreator c.args.h l.from _) _ None c.in_default.ensures in
    sym (fails _ (none_child s c.args.h c.args.last l.from i.3 (rw i.0 at more.passed)))
