-- `retiring::children::has_live_below` meets its contract: none before d is a live descendant, as none lower than a is one
-- (`none_below`); one that is decides (`passes`), and past the count there is none (`fails`).
use mathlib.Core.Path.{sym, ◌∙◌}
use native.Mathlib.Omega.{arith}
use borrow.Author.Count.{below_more}
use Rattle.session.specs.Table.{read}
use Rattle.rules.specs.FormulaLaws.{passed, failed, passes, fails}
use Rattle.retiring.specs.Children.{none_below}
use Rattle.retiring.proofs.children.has_live_below.Goals as goal

pub loop-d-init : goal.loop-d-init
loop-d-init c =
    let p = c.requires in
    let s = read c.args.s.now in
    (p.0, p.1, c.get-n.ensures, λ i b y. none_below s p.0 i c.args.a p.1 (omega (arith, p.2)) b y.1)

pub returns-then-is_live_below : goal.returns-then-is_live_below
returns-then-is_live_below c =
    let l = c.loop-d in
    sym (passes _ (l.d, omega arith, passed _ (sym c.is_live_below.ensures ∙ c.if-is_live_below.true)))

pub loop-d-preserved : goal.loop-d-preserved
loop-d-preserved c =
    let i = c.loop-d.invariant in
    (i.0, i.1, i.2, below_more _ _ i.3 (failed _ (sym c.is_live_below.ensures ∙ c.if-is_live_below.false)))

pub returns : goal.returns
returns c =
    let l = c.loop-d in
    sym (fails _ (λ x. l.invariant.3 x.0 (let b = x.1 in omega (arith, l.invariant.2)) x.2))
