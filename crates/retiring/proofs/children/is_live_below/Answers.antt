-- `retiring::children::is_live_below` meets its contract: one whose creator is lower than a is not below it (`below_none`), a later state
-- is not live (`late_dead`); else who descends from a task is one, and live (`live_below`).
use mathlib.Core.Path.{sym, ◌∙◌}
use native.Mathlib.Omega.{arith}
use Rattle.session.specs.Table.{read}
use Rattle.rules.specs.FormulaLaws.{fails}
use Rattle.retiring.specs.Children.{below_none, live_below}
use Rattle.retiring.proofs.children.is_live_below.Goals as goal

pub returns-then-get-a : goal.returns-then-get-a
returns-then-get-a c =
    let p = c.requires in
    let low = c.if-get-a.true in
    let e = c.get.ensures in
    sym (fails _ (λ y. below_none (read c.args.s.now) p.0 c.args.d c.args.a p.1 p.2 (omega (arith, e, low)) y.1))

pub returns : goal.returns
returns c =
    let p = c.requires in
    let e = c.get-2.ensures in
    c.is_below.ensures
    ∙ live_below (read c.args.s.now) p.0 c.args.d c.args.a p.1 p.2 (omega (arith, e))
