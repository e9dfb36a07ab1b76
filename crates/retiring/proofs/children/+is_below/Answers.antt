-- `retiring::children::is_below` meets its contract: each call goes to a lower handle. With a creator higher than a it is as for the
-- creator (`below_more`); else a creator that is a decides (`below_here`), and so does a lower one (`below_none`).
use mathlib.Core.Path.{◌∙◌}
use native.Mathlib.Omega.{arith}
use Rattle.session.specs.Table.{read}
use Rattle.retiring.specs.Children.{below_more, below_least}
use Rattle.retiring.proofs.children.+is_below.Goals as goal

pub is_below-requires : goal.is_below-requires
is_below-requires t c =
    let p = c.requires in
    let e = c.get-c.ensures in
    let high = c.if-a-c.true in
    let f = p.0.frame.falls c.args.d p.2 (omega (arith, e, high)) in
    (omega (arith, f, e, c.decreases), (p.0, p.1, omega (arith, f, e, p.2)))

pub returns-then-a-c : goal.returns-then-a-c
returns-then-a-c t c =
    let p = c.requires in
    let e = c.get-c.ensures in
    let high = c.if-a-c.true in
    rw e at c.is_below.ensures
    ∙ below_more (read c.args.s.now) p.0 c.args.d c.args.a p.1 p.2 (omega (arith, e, high))

pub returns-else-a-c : goal.returns-else-a-c
returns-else-a-c t c =
    let p = c.requires in
    let e = c.get-c.ensures in
    let low = c.if-a-c.false in
    rw e (below_least (read c.args.s.now) p.0 c.args.d c.args.a p.1 p.2 (omega (arith, e, low)))
