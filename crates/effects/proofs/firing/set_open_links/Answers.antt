-- `effects::firing::set_open_links` meets its contract: the links before l are swept, one more by `set_more` or eight more by
-- `set_pass`; past the count there is no link (`set-end`).
use native.Mathlib.Omega.{arith}
use Rattle.session.specs.Table.{read}
use Rattle.session.specs.TableLaws.{sweep_zero, wrote_none, wrote_then}
use Rattle.effects.specs.OpenLinks.{set_more, set_pass, set-end}
use Rattle.effects.proofs.firing.set_open_links.Goals as goal

pub loop-l-init : goal.loop-l-init
loop-l-init c =
    let p = c.requires in
    (c.get-n.ensures, omega arith, p.1, rw sweep_zero (wrote_none _))

pub loop-l-preserved-then-past_others : goal.loop-l-preserved-then-past_others
loop-l-preserved-then-past_others c =
    let i = c.loop-l.invariant in
    (i.0, i.1, i.2, rw (← set_pass _ _ _ _ _ _ i.3.reading (c.past_others.ensures c.if-past_others.true)) i.3)

pub loop-l-preserved : goal.loop-l-preserved
loop-l-preserved c =
    let i = c.loop-l.invariant in
    (i.0, i.1, i.2, rw (← set_more _ _ _ _ _ i.3.reading) (wrote_then i.3 c.set_open_link.ensures))

pub returns : goal.returns
returns c =
    let l = c.loop-l in
    let i = l.invariant in
    rw (← set-end (read c.args.s.now) _ _ l.l i.2 (omega (arith, i.0))) i.3
