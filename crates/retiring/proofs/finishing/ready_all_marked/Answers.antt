-- `retiring::finishing::ready_all_marked` meets its contract: the links before l are swept, one more each turn (`row_next`),
-- which leaves their sources; past the count of links none is open (`ready-end`).
use mathlib.Core.Path.{◌≡◌, refl, ap, ◌∙◌}
use native.Mathlib.Omega.{arith}
use Rattle.session.specs.Table.{read}
use Rattle.session.specs.TableLaws.{sweep_zero, sweep_beside, wrote_none, wrote_then}
use Rattle.session.specs.declared.Field.TheVariants.{LinkSource, LinkState}
use Rattle.holding.specs.SweepRows.{row_next}
use Rattle.retiring.specs.Finish.{ready-end}
use Rattle.retiring.proofs.finishing.ready_all_marked.Goals as goal

pub loop-l-init : goal.loop-l-init
loop-l-init c =
    let p = c.requires in
    let e = c.get-n.ensures in
    (e, omega (arith, e, p.frame.few_links), p, rw sweep_zero (wrote_none _))

pub ready_marked-requires : goal.ready_marked-requires
ready_marked-requires c =
    let l = c.loop-l in
    let i = l.invariant in
    let e : read l.s LinkSource l.l ≡ read _ LinkSource l.l = ap (λ r. r LinkSource l.l) i.3.reading
    ∙ sweep_beside _ LinkState l.l _ LinkSource l.l refl in (
      omega (arith, i.0, i.1),
      omega (arith, e, i.2.frame.sources l.l (omega (arith, i.0))),
    )

pub loop-l-preserved : goal.loop-l-preserved
loop-l-preserved c =
    let f = c.ready_marked in
    let i = c.loop-l.invariant in
    (i.0, i.1, i.2, rw (← row_next _ _ _ _ _ i.3.reading) (wrote_then i.3 f.ensures))

pub returns : goal.returns
returns c =
    let l = c.loop-l in
    let i = l.invariant in
    rw (← ready-end (read c.args.s.now) _ l.l i.2.no_more
    (omega (arith, i.0))) i.3
