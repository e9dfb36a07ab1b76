-- `sheet::settled::is_link_settled` meets its contract, by the cases of a link.
use mathlib.Core.Path.{sym, ◌∙◌}
use Rattle.session.specs.Table.{read}
use Rattle.sheet.specs.Settled.{link_delivered, link_past, link_marked}
use Rattle.sheet.proofs.settled.is_link_settled.Goals as goal

pub returns-then-get-eq-DELIVERED : goal.returns-then-get-eq-DELIVERED
returns-then-get-eq-DELIVERED c = link_delivered (read c.args.s.now) _ (sym c.get.ensures ∙ c.if-get-eq-DELIVERED.true)

pub returns-then-get-slot : goal.returns-then-get-slot
returns-then-get-slot c =
    link_past (read c.args.s.now) _ _ _ _ c.get-target.ensures c.get-slot.ensures
    c.get-2.ensures c.if-get-slot.true

pub returns : goal.returns
returns c =
    link_marked (read c.args.s.now) _ _ _ _ c.get-target.ensures c.get-slot.ensures
    c.get-2.ensures _ (λ e. c.if-get-eq-DELIVERED.false (c.get.ensures ∙ e))
    c.if-get-slot.false c.get-3.ensures
