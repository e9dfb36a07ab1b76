-- `effects::firing::set_open_link` meets its contract: of an open link of e the state is put (`set_yes`), and of any other
-- nothing is written, which is the row as it was (`set_no`).
use mathlib.Core.Path.{sym, ◌∙◌}
use Rattle.session.specs.Table.{read}
use Rattle.session.specs.TableLaws.{wrote_none}
use Rattle.effects.specs.OpenLinks.{set_yes, set_no}
use Rattle.effects.proofs.firing.set_open_link.Goals as goal
use Rattle.effects.proofs.firing.set_open_link.Goals.{else-get-e-via-then-get-e+else-get-eq-LINK_OPEN, else-get-e-via-else-get-e}

pub returns-then-get-eq-LINK_OPEN : goal.returns-then-get-eq-LINK_OPEN
returns-then-get-eq-LINK_OPEN c =
    rw (set_yes _ _ _ _ (sym c.get.ensures ∙ c.if-get-e.true)
    (sym c.get-then-get-e.ensures ∙ c.if-get-eq-LINK_OPEN.true)) c.set.ensures

pub returns-else-get-e : goal.returns-else-get-e
returns-else-get-e c =
    rw (set_no (read c.args.s.now) c.args.e c.args.v c.args.l (elim c.else-get-e.branch [
      | else-get-e-via-then-get-e+else-get-eq-LINK_OPEN w ↦ λ x. w.if-get-eq-LINK_OPEN.false (w.get-then-get-e.ensures ∙ x.1)
      | else-get-e-via-else-get-e w ↦ λ x. w.if-get-e.false (c.get.ensures ∙ x.0)
    ])) (wrote_none _)
