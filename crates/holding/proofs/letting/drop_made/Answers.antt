-- `holding::letting::drop_made` meets its contract: of a block that t made the hold is put to 0 (`made_yes`), and of any other
-- the row is as it was (`made_no`).
use mathlib.Core.Path.{sym, ◌∙◌}
use Rattle.session.specs.TableLaws.{wrote_none}
use Rattle.holding.specs.Letting.{made_yes, made_no}
use Rattle.holding.proofs.letting.drop_made.Goals as goal

pub returns-then-get-t : goal.returns-then-get-t
returns-then-get-t c =
    rw (made_yes _ _ _ (sym c.get.ensures ∙ c.if-get-t.true)) c.set.ensures

pub returns-else-get-t : goal.returns-else-get-t
returns-else-get-t c = rw (made_no _ _ _ (λ e. c.if-get-t.false (c.get.ensures ∙ e))) (wrote_none _)
