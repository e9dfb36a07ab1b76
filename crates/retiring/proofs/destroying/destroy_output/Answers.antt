-- `retiring::destroying::destroy_output` meets its contract: with an output, event t + 1 is destroyed (`output_yes`), a handle
-- that `OutputLow` bounds; else nothing is written (`output_no`).
use mathlib.Core.Path.{sym, ◌∙◌}
use Rattle.session.specs.TableLaws.{wrote_none}
use Rattle.retiring.specs.RetiringParts.{output_yes, output_no}
use Rattle.retiring.proofs.destroying.destroy_output.Goals as goal

pub returns-then-get-eq1 : goal.returns-then-get-eq1
returns-then-get-eq1 c =
    rw (output_yes _ _ (sym c.get.ensures ∙ c.if-get-eq1.true)) c.destroy_event.ensures

pub returns-else-get-eq1 : goal.returns-else-get-eq1
returns-else-get-eq1 c = rw (output_no _ _ (λ e. c.if-get-eq1.false (c.get.ensures ∙ e))) (wrote_none _)
