-- `retiring::ending::fire_output` meets its contract: a plain task's output is fired (`fires_yes`), at a handle that `OutputLow`
-- bounds; with none, or of a finish task, nothing is (`fires_no`).
use mathlib.Core.Path.{sym, ◌∙◌}
use Rattle.session.specs.Table.{read}
use Rattle.session.specs.TableLaws.{wrote_none}
use Rattle.retiring.specs.RetiringParts.{fires_yes, fires_no}
use Rattle.retiring.proofs.ending.fire_output.Goals as goal
use Rattle.retiring.proofs.ending.fire_output.Goals.{else-get-eq1-via-then-get-eq1+else-get-eq0, else-get-eq1-via-else-get-eq1}

pub returns-then-get-eq0 : goal.returns-then-get-eq0
returns-then-get-eq0 c =
    rw (fires_yes _ _ _ (sym c.get.ensures ∙ c.if-get-eq1.true) (sym c.get-then-get-eq1.ensures ∙ c.if-get-eq0.true))
    c.fire_one.ensures

pub returns-else-get-eq1 : goal.returns-else-get-eq1
returns-else-get-eq1 c =
    rw (fires_no (read c.args.s.now) c.args.t c.args.b (elim c.else-get-eq1.branch [
      | else-get-eq1-via-then-get-eq1+else-get-eq0 w ↦ λ x. w.if-get-eq0.false (w.get-then-get-eq1.ensures ∙ x.1)
      | else-get-eq1-via-else-get-eq1 w ↦ λ x. w.if-get-eq1.false (c.get.ensures ∙ x.0)
    ]))
    (wrote_none _)
