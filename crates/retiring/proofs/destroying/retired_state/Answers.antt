-- `retiring::destroying::retired_state` meets its contract: whether the event had fired chooses (`choose_yes`, `choose_no`).
use mathlib.Core.Path.{sym}
use Rattle.rules.specs.FormulaLaws.{choose_yes, choose_no}
use Rattle.retiring.specs.Cutting.{retired}
use Rattle.retiring.proofs.destroying.retired_state.Goals as goal

pub returns-then-state-eq-FIRED : goal.returns-then-state-eq-FIRED
unfolding retired
returns-then-state-eq-FIRED c = sym (choose_yes _ _ _ c.if-state-eq-FIRED.true)

pub returns-else-state-eq-FIRED : goal.returns-else-state-eq-FIRED
unfolding retired
returns-else-state-eq-FIRED c = sym (choose_no _ _ _ c.if-state-eq-FIRED.false)
