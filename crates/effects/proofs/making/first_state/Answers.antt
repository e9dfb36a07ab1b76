-- `effects::making::first_state` meets its contract: whether there are no pre-slots chooses (`choose_yes`, `choose_no`).
use mathlib.Core.Path.{sym}
use Rattle.rules.specs.FormulaLaws.{choose_yes, choose_no}
use Rattle.effects.specs.FirstValues.{first_state}
use Rattle.effects.proofs.making.first_state.Goals as goal

pub returns-then-n-eq0 : goal.returns-then-n-eq0
unfolding first_state
returns-then-n-eq0 c = sym (choose_yes _ _ _ c.if-n-eq0.true)

pub returns-else-n-eq0 : goal.returns-else-n-eq0
unfolding first_state
returns-else-n-eq0 c = sym (choose_no _ _ _ c.if-n-eq0.false)
