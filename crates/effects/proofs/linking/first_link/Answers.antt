-- `effects::linking::first_link` meets its contract: whether the source has fired chooses (`choose_yes`, `choose_no`).
use mathlib.Core.Path.{sym}
use Rattle.rules.specs.FormulaLaws.{choose_yes, choose_no}
use Rattle.effects.specs.Linking.{first_link}
use Rattle.effects.proofs.linking.first_link.Goals as goal

pub returns-then-state-eq-FIRED : goal.returns-then-state-eq-FIRED
unfolding first_link
returns-then-state-eq-FIRED c = sym (choose_yes _ _ _ c.if-state-eq-FIRED.true)

pub returns-else-state-eq-FIRED : goal.returns-else-state-eq-FIRED
unfolding first_link
returns-else-state-eq-FIRED c = sym (choose_no _ _ _ c.if-state-eq-FIRED.false)
