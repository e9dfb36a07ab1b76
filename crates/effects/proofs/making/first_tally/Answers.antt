-- `effects::making::first_tally` meets its contract: whether it is a latch chooses (`choose_yes`, `choose_no`).
use mathlib.Core.Path.{sym}
use Rattle.rules.specs.FormulaLaws.{choose_yes, choose_no}
use Rattle.effects.specs.FirstValues.{first_tally}
use Rattle.effects.proofs.making.first_tally.Goals as goal

pub returns-then-ty-eq-LATCH : goal.returns-then-ty-eq-LATCH
unfolding first_tally
returns-then-ty-eq-LATCH c = sym (choose_yes _ _ _ c.if-ty-eq-LATCH.true)

pub returns-else-ty-eq-LATCH : goal.returns-else-ty-eq-LATCH
unfolding first_tally
returns-else-ty-eq-LATCH c = sym (choose_no _ _ _ c.if-ty-eq-LATCH.false)
