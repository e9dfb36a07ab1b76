-- `effects::satisfying::next_tally` meets its contract: whether the slot is 0 chooses (`choose_yes`, `choose_no`), and what is
-- required keeps both in range.
use mathlib.Core.Path.{sym}
use Rattle.rules.specs.FormulaLaws.{choose_yes, choose_no}
use Rattle.effects.specs.Satisfying.{next_tally}
use Rattle.effects.proofs.satisfying.next_tally.Goals as goal

pub returns-then-j-eq0 : goal.returns-then-j-eq0
unfolding next_tally
returns-then-j-eq0 c = sym (choose_yes _ _ _ c.if-j-eq0.true)

pub returns-else-j-eq0 : goal.returns-else-j-eq0
unfolding next_tally
returns-else-j-eq0 c = sym (choose_no _ _ _ c.if-j-eq0.false)
