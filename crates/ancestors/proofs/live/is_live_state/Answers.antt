-- `ancestors::live::is_live_state` meets its contract: no state is no live one (`wrong`), and of any other the second part decides
-- (`test_and`).
use mathlib.Core.Path.{sym, ◌∙◌}
use native.Mathlib.Omega.{arith}
use Rattle.rules.specs.FormulaLaws.{test_and}
use Rattle.rules.specs.Bools.{test_le}
use Rattle.reading.specs.TestLaws.{wrong}
use Rattle.ancestors.proofs.live.is_live_state.Goals as goal

pub returns-then-state-eq0 : goal.returns-then-state-eq0
returns-then-state-eq0 c =
    let e = c.get-state.ensures in
    let z = c.if-state-eq0.true in
    wrong _ (λ x. let m = x.0 in omega arith)

pub returns : goal.returns
returns c =
    let e = c.get-state.ensures in
    let some = c.if-state-eq0.false in
    rw e (sym (test_le _ _) ∙ sym (test_and _ _ (omega arith)))
