-- `holding::letting::mark_after` meets its contract: of the four returns, two are where the mark is let go (`choose_yes`) and two
-- where it is kept (`choose_no`).
use mathlib.Core.Path.{sym}
use mathlib.Core.Logic.{⊎_elim, inl, inr}
use Rattle.rules.specs.FormulaLaws.{choose_yes, choose_no}
use Rattle.holding.specs.Letting.{mark_after}
use Rattle.holding.proofs.letting.mark_after.Goals as goal

pub returns-then-mark-ne-HELD : goal.returns-then-mark-ne-HELD
unfolding mark_after
returns-then-mark-ne-HELD c = sym (choose_no _ _ _ (λ x. c.if-mark-ne-HELD.true x.0))

pub returns-then-b-eq0 : goal.returns-then-b-eq0
unfolding mark_after
returns-then-b-eq0 c = sym (choose_yes _ _ _ (c.if-mark-ne-HELD.false, inl c.if-b-eq0.true))

pub returns-then-payload-b : goal.returns-then-payload-b
unfolding mark_after
returns-then-payload-b c = sym (choose_yes _ _ _ (c.if-mark-ne-HELD.false, inr c.if-payload-b.true))

pub returns : goal.returns
unfolding mark_after
returns c = sym (choose_no _ _ _ (λ x. ⊎_elim c.if-b-eq0.false c.if-payload-b.false x.1))
