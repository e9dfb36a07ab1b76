-- `retiring::destroying::fate_of` meets its contract: whether somebody holds the block chooses (`choose_yes`, `choose_no`).
use mathlib.Core.Path.{sym, ◌∙◌}
use Rattle.rules.specs.FormulaLaws.{choose_yes, choose_no, passed, failed}
use Rattle.retiring.specs.RetiringParts.{fate}
use Rattle.retiring.proofs.destroying.fate_of.Goals as goal

pub returns-then-is_held : goal.returns-then-is_held
unfolding fate
returns-then-is_held c = sym (choose_yes _ _ _ (passed _ (sym c.is_held.ensures ∙ c.if-is_held.true)))

pub returns-else-is_held : goal.returns-else-is_held
unfolding fate
returns-else-is_held c = sym (choose_no _ _ _ (failed _ (sym c.is_held.ensures ∙ c.if-is_held.false)))
