-- `class_words::pending_of` meets its contract, by the word that says whether a sheet is pending.
use mathlib.Core.Path.{sym}
use Rattle.rules.specs.Formula.{Formula.◌≐◌}
use Rattle.rules.specs.FormulaLaws.{choose_yes, choose_no}
use Rattle.class_words.specs.Words.{pending_of}
use Rattle.class_words.proofs.pending_of.Goals as goal

pub returns-then-words-eq0 : goal.returns-then-words-eq0
unfolding pending_of
returns-then-words-eq0 c = sym (choose_yes (_ ≐ 0) _ _ c.if-words-eq0.true)

pub returns : goal.returns
unfolding pending_of
returns c = sym (choose_no (_ ≐ 0) _ _ c.if-words-eq0.false)
