-- `rules::last_of` meets its contract, in both cases (`choose_yes`, `choose_no`).
use mathlib.Core.Path.{sym}
use native.Mathlib.Omega.{arith}
use Rattle.rules.specs.FormulaLaws.{choose_yes, choose_no}
use Rattle.rules.proofs.last_of.Goals as goal

pub returns-then-edition-le1 : goal.returns-then-edition-le1
returns-then-edition-le1 c = record { answer = sym (choose_yes _ _ _ (omega arith)); few = omega arith }

pub returns : goal.returns
returns c = record { answer = sym (choose_no _ _ _ (λ l. omega arith)); few = omega arith }
