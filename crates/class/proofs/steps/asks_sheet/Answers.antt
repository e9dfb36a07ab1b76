-- `class::steps::asks_sheet` meets its contract, by whether the length is at most the most bytes of a sheet.
use mathlib.Core.Path.{sym}
use native.Mathlib.Omega.{arith}
use Rattle.rules.specs.Formula.{Formula.◌≼◌}
use Rattle.rules.specs.FormulaLaws.{choose_yes, choose_no}
use Rattle.class_rules.specs.Report.{most_bytes}
use Rattle.class.proofs.steps.asks_sheet.Goals as goal

pub returns-then-length-gt-MOST : goal.returns-then-length-gt-MOST
returns-then-length-gt-MOST c = record { told = sym (choose_no (_ ≼ most_bytes) _ 0 (λ h. omega arith)); most = omega arith }

pub returns : goal.returns
returns c = record { told = sym (choose_yes (_ ≼ most_bytes) _ 0 (omega arith)); most = omega arith }
