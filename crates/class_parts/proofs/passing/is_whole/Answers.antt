-- `class_parts::passing::is_whole` meets its contract, by the sheet's length and by what the file has left.
use mathlib.Core.Path.{ap, sym, ◌∙◌}
use native.Mathlib.Omega.{arith}
use lib.ListN.{length, drop, length-drop}
use Rattle.std.specs.Prelude.{leb}
use Rattle.std.proofs.lemmas.Bool.{lt-leb}
use Rattle.rules.specs.Formula.{test, Formula.◌≼◌}
use Rattle.rules.specs.FormulaLaws.{fails, test_and}
use Rattle.class_rules.specs.Report.{most_bytes, fits}
use Rattle.class_parts.proofs.passing.is_whole.Goals as goal

pub returns-then-sheet-le-MOST : goal.returns-then-sheet-le-MOST
unfolding test
returns-then-sheet-le-MOST c =
    let a = c.args in
    ap (leb a.sheet.length) (sym (length-drop a.sheet.place a.file.now)) ∙ sym
    (test_and (a.sheet.length ≼ most_bytes) (a.sheet.length ≼ length (drop a.sheet.place a.file.now)) c.if-sheet-le-MOST.true)

pub returns-else-sheet-le-MOST : goal.returns-else-sheet-le-MOST
returns-else-sheet-le-MOST c =
    let a = c.args in
    lt-leb a.sheet.length 32768 c.if-sheet-le-MOST.false
    ∙ sym (fails (fits a.file.now a.sheet.place a.sheet.length) (λ h. omega (arith, h.0)))
