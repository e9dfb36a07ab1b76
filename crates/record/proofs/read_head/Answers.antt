-- `record::read_head` meets its contract, by the cases of the sheet's first number.
use mathlib.Core.Path.{◌≡◌, sym, ◌∙◌}
use borrow.Author.Rules.{rules}
use Rattle.std.specs.Prelude.{Err}
use Rattle.rules.specs.FormulaLaws.{passed, failed}
use Rattle.rules.specs.Refusals.{number_some}
use Rattle.record.specs.SheetLaws.{head_unread, head_edition, head-other}
use Rattle.record.proofs.read_head.Goals as goal

pub returns-in_err-edition : goal.returns-in_err-edition
returns-in_err-edition c =
    let told : c.from_residual.result ≡ Err c.in_err-edition.field-0.0 = search rules in
    rw told (sym (head_unread _ _ (number_some _) c.in_err-edition.ensures))

pub returns-then-is_edition : goal.returns-then-is_edition
returns-then-is_edition c =
    sym (head_edition _ _ _ c.in_ok-edition.ensures (passed _ (sym c.is_edition.ensures ∙ c.if-is_edition.true)))

pub returns-else-is_edition : goal.returns-else-is_edition
returns-else-is_edition c =
    sym (head-other _ _ _ c.in_ok-edition.ensures (failed _ (sym c.is_edition.ensures ∙ c.if-is_edition.false)))
