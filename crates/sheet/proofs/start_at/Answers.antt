-- `sheet::start_at` meets its contract, by the cases of a sheet's start.
use mathlib.Core.Path.{sym, ◌∙◌}
use Rattle.rules.specs.FormulaLaws.{passed, failed}
use Rattle.session.specs.Table.{read}
use Rattle.rules.specs.Sound.{sound}
use Rattle.sheet.specs.WholeSheet.{start_record, start-unsound, start-head}
use Rattle.sheet.proofs.start_at.Goals as goal

pub returns-then-at-ne0 : goal.returns-then-at-ne0
returns-then-at-ne0 c =
    let a = c.args in
    start_record a.sheet.now (read a.memory.now) a.at c.if-at-ne0.true

pub returns-then-not-is_admitted : goal.returns-then-not-is_admitted
returns-then-not-is_admitted c =
    let a = c.args in
    start-unsound a.sheet.now (read a.memory.now) a.at c.if-at-ne0.false
    (failed (sound (read a.memory.now)) (sym c.is_admitted.ensures ∙ c.if-not-is_admitted.true))

pub returns : goal.returns
returns c =
    let a = c.args in
    c.read_head.ensures
    ∙ start-head a.sheet.now (read a.memory.now) a.at c.if-at-ne0.false
    (passed (sound (read a.memory.now)) (sym c.is_admitted.ensures ∙ c.if-not-is_admitted.false))
