-- `sheet::is_kept` meets its contract: kept is sound and settled.
use mathlib.Core.Path.{sym, ◌∙◌}
use native.Mathlib.Omega.{arith}
use Rattle.session.specs.Table.{read}
use Rattle.rules.specs.Formula.{Holds}
use Rattle.rules.specs.FormulaLaws.{passed, failed}
use Rattle.rules.specs.Sound.{sound}
use Rattle.sound.specs.RulesInOrder.{memory_tested}
use Rattle.sheet.specs.Settled.{kept_test, kept-not}
use Rattle.sheet.proofs.is_kept.Goals as goal

pub returns-else-is_sound : goal.returns-else-is_sound
returns-else-is_sound c =
    let tested = memory_tested c.args.memory.now (omega arith) in
    c.if-is_sound.false ∙ sym (kept-not _ (failed _ (sym (c.is_sound.ensures ∙ tested) ∙ c.if-is_sound.false)))

pub is_settled-requires : goal.is_settled-requires
is_settled-requires c =
    let is-sound : (let ws = c.args.memory.now in Holds (sound (read ws))) =
    let tested = memory_tested c.args.memory.now (omega arith) in
    passed _ (sym (c.is_sound.ensures ∙ tested) ∙ c.if-is_sound.true) in
    is-sound

pub returns-then-is_sound : goal.returns-then-is_sound
returns-then-is_sound c =
    let is-sound : (let ws = c.args.memory.now in Holds (sound (read ws))) =
    let tested = memory_tested c.args.memory.now (omega arith) in
    passed _ (sym (c.is_sound.ensures ∙ tested) ∙ c.if-is_sound.true) in
    c.is_settled.ensures ∙ sym (kept_test _ (is-sound))
