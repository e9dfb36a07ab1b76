-- `sheet::is_admitted` meets its contract: a kept session is sound.
use mathlib.Core.Path.{sym, ◌∙◌}
use native.Mathlib.Omega.{arith}
use Rattle.rules.specs.FormulaLaws.{passes}
use Rattle.laws.specs.ByName.{kept-sound}
use Rattle.session.specs.Table.{read}
use Rattle.rules.specs.Sound.{sound}
use Rattle.sound.specs.RulesInOrder.{memory_tested}
use Rattle.sheet.proofs.is_admitted.Goals as goal

pub returns-then-sure : goal.returns-then-sure
returns-then-sure c =
    let ws = c.args.memory.now in
    c.if-sure.true ∙ sym (passes (sound (read ws)) (kept-sound (read ws) (c.requires c.if-sure.true)))

pub returns-else-sure : goal.returns-else-sure
returns-else-sure c =
    c.is_sound.ensures ∙ memory_tested c.args.memory.now (omega arith)
