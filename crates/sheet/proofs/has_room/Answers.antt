-- `sheet::has_room` meets its contract: 32 bytes free are 32 behind the length that is used.
use native.Mathlib.Omega.{arith}
use Rattle.rules.specs.Formula.{test, Formula.◌≼◌}
use Rattle.rules.specs.FormulaLaws.{test-same}
use Rattle.sheet.specs.Run.{has_room}
use Rattle.sheet.specs.Going.{lines_of}
use Rattle.sheet.proofs.has_room.Goals as goal

pub returns : goal.returns
unfolding test
returns c =
    let a = c.args in
    let free = c.saturating_sub in
    test-same (32 ≼ free.result) (has_room (lines_of a.lines.now a.used))
    (λ h. omega (arith, h, free.ensures)) (λ h. omega (arith, h, free.ensures))
