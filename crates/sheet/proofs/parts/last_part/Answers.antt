-- `sheet::parts::last_part` meets its contract: the last line waits for room (`last_waits`) or is told (`last_told`).
use mathlib.Core.Path.{refl}
use native.Mathlib.Omega.{arith}
use Rattle.rules.specs.Refusals.{number_some}
use Rattle.sheet.specs.PartLaws.{last_waits, last_told}
use Rattle.sheet.proofs.parts.last_part.Goals as goal

pub returns-in-Ok : goal.returns-in-Ok
returns-in-Ok c =
    let a = c.args in
    last_told a.memory.now a.lines.now _ a.used _ (omega arith) (rw c.in-Ok.is at c.put_last_line.ensures) refl

pub returns-in-Err : goal.returns-in-Err
returns-in-Err c =
    let a = c.args in
    last_waits a.memory.now a.lines.now _ a.used _ (omega arith) (rw c.in-Err.is at c.put_last_line.ensures)
    (λ z. omega (arith, number_some c.in-Err.field-0, z))
