-- `sheet::parts::part_of` meets its contract: without room it goes on (`going-told`), else its last part comes (`going_last`).
use Rattle.std.proofs.Common.{rules}
use Rattle.sheet.specs.Told.{ended_told, told_no_room}
use Rattle.sheet.specs.PartLaws.{going-told, going_last}
use Rattle.sheet.proofs.parts.part_of.Goals as goal

pub returns-then-eq : goal.returns-then-eq
returns-then-eq c =
    let a = c.args in
    going-told a.memory.now a.lines.now (ended_told a.run) (search rules)

pub returns : goal.returns
returns c =
    let a = c.args in
    going_last a.memory.now a.lines.now (ended_told a.run) _ _
    (λ e. let h = rw (told_no_room a.run.ending e) at c.eq.ensures in search rules) c.last_part.ensures
