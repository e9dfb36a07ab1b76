-- `sheet::parts::run_part_from` meets its contract: a part of the first words is one of the memory (`part_first`).
use Rattle.session.specs.First.{read_first}
use Rattle.sheet.specs.First.{part_first}
use Rattle.sheet.proofs.parts.run_part_from.Goals as goal

pub part_from-requires : goal.part_from-requires
part_from-requires c = (c.requires.0.1, rw (c.in-Some.ensures.cases.same, read_first c.args.memory.now) c.requires.1)

pub returns : goal.returns
returns c =
    let a = c.args in
    part_first a.sheet.now a.from a.memory.now _ a.lines.now _ _ c.requires.0.0
    (rw c.in-Some.ensures.cases.same at c.part_from.ensures)
