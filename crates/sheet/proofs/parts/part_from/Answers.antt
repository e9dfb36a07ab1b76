-- `sheet::parts::part_from` meets its contract, by the cases of where it goes on.
use Rattle.sheet.specs.PartLaws.{before_most, place-begun, at_part, last_part_lem, no_part}
use Rattle.sheet.proofs.parts.part_from.Goals as goal

pub run_at-run-requires : goal.run_at-run-requires
run_at-run-requires c =
    (c.requires.0, c.requires.1, rw c.records_before-done.ensures (before_most _ _))

pub part_of-requires : goal.part_of-requires
part_of-requires c =
    place-begun c.args.sheet.now c.args.memory.now c.args.lines.now c.well_formed.0.0 c.requires.0 _ _ _ _ _ _
    c.records_before-done.ensures c.run_at-run.ensures

pub returns-in-At : goal.returns-in-At
returns-in-At c =
    rw c.in-At.is
    (at_part c.args.sheet.now c.args.memory.now c.args.lines.now c.well_formed.0.0 c.requires.0 _ _ _ _ _ _
    c.records_before-done.ensures c.run_at-run.ensures _ _ c.part_of.ensures)

pub returns-in-LastLine : goal.returns-in-LastLine
returns-in-LastLine c =
    rw c.in-LastLine.is
    (last_part_lem c.args.sheet.now c.args.memory.now c.args.lines.now c.well_formed.0.0 c.requires.0 _ _
    c.last_part.ensures)

pub returns-in-Nothing : goal.returns-in-Nothing
returns-in-Nothing c =
    rw c.in-Nothing.is
    (no_part c.args.sheet.now c.args.memory.now c.args.lines.now c.well_formed.0.0 c.requires.0)
