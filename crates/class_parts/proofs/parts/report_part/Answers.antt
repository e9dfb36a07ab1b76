-- `class_parts::parts::report_part` meets its contract: check 1, and then the steps from a fresh session.
use Rattle.std.proofs.Common.{arith, ◌∙◌}
use Rattle.class_parts.specs.ReportParts.{min-least, parted_not, parted_first}
use Rattle.class_parts.proofs.parts.report_part.Goals as goal

pub returns-then-lines-lt-ROOM : goal.returns-then-lines-lt-ROOM
returns-then-lines-lt-ROOM c =
    let a = c.args in
    parted_not a.file.now a.place a.report a.memory.now a.lines.now (λ h. omega (arith, h.0))

pub returns-in_default : goal.returns-in_default
returns-in_default c =
    let a = c.args in
    parted_not a.file.now a.place a.report a.memory.now a.lines.now (λ h. omega (arith, h.1, c.in_default.ensures.cases))

pub report_from-requires : goal.report_from-requires
report_from-requires c =
    record { fresh = c.put_fresh.ensures.reading; place_in_bounds = (omega (arith, c.min.ensures), omega arith) }

pub returns : goal.returns
returns c =
    let a = c.args in
    let first = c.in-Some.ensures.cases in
    parted_first a.file.now a.place a.report a.memory.now a.lines.now _ _ _ _ _ (omega arith, first.enough)
    (rw first.same at c.put_fresh.ensures) (c.min.ensures ∙ min-least _ _) c.report_from.ensures
