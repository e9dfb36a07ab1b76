-- `class_parts::parts::report_from` meets its contract: the steps so far are a chain, and each leaves fewer.
use Rattle.class.specs.Chains.{steps_left}
use Rattle.class_parts.specs.ReportParts.{Going}
use Rattle.class_parts.proofs.parts.report_from.Given as goal

abbrev pub invariant-loop-lines : goal.invariant-loop-lines
invariant-loop-lines l =
    Going l.file l.place l.initial.part.report l.initial.memory l.memory l.initial.lines l.lines l.part.place l.part.report l.part.used

abbrev pub decreases-loop-lines : goal.decreases-loop-lines
decreases-loop-lines l = steps_left l.file l.part.place l.part.report
