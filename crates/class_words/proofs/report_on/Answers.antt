-- `class_words::report_on` meets its contract: words too few, a part that is refused, and a part whose report is written back.
use mathlib.Core.Path.{ap, ◌∙◌}
use Rattle.std.proofs.Common.{drop, ◌++◌, take-append-drop}
use Rattle.class_words.specs.Words.{place_of, report_of, first_place, first_report, words-written, reports_short, reports_not, reports_done}
use Rattle.class_words.proofs.report_on.Goals as goal

pub returns-in_default : goal.returns-in_default
returns-in_default c =
    let a = c.args in
    rw c.from.ensures (reports_short a.file.now a.state.now a.memory.now a.lines.now c.in_default.ensures.cases)

pub returns-in-Ok : goal.returns-in-Ok
returns-in-Ok c =
    let a = c.args in
    let first = c.in-Some.ensures.cases in
    let x = rw (
      c.place_of-place.ensures ∙ ap place_of first.same ∙ first_place a.state.now,
      c.report_of.ensures ∙ ap report_of first.same ∙ first_report a.state.now,
      c.in-Ok.is,
    ) at c.report_part.ensures in
    reports_done a.file.now a.state.now a.memory.now a.lines.now _ _ first.enough c.in-Ok.part x _
    (ap (λ l. l ++ drop 18 a.state.now) c.words_of.ensures ∙ words-written a.state.now _ _)

pub returns-in-Err : goal.returns-in-Err
returns-in-Err c =
    let a = c.args in
    let first = c.in-Some.ensures.cases in
    let x = rw (
      c.place_of-place.ensures ∙ ap place_of first.same ∙ first_place a.state.now,
      c.report_of.ensures ∙ ap report_of first.same ∙ first_report a.state.now,
      c.in-Err.is,
    ) at c.report_part.ensures in
    let same = ap (λ l. l ++ drop 18 a.state.now) first.same ∙ take-append-drop 18 a.state.now in
    rw (same, c.from-in-Err.ensures)
    (reports_not a.file.now a.state.now a.memory.now a.lines.now _ _ first.enough c.in-Err.refusal x)
