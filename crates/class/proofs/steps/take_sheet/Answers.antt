-- `class::steps::take_sheet` meets its contract: all of the sheet was handed, or 22.
use Prim.Native.Nat.{◌-◌}
use mathlib.Core.Path.{◌∙◌}
use native.Mathlib.Omega.{arith}
use lib.ListN.{take, drop, length-take, length-drop}
use Rattle.rules.specs.FormulaLaws.{passes, fails}
use Rattle.class_rules.specs.Report.{fits}
use Rattle.class.specs.Steps.{sheet_taken}
use Rattle.class.specs.Stepped.{moved_still}
use Rattle.class.proofs.steps.take_sheet.Goals as goal

pub returns-then-report-gt-MOST : goal.returns-then-report-gt-MOST
unfolding sheet_taken
returns-then-report-gt-MOST c =
    let a = c.args in
    let rest = drop a.place a.room.now in
    let bytes = take (a.end - a.place) rest in
    rw (fails (fits bytes 0 a.report.length) (λ h. omega (arith, h.0)))
    (moved_still _ _ _ _ (c.silent.ensures.0 ∙ c.stopped.ensures) c.silent.ensures.1)

pub returns-then-end-place : goal.returns-then-end-place
unfolding sheet_taken
returns-then-end-place c =
    let a = c.args in
    let rest = drop a.place a.room.now in
    let bytes = take (a.end - a.place) rest in
    rw (fails (fits bytes 0 a.report.length)
    (λ h. omega (arith, h.1, length-take (a.end - a.place) rest, length-drop a.place a.room.now)))
    (moved_still _ _ _ _ (c.silent-then-end-place.ensures.0 ∙ c.stopped-then-end-place.ensures) c.silent-then-end-place.ensures.1)

pub returns : goal.returns
unfolding sheet_taken
returns c =
    let a = c.args in
    let rest = drop a.place a.room.now in
    let bytes = take (a.end - a.place) rest in
    rw (passes (fits bytes 0 a.report.length)
    (omega arith, omega (arith, length-take (a.end - a.place) rest, length-drop a.place a.room.now)))
    c.take_whole.ensures
