-- `sheet::run_record` meets its contract, by the cases of a record.
use Prim.Native.Nat.{◌≤◌}
use mathlib.Core.Path.{ap, sym, ◌∙◌}
use native.Mathlib.Omega.{arith}
use lib.Dec.{lit<}
use Rattle.session.specs.Table.{read}
use Rattle.rules.specs.Formula.{Holds}
use Rattle.rules.specs.FormulaLaws.{passed, failed}
use Rattle.rules.specs.Sound.{sound}
use Rattle.rules.specs.Refusals.{number, number_some}
use Rattle.record.specs.RecordReading.{record_told}
use Rattle.record.specs.RecordRoundTrip.{record_refusals}
use Rattle.sheet.specs.Run.{has_room}
use Rattle.sheet.specs.Going.{lines_of, goes_full, goes_unsound, goes_refused, goes_on}
use Rattle.sheet.proofs.run_record.Goals as goal

pub returns-then-not-has_room : goal.returns-then-not-has_room
returns-then-not-has_room c =
    let a = c.args in
    let p = c.requires in
    goes_full a.sheet.now a.at a.k a.memory.now a.lines.now a.used.now p.1
    (failed _ (sym c.has_room.ensures ∙ c.if-not-has_room.true))

pub put_answer-requires : goal.put_answer-requires
put_answer-requires c =
    let room : (let a = c.args in Holds (has_room (lines_of a.lines.now a.used.now))) =
    passed _ (sym c.has_room.ensures ∙ c.if-not-has_room.false) in
    (room, omega (arith, c.from.ensures), lit< tt)

pub returns-then-not-is_admitted : goal.returns-then-not-is_admitted
returns-then-not-is_admitted c =
    let room : (let a = c.args in Holds (has_room (lines_of a.lines.now a.used.now))) =
    passed _ (sym c.has_room.ensures ∙ c.if-not-has_room.false) in
    let a = c.args in
    let p = c.requires in
    goes_unsound a.sheet.now a.at a.k a.memory.now a.lines.now a.used.now p.1
    (room) _ _ (failed _ (sym c.is_admitted.ensures ∙ c.if-not-is_admitted.true))
    (rw c.from.ensures at c.put_answer.ensures)

pub answer_record-requires : goal.answer_record-requires
answer_record-requires c =
    let room : (let a = c.args in Holds (has_room (lines_of a.lines.now a.used.now))) =
    passed _ (sym c.has_room.ensures ∙ c.if-not-has_room.false) in
    let is-sound : (let a = c.args in Holds (sound (read a.memory.now))) =
    passed _ (sym c.is_admitted.ensures ∙ c.if-not-is_admitted.false) in
    (is-sound, room)

pub returns-in-Ok : goal.returns-in-Ok
returns-in-Ok c =
    let room : (let a = c.args in Holds (has_room (lines_of a.lines.now a.used.now))) =
    passed _ (sym c.has_room.ensures ∙ c.if-not-has_room.false) in
    let is-sound : (let a = c.args in Holds (sound (read a.memory.now))) =
    passed _ (sym c.is_admitted.ensures ∙ c.if-not-is_admitted.false) in
    let a = c.args in
    let p = c.requires in
    let e = sym (ap record_told c.in-Ok.is) ∙ (rw p.3 at c.read_record.ensures) in
    let operation = ap (λ r. r.operation) e in
    let w = c.answer_record.ensures in
    rw (ap (λ r. r.next) e) (goes_on a.sheet.now a.at a.k a.memory.now a.lines.now a.used.now p.1
    (room) _ _ (is-sound) _ (sym (ap (λ r. r.refused) e)) (rw operation at w.session) (rw operation at w.line))

pub put_answer-requires-in-Err : goal.put_answer-requires-in-Err
put_answer-requires-in-Err c =
    let room : (let a = c.args in Holds (has_room (lines_of a.lines.now a.used.now))) =
    passed _ (sym c.has_room.ensures ∙ c.if-not-has_room.false) in
    let a = c.args in
    let e = sym (ap record_told c.in-Err.is) ∙ c.read_record.ensures in
    let small : number c.in-Err.refusal ≤ 6 = rw (ap (λ r. r.refused) e) (record_refusals _ _ _) in (
      room,
      omega (arith, small, c.from-in-Err.ensures),
      lit< tt,
    )

pub returns-in-Err : goal.returns-in-Err
returns-in-Err c =
    let room : (let a = c.args in Holds (has_room (lines_of a.lines.now a.used.now))) =
    passed _ (sym c.has_room.ensures ∙ c.if-not-has_room.false) in
    let is-sound : (let a = c.args in Holds (sound (read a.memory.now))) =
    passed _ (sym c.is_admitted.ensures ∙ c.if-not-is_admitted.false) in
    let a = c.args in
    let p = c.requires in
    let e = sym (ap record_told c.in-Err.is) ∙ (rw p.3 at c.read_record.ensures) in
    let refused = ap (λ r. r.refused) e in
    rw refused (goes_refused a.sheet.now a.at a.k a.memory.now a.lines.now a.used.now p.1
    (room) _ _ (is-sound)
    (λ z. omega (arith, refused, z, number_some c.in-Err.refusal))
    (rw (c.from-in-Err.ensures, refused) at c.put_answer-in-Err.ensures))
