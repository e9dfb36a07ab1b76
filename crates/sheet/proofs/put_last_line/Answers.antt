-- `sheet::put_last_line` meets its contract: too little lent (`closes_not`), or the counts in a line that fits (`closes_by`).
use mathlib.Core.Path.{◌≡◌, ap, sym, ◌∙◌}
use native.Mathlib.Omega.{arith}
use Rattle.session.specs.Table.{Session, read}
use Rattle.session.specs.First.{read_first}
use Rattle.session.specs.declared.Field.TheVariants.{Dropped}
use Rattle.rules.specs.FormulaLaws.{passed, failed}
use Rattle.rules.specs.LastLine.{live_tasks, undelivered_links}
use Rattle.sheet.specs.Closing.{closes_not, closes_by, line-closing}
use Rattle.sheet.proofs.put_last_line.Goals as goal

pub put_line-requires : goal.put_line-requires
put_line-requires c =
    let room = passed _ (sym c.has_room.ensures ∙ c.if-has_room.true) in
    let few = c.live_tasks-tasks.ensures.few in
    let more = c.undelivered_links-links.ensures.few in
    omega (
      arith,
      room,
      line-closing c.live_tasks-tasks.result c.undelivered_links-links.result
          c.get-dropped.result (omega (arith, few)) (omega (arith, more)) (omega arith),
    )

pub returns-in-Some : goal.returns-in-Some
returns-in-Some c =
    let a = c.args in
    let first = c.in-Some.ensures.cases in
    let room = passed _ (sym c.has_room.ensures ∙ c.if-has_room.true) in
    let same : read c.in-Some.first.now ≡ read a.memory.now = ap read first.same ∙ read_first a.memory.now in
    let w = c.put_line.ensures in
    let few = c.live_tasks-tasks.ensures in
    let more = c.undelivered_links-links.ensures in
    closes_by a.memory.now a.lines.now a.used (first.enough, room) _ _ _ _ _
    (few.answer ∙ ap live_tasks same) (more.answer ∙ ap undelivered_links same)
    (c.get-dropped.ensures ∙ ap (λ (s : Session). s Dropped 0) same)
    (line-closing _ _ _ (omega (arith, few.few)) (omega (arith, more.few)) (omega arith)) w.bytes w.answer

pub returns-in_default : goal.returns-in_default
returns-in_default c =
    let a = c.args in
    closes_not a.memory.now a.lines.now a.used (λ h. failed _ (sym c.has_room.ensures ∙ c.if-has_room.false) h.1)

pub returns-in_default-2 : goal.returns-in_default-2
returns-in_default-2 c =
    let a = c.args in
    let short = rw c.in_default.is at c.first_chunk.ensures.cases in
    closes_not a.memory.now a.lines.now a.used (λ h. omega (arith, h.0, short))
