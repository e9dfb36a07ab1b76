-- `sheet::run` meets its contract: too little lent (`ran-not`), or what `run_at` leaves from the start (`ran-whole`) of the first words
-- (`ends_first`).
use mathlib.Core.Path.{sym, ◌∙◌}
use native.Mathlib.Omega.{arith}
use Rattle.std.proofs.lemmas.List.{take-append-drop}
use Rattle.session.specs.Table.{read, words}
use Rattle.session.specs.First.{read_first}
use Rattle.rules.specs.FormulaLaws.{passed, failed}
use Rattle.rules.specs.Sound.{kept}
use Rattle.sheet.specs.First.{ends_first}
use Rattle.sheet.specs.WholeSheet.{ran-not, ran-whole, ends_start}
use Rattle.sheet.proofs.run.Goals as goal

pub returns-in_default : goal.returns-in_default
returns-in_default c =
    let a = c.args in
    let short = rw c.in_default.is at c.first_chunk_mut.ensures.cases in
    rw c.not_run.ensures
    (ran-not a.sheet.now a.memory.now a.lines.now a.used (read a.memory.now) (λ h. omega (arith, h.0, short)))

pub run_at-requires : goal.run_at-requires
run_at-requires c = (
  passed _ (sym c.has_room.ensures ∙ c.if-has_room.true),
  λ e. passed (kept (read c.in-Some.session.now)) (sym c.is_kept-sure.ensures ∙ e),
  omega arith,
)

pub returns-then-has_room : goal.returns-then-has_room
returns-then-has_room c =
    let a = c.args in
    let ws = a.memory.now in
    let first = c.in-Some.ensures.cases in
    let room = passed _ (sym c.has_room.ensures ∙ c.if-has_room.true) in
    ran-whole a.sheet.now ws a.lines.now a.used (read ws) _ _ _ (first.enough, room)
    (ends_start a.sheet.now ws _ a.lines.now _ a.used _
    (ends_first ws _ _ _ _ first.enough (rw (first.same, read_first ws) at c.run_at.ensures)))

pub returns-else-has_room : goal.returns-else-has_room
returns-else-has_room c =
    let a = c.args in
    let ws = a.memory.now in
    rw (c.in-Some.ensures.cases.same, take-append-drop words ws, c.not_run-else-has_room.ensures)
    (ran-not a.sheet.now ws a.lines.now a.used (read ws)
    (λ h. failed _ (sym c.has_room.ensures ∙ c.if-has_room.false) h.1))
