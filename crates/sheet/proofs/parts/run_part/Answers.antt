-- `sheet::parts::run_part` meets its contract: too little lent (`parted_not`), or what `part_from` leaves (`parted`) of the first words
-- (`part_first`).
use mathlib.Core.Path.{sym, ◌∙◌}
use native.Mathlib.Omega.{arith}
use Rattle.std.proofs.lemmas.List.{take-append-drop}
use Rattle.session.specs.Table.{read, words}
use Rattle.rules.specs.FormulaLaws.{passed, failed}
use Rattle.rules.specs.Sound.{kept}
use Rattle.sheet.specs.First.{part_first}
use Rattle.sheet.specs.PartLaws.{parted_not, parted}
use Rattle.sheet.proofs.parts.run_part.Goals as goal

pub returns-in_default : goal.returns-in_default
returns-in_default c =
    let a = c.args in
    let short = rw c.in_default.is at c.first_chunk_mut.ensures.cases in
    parted_not a.sheet.now a.from a.memory.now a.lines.now (λ h. omega (arith, h.0, short))

pub returns-then-not-has_room : goal.returns-then-not-has_room
returns-then-not-has_room c =
    let a = c.args in
    rw (c.in-Some.ensures.cases.same, take-append-drop words a.memory.now)
    (parted_not a.sheet.now a.from a.memory.now a.lines.now
    (λ h. failed _ (sym c.has_room.ensures ∙ c.if-not-has_room.true) h.1))

pub part_from-requires : goal.part_from-requires
part_from-requires c = (
  passed _ (sym c.has_room.ensures ∙ c.if-not-has_room.false),
  λ e. passed (kept (read c.in-Some.session.now)) (sym c.is_kept-sure.ensures ∙ e),
)

pub returns : goal.returns
returns c =
    let a = c.args in
    let first = c.in-Some.ensures.cases in
    let room = passed _ (sym c.has_room.ensures ∙ c.if-not-has_room.false) in
    parted a.sheet.now a.from a.memory.now a.lines.now _ _ _ (first.enough, room)
    (part_first a.sheet.now a.from a.memory.now _ a.lines.now _ _ first.enough (rw first.same at c.part_from.ensures))
