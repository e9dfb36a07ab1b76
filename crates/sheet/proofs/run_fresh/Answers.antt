-- `sheet::run_fresh` meets its contract: the session written is kept, and what is left in the first words is left in the memory
-- (`ends_first`).
use mathlib.Core.Path.{sym, ◌∙◌}
use native.Mathlib.Omega.{arith}
use Rattle.rules.specs.FormulaLaws.{passed, failed}
use Rattle.session.specs.Fresh.{fresh_session}
use Rattle.laws.specs.FreshKept.{fresh_kept}
use Rattle.sheet.specs.First.{ends_first}
use Rattle.sheet.specs.WholeSheet.{ran-not, ran-whole, ends_start, ends_then}
use Rattle.sheet.proofs.run_fresh.Goals as goal

pub returns-then-not-has_room : goal.returns-then-not-has_room
returns-then-not-has_room c =
    let a = c.args in
    rw c.not_run.ensures
    (ran-not a.sheet.now a.memory.now a.lines.now a.used fresh_session
    (λ h. failed _ (sym c.has_room.ensures ∙ c.if-not-has_room.true) h.1))

pub returns-in_default : goal.returns-in_default
returns-in_default c =
    let a = c.args in
    let short = rw c.in_default.is at c.first_chunk_mut.ensures.cases in
    rw c.not_run-in_default.ensures
    (ran-not a.sheet.now a.memory.now a.lines.now a.used fresh_session (λ h. omega (arith, h.0, short)))

pub run_at-requires : goal.run_at-requires
run_at-requires c = (
  passed _ (sym c.has_room.ensures ∙ c.if-not-has_room.false),
  λ _. rw c.put_fresh.ensures.reading fresh_kept,
  omega arith,
)

pub returns : goal.returns
returns c =
    let a = c.args in
    let ws = a.memory.now in
    let first = c.in-Some.ensures.cases in
    let room = passed _ (sym c.has_room.ensures ∙ c.if-not-has_room.false) in
    ran-whole a.sheet.now ws a.lines.now a.used fresh_session _ _ _ (first.enough, room)
    (ends_first ws _ _ _ _ first.enough
    (ends_then a.sheet.now _ _ _ a.lines.now _ a.used _ fresh_session (rw first.same at c.put_fresh.ensures)
    (ends_start a.sheet.now _ _ a.lines.now _ a.used _ c.run_at.ensures)))
