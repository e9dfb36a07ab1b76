-- `record::read_fields` meets its contract: the first fields are passed, and a bad one among them is remembered.
use Prim.Native.Nat.{◌<◌}
use mathlib.Core.Path.{◌≡◌, refl, ap, sym, ◌∙◌}
use native.Mathlib.Omega.{arith}
use lib.ListN.{length, take-append-drop}
use Rattle.std.specs.Prelude.{Err}
use Rattle.std.proofs.lemmas.List.{set-append_left, set-get_or}
use Rattle.record.proofs.ReadSteps.{blank_front, passed_none, passed_value, passed_bad, passed_cut, passed_refused, passed_all}
use Rattle.record.proofs.read_fields.Goals as goal
use Rattle.record.proofs.read_fields.Goals.{in-Err-Bad, in-Ok}

pub loop-field-init : goal.loop-field-init
loop-field-init c = rw take-append-drop (passed_none _ _)

pub returns-in-Err-CutShort : goal.returns-in-Err-CutShort
returns-in-Err-CutShort c =
    let l = c.loop-field in
    let a = c.args in
    sym (passed_cut _ _ l.field-index _ _ l.next l.invariant a.code a.n (omega (arith, blank_front a.n c.requires))
    (sym c.read.ensures ∙ c.in-Err-CutShort.is ∙ ap Err c.in-Err-CutShort.field-0-is))

pub loop-field-preserved : goal.loop-field-preserved
loop-field-preserved c =
    let l = c.loop-field in
    let read = sym c.read.ensures in
    let here : l.field-index < length l.field-items = omega arith in
    elim c.match-read.branch [
      | in-Ok w ↦
          rw (w.field-items-is, w.bad-is, w.next-is, ← set-append_left)
          (passed_value _ _ l.field-index _ _ l.next l.invariant _ _ (omega (arith, blank_front c.args.n c.requires)) (read ∙ w.in-Ok.is))
      | in-Err-Bad w ↦
          let past : c.match-read.next ≡ w.in-Err-Bad.past = cc in
          rw (w.field-items-is, w.bad-is, past, set-get_or)
          (passed_bad _ _ l.field-index _ _ l.next l.invariant _ (read ∙ w.in-Err-Bad.is ∙ ap Err w.in-Err-Bad.field-0-is))
    ]

pub returns-then-bad : goal.returns-then-bad
returns-then-bad c =
    let l = c.loop-field in
    let a = c.args in
    let all : l.field-index ≡ a.n = omega (arith, blank_front a.n c.requires) in
    sym (rw all at (passed_refused _ _ l.field-index _ 4 l.next (rw c.if-bad.true at l.invariant) a.code (omega arith)))

pub returns : goal.returns
returns c =
    let l = c.loop-field in
    let a = c.args in
    let all : l.field-index ≡ a.n = omega (arith, blank_front a.n c.requires) in
    sym (rw all at (passed_all _ _ l.field-index _ 0 l.next (rw c.if-bad.false at l.invariant) a.code refl))
