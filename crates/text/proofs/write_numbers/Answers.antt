-- `text::write_numbers` meets its contract: the bytes of the numbers that are left, put from the used length on, give what the
-- sheet's bytes give.
use Prim.Native.Nat.{ℕ}
use mathlib.Core.List.{List}
use mathlib.Core.Path.{refl, ap, sym, ◌∙◌}
use native.Mathlib.Omega.{arith}
use lib.ListN.{length}
use Rattle.number.specs.Number.{splice}
use Rattle.number.specs.Splice.{splice_then}
use Rattle.text.specs.TextLaws.{numbers-start, bytes-step, length-step, bytes-end}
use Rattle.text.specs.SheetLength.{sheet_short}
use Rattle.text.proofs.write_numbers.Goals as goal

pub loop-b-init : goal.loop-b-init
loop-b-init c =
    let text = c.args.text.now in
    let e = numbers-start text in (omega (arith, sheet_short text, c.requires), omega (arith, ap length e), rw e refl)

pub write_ended-used-requires : goal.write_ended-used-requires
write_ended-used-requires c =
    let l = c.loop-b in
    omega (arith, length-step c.args.text.now l.mode l.b-index (omega arith) _ c.next-then.ensures)

pub loop-b-preserved : goal.loop-b-preserved
loop-b-preserved c =
    let w = c.write_ended-used.ensures in
    let after = c.next-then.ensures in
    let l = c.loop-b in
    let text = c.args.text.now in
    let more = length-step text l.mode l.b-index (omega arith) _ after in (
      l.invariant.0,
      omega (arith, w.answer),
      rw (w.bytes, w.answer) (splice_then l.out l.used _ _ (omega arith))
          ∙ ap (λ (bs : List ℕ). splice l.out l.used bs) (sym (bytes-step text l.mode l.b-index (omega arith) _ after))
          ∙ l.invariant.2,
    )

pub write_ended-requires : goal.write_ended-requires
write_ended-requires c =
    let l = c.loop-b in
    omega (arith, ap length (bytes-end c.args.text.now l.mode l.b-index (omega arith)))

pub returns : goal.returns
returns c =
    let w = c.write_ended.ensures in
    let l = c.loop-b in
    let e = bytes-end c.args.text.now l.mode l.b-index (omega arith) in
    record { answer = omega (arith, w.answer, ap length e); bytes = w.bytes ∙ (rw e at l.invariant.2) }
