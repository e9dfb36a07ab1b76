-- `text::write_printed` meets its contract: a text that is too long, and the three answers that a text gives.
use Prim.Native.Nat.{ℕ, ◌≤◌}
use mathlib.Core.List.{List}
use mathlib.Core.Path.{◌≡◌, ap, sym, ◌∙◌}
use native.Mathlib.Omega.{arith}
use native.Mathlib.Nat.{zero-add}
use lib.ListN.{length}
use Rattle.std.proofs.Common.{Result, Ok, Err}
use Rattle.text.specs.Text.{answer, memory}
use Rattle.text.specs.TextLaws.{Says, says}
use Rattle.text.specs.TextPrinted.{most, line_text, printed_of, room_for}
use Rattle.text.specs.PrintedLaws.{printed_long, printed_sheet, printed-line, printed_short}
use Rattle.text.specs.Put.{Put}
use Rattle.text.specs.declared.Untyped.{Untyped}
use Rattle.text.specs.declared.Untyped.TheVariants.{BadLine, NoRoom}
use Rattle.text.proofs.printed.write_printed.Goals as goal

-- What an answer of `to_sheet` on a text that is not too long says of what is printed.
module _ (typed out : List ℕ) (short : length typed ≤ most) where
  told : (t : Result ℕ Untyped) → answer typed out ≡ t → Says typed out t
  told t e = rw e at (says typed out)

  sheet_put : (n : ℕ) (after : List ℕ) → answer typed out ≡ Ok n → after ≡ memory typed out
      → Put out 0 (printed_of typed) n after
  sheet_put n after e m =
      let s = told (Ok n) e in
      rw (printed_sheet typed short s.0) (record { place = s.1 ∙ sym (zero-add _); written = m ∙ s.2 })

  line-printed : (line : ℕ) → answer typed out ≡ Err (BadLine line) → printed_of typed ≡ line_text line
  line-printed line e =
      let s = told (Err (BadLine line)) e in printed-line typed short (omega (arith, s.0, s.1)) ∙ ap line_text (sym s.1)

  line-memory : (line : ℕ) (after : List ℕ) → answer typed out ≡ Err (BadLine line) → after ≡ memory typed out → after ≡ out
  line-memory line after e m = m ∙ (told (Err (BadLine line)) e).2

  never_short : room_for typed ≤ length out → answer typed out ≡ Err NoRoom → ⊥
  never_short room e = omega (arith, told (Err NoRoom) e)

pub returns-then-typed-gt-MOST : goal.returns-then-typed-gt-MOST
returns-then-typed-gt-MOST c =
    let a = c.args in
    rw (printed_long a.typed.now (omega arith)) c.write_bytes.ensures

pub write_bad_line-requires : goal.write_bad_line-requires
write_bad_line-requires c =
    let call = c.to_sheet in
    let a = c.args in
    let e : answer a.typed.now a.out.now ≡ Err (BadLine c.in-Err-BadLine.line) = cc in
    let same = ap length (line-printed a.typed.now a.out.now (omega arith) _ e) in
    omega (arith, printed_short a.typed.now, call.auto.out)

pub returns-in-Ok : goal.returns-in-Ok
returns-in-Ok c =
    let call = c.to_sheet in
    let e = sym call.ensures.answer ∙ c.in-Ok.is in
    sheet_put _ _ (omega arith) _ _ e call.ensures.bytes

pub returns-in-Err-BadLine : goal.returns-in-Err-BadLine
returns-in-Err-BadLine c =
    let call = c.to_sheet in
    let a = c.args in
    let e : answer a.typed.now a.out.now ≡ Err (BadLine c.in-Err-BadLine.line) = cc in
    let put = rw (line-memory _ _ (omega arith) _ _ e call.ensures.bytes) at c.write_bad_line.ensures in
    rw (line-printed _ _ (omega arith) _ e) put

pub unreachable-requires : goal.unreachable-requires
unreachable-requires c =
    let a = c.args in
    let e : answer a.typed.now a.out.now ≡ Err NoRoom = cc in
    never_short _ _ (omega arith) (omega arith) e
