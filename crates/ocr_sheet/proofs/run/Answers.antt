-- `ocr_sheet::run` lends a fresh session and room for lines, and prints the sheet that is the front of what it reads.
use Rattle.std.proofs.Common.{ℕ, ◌≤◌, ◌<◌, ◌≡◌, List, arith, rules, length, take, length-take-le}
use Rattle.std.proofs.lemmas.Result.{on_ok_weaker}
use Rattle.std.specs.Prelude.{Option, IfSome}
use Rattle.std.specs.Io.KnownBytes.{Appends, Consumes, IsAtEnd}
use lib.ListN.{replicate, length-replicate}
use Rattle.streams.specs.Fronts.{of_front}
use Rattle.session.specs.Table.{words}
use Rattle.session.specs.FreshLaws.{leaves-written}
use Rattle.sheet.specs.Printing.{ready-fresh}
use Rattle.sheet.specs.SheetPrinted.{output}
use Rattle.ocr_sheet.proofs.run.Goals as goal

-- what was read is the front of the stream
written : (old new before after : Option (List ℕ)) (n : ℕ) (memory : List ℕ) → n ≤ length memory → length memory ≡ 32768
    → Consumes old new (take n memory) → (n < length memory → IsAtEnd new) → Appends before after (output (take n memory))
    → IfSome old (λ input. Appends before after (output (take 32768 input)))
written old new before after n memory fits long came ended w =
    of_front old new (take n memory) 32768 (λ sheet. Appends before after (output sheet))
    (λ input. Appends before after (output (take 32768 input)))
    (λ input p. p) came
    (omega (arith, length-take-le n memory fits)) (λ h. ended (omega (arith, length-take-le n memory fits)))
    w

pub print-requires-clause-ready : goal.print-requires-clause-ready
print-requires-clause-ready g c =
    let m = length-replicate {A = ℕ} words 0 in
    let n = length-replicate {A = ℕ} 16384 0 in
    ready-fresh (replicate words 0) _ (replicate 16384 0) (omega arith) (omega arith) (leaves-written (omega arith) c.put_fresh.ensures)

pub returns : goal.returns
returns g c =
    let read = c.in_ok-n.ensures in
    on_ok_weaker c.print.result
    (written _ _ _ _ c.in_ok-n.n c.read_full.new.memory read.in_bounds.0 (search rules) read.came read.ended)
    c.print.ensures
