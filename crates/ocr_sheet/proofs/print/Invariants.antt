-- `ocr_sheet::print` ends, since each part leaves less, and what it has written is the front of the sheet's output.
use Rattle.std.proofs.Common.{ℕ, List}
use Rattle.std.specs.Io.KnownBytes.{Appends}
use Rattle.sheet.specs.PartOf.{parts_left}
use Rattle.sheet.specs.Printing.{Ready}
use Rattle.ocr_sheet.proofs.SoFar.{SoFar}
use Rattle.ocr_sheet.proofs.print.Given as goal

abbrev pub invariant-loop-next : goal.invariant-loop-next
invariant-loop-next g l = record {
  ready : Ready l.memory l.lines;
  so_far : (written : List ℕ) × Appends (g.W.Write.contents l.initial.writer) (g.W.Write.contents l.writer) written
      × SoFar l.sheet written l.next l.memory;
}

abbrev pub decreases-loop-next : goal.decreases-loop-next
decreases-loop-next g l = parts_left l.sheet l.next
