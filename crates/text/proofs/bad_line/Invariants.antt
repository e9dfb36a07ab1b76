-- `text::bad_line` meets its contract: what the rest of the text gives from here is what the whole text gives.
use mathlib.Core.Path.{◌≡◌}
use Prim.Native.Nat.{◌+◌, ◌≤◌}
use lib.ListN.{drop}
use Rattle.text.specs.Text.{bad_line_from, bad_line}
use Rattle.text.proofs.bad_line.Given as goal

abbrev pub invariant-loop-b : goal.invariant-loop-b
invariant-loop-b l =
    (1 ≤ l.line) × (l.line ≤ l.b-index + 1) × (bad_line_from l.mode l.line (drop l.b-index l.text) ≡ bad_line l.text)
