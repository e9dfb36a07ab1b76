-- `text::write_numbers` meets its contract: the bytes of the numbers that are left, put from the used length on, give what the
-- sheet's bytes give.
use Prim.Native.Nat.{◌+◌, ◌≤◌}
use mathlib.Core.Path.{◌≡◌}
use lib.ListN.{length, drop}
use Rattle.number.specs.Number.{splice}
use Rattle.text.specs.Text.{numbers_from, encode_all, sheet_of}
use Rattle.text.proofs.write_numbers.Given as goal

abbrev pub invariant-loop-b : goal.invariant-loop-b
invariant-loop-b l =
    (length (sheet_of l.text) ≤ length l.initial.out)
    × (l.used + length (encode_all (numbers_from l.mode (drop l.b-index l.text))) ≡ length (sheet_of l.text))
    × (splice l.out l.used (encode_all (numbers_from l.mode (drop l.b-index l.text))) ≡ splice l.initial.out 0 (sheet_of l.text))
