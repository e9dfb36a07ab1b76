-- How long a report's lines are: every one fits into the room that is asked for.
use Rattle.std.specs.Prelude.{ℕ, ◌^◌, ◌≤◌, ◌<◌, length}
use Rattle.std.proofs.Common.{arith}
use Rattle.lines.specs.Line.{marked}
use Rattle.lines.specs.LineLaws.{digits_bound, marked-length}

-- a word of 64 bits and its mark
pub marked-most : (v mark : ℕ) → v < 2 ^ 64 → length (marked v mark) ≤ 21
marked-most v mark h = omega (arith, digits_bound 19 v (omega arith), marked-length v mark)
