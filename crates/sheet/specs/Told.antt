-- How a run ended and how the last line was written, in document 01's numbers.
use Rattle.std.proofs.Common.{ap, arith}
use Rattle.std.specs.Prelude.{ℕ, ◌≡◌, Result, Result.Ok, Result.Err}
use Rattle.rules.specs.declared.refusals.Refusal.{Refusal}
use Rattle.rules.specs.declared.refusals.Refusal.TheVariants.{NoRoom}
use Rattle.rules.specs.Refusals.{number, refusal_told, same_refusal}
use Rattle.sheet.specs.declared.Ended.{Ended as Answered}

-- How a run ended: the length of the lines, the place of the record that was not run or of the sheet's end, the number of the
-- record begun last (0 for the sheet's first number), and the refusal that ended it, 0 at the sheet's end.
pub record Ended : Type 0 where
  pub used : ℕ
  pub place : ℕ
  pub number : ℕ
  pub ending : ℕ

abbrev pub ended_told : Answered → Ended
ended_told e = record { used = e.used; place = e.place; number = e.number; ending = refusal_told e.ending }

pub told_no_room : {A : Type 0} (r : Result A Refusal) → refusal_told r ≡ 1 → r ≡ Err NoRoom
told_no_room (Ok a) e = absurd (omega arith)
told_no_room (Err r) e = ap Err (same_refusal r NoRoom e)

-- How the last line was written: the refusal, 0 if it was, and the length of the lines.
pub record Closed : Type 0 where
  pub refused : ℕ
  pub used : ℕ

-- what the code answers of it: the new length, or a refusal, under which the length stays
abbrev pub closed_told : ℕ → Result ℕ Refusal → Closed
closed_told used (Ok longer) = record { refused = 0; used = longer }
closed_told used (Err refusal) = record { refused = number refusal; used = used }
