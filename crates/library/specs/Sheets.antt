-- How a sheet's run ended, by its four numbers, and the last line, by its two.
use Rattle.std.specs.Prelude.{ℕ}
use Rattle.sheet.specs.Told.{Ended, Closed}

abbrev pub ended_by : ℕ → ℕ → ℕ → ℕ → Ended
ended_by used place number ending = record { used = used; place = place; number = number; ending = ending }

abbrev pub closed_by : ℕ → ℕ → Closed
closed_by refused used = record { refused = refused; used = used }
