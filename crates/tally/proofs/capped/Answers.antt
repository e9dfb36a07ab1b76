-- `tally::capped` meets its contract: a sum that there is no number of 64 bits for stays at the largest (`sum_stays`), another is the sum (`sum_is`).
use Rattle.std.specs.Prelude.{ℕ, ◌+◌, ◌<◌, ◌≡◌, Option, Some, None, SomeIff, unwrap_or}
use Rattle.std.proofs.Common.{sym, ◌∙◌, arith}
use Rattle.tally.specs.Raise.{most, sum_to, sum_is, sum_stays}
use Rattle.tally.proofs.capped.Goals as goal

summed : (a b : ℕ) (r : Option ℕ) → SomeIff r (a + b < 18446744073709551616) (a + b) → unwrap_or r most ≡ sum_to a b
summed a b None past = sym (sum_stays a b (omega (arith, past)))
summed a b (Some n) is = is.1 ∙ sym (sum_is a b (omega (arith, is.0)))

pub returns : goal.returns
returns c = c.unwrap_or.ensures ∙ summed c.args.a c.args.b c.checked_add.result c.checked_add.ensures
