-- "The class tally is lent to each sheet's run, which raises it, no count past its width's largest."
use Rattle.std.specs.Prelude.{ℕ, ◌+◌, ◌≤◌, ◌≡◌}
use Rattle.std.proofs.Common.{arith}
use Rattle.rules.specs.Formula.{choose, Formula.◌≼◌}
use Rattle.rules.specs.FormulaLaws.{choose_yes, choose_case}
use Rattle.sheet_counts.specs.declared.Tally.{Tally}

-- the largest number of 64 bits
abbrev pub most : ℕ
most = 18446744073709551615

-- a + b, or the largest where that is less
unfoldable pub sum_to : ℕ → ℕ → ℕ
sum_to a b = choose (a + b ≼ most) (a + b) most

-- each of the four counts of a tally, with the same one of another
abbrev pub each : (ℕ → ℕ → ℕ) → Tally → Tally → Tally
each f t c = record {
  records = f t.records c.records;
  refused = f t.refused c.refused;
  starts = f t.starts c.starts;
  dropped = f t.dropped c.dropped;
}

-- a tally raised by a sheet's four counts
unfoldable pub raise : Tally → Tally → Tally
raise = each sum_to

-- While there is room a count is the sum.
pub sum_is : (a b : ℕ) → a + b ≤ most → sum_to a b ≡ a + b
unfolding sum_to
sum_is a b room = choose_yes (a + b ≼ most) (a + b) most room

-- Past it a count is the largest.
pub sum_stays : (a b : ℕ) → most ≤ a + b → sum_to a b ≡ most
unfolding sum_to
sum_stays a b past = choose_case (λ n. n ≡ most) (a + b ≼ most) (a + b) most (λ within. omega arith) (λ _. omega arith)

-- No count is past the largest.
pub sum_fits : (a b : ℕ) → sum_to a b ≤ most
unfolding sum_to
sum_fits a b = choose_case (λ n. n ≤ most) (a + b ≼ most) (a + b) most (λ within. within) (λ _. omega arith)

-- Nor is one less than it was.
pub sum_grows : (a b : ℕ) → a ≤ most → a ≤ sum_to a b
unfolding sum_to
sum_grows a b fits = choose_case (λ n. a ≤ n) (a + b ≼ most) (a + b) most (λ _. omega arith) (λ _. fits)

-- While each count has room, each is the sum.
pub raise-is : (t c : Tally)
    → t.records + c.records ≤ most → t.refused + c.refused ≤ most → t.starts + c.starts ≤ most
    → t.dropped + c.dropped ≤ most
    → raise t c ≡ each (λ a b. a + b) t c
unfolding raise
raise-is t c records refused starts dropped i = record {
  records = sum_is t.records c.records records i;
  refused = sum_is t.refused c.refused refused i;
  starts = sum_is t.starts c.starts starts i;
  dropped = sum_is t.dropped c.dropped dropped i;
}

-- No count of a tally raised is past the largest.
pub raise-fits : (t c : Tally)
    → ((raise t c).records ≤ most) × ((raise t c).refused ≤ most) × ((raise t c).starts ≤ most) × ((raise t c).dropped ≤ most)
unfolding raise
raise-fits t c = (
  sum_fits t.records c.records,
  sum_fits t.refused c.refused,
  sum_fits t.starts c.starts,
  sum_fits t.dropped c.dropped,
)

-- A tally whose counts are such sums is the tally raised.
pub raise-each : (t c : Tally) (a b d e : ℕ)
    → a ≡ sum_to t.records c.records → b ≡ sum_to t.refused c.refused → d ≡ sum_to t.starts c.starts
    → e ≡ sum_to t.dropped c.dropped
    → record { records = a; refused = b; starts = d; dropped = e } ≡ raise t c
unfolding raise
raise-each t c a b d e records refused starts dropped i =
    record { records = records i; refused = refused i; starts = starts i; dropped = dropped i }
