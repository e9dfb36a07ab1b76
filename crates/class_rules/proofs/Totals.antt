-- The sums are the totals over the printed sheets, no count past its width's largest.
use Rattle.std.specs.Prelude.{ℕ, ◌+◌, ◌*◌, ◌≤◌, List, [], ◌∷◌, ◌≡◌, length}
use Rattle.std.proofs.Common.{ap, ◌∙◌, arith}
use Rattle.rules.specs.FormulaLaws.{choose_case}
use Rattle.sheet_counts.specs.declared.Tally.{Tally}
use Rattle.sheet_counts.specs.Answers.{counts_of, no_counts}
use Rattle.sheet_counts.specs.Bounds.{bounds}
use Rattle.tally.specs.Raise.{most, raise, raise-is}
use Rattle.class_rules.specs.Report.{Entry, class_of, is_counted, counted_in, counted, plus, totals}
use Rattle.class_rules.specs.Entries.{InOrder}
use Rattle.class_rules.proofs.Entries.{read-class}
use Rattle.class_rules.specs.Totals.{raised_by}

-- None of the four counts is above n.
abbrev Within : ℕ → Tally → Type 0
Within n t = (t.records ≤ n) × (t.refused ≤ n) × (t.starts ≤ n) × (t.dropped ≤ n)

-- Tallies with the same counts are the same.
same : (t u : Tally) → (t.records ≡ u.records) × (t.refused ≡ u.refused) × (t.starts ≡ u.starts) × (t.dropped ≡ u.dropped)
    → t ≡ u
same t u e i = record { records = e.0 i; refused = e.1 i; starts = e.2 i; dropped = e.3 i }

-- No count of a sheet in a class is above this.
abbrev most_count : ℕ
most_count = 32769

-- a tally with room for some entries is raised by the totals over those of them that count
sums : (t : Tally) (n before : ℕ) (seen es : List Entry) → InOrder before es → Within n t → n + length es * most_count ≤ most
    → raised_by t (counted_in seen es) ≡ plus t (totals (counted_in seen es))
unfolding counted_in raised_by totals
sums t n before seen [] o h room = same t (plus t no_counts) (omega arith)
sums t n before seen (e ∷ more) o h room =
    let counts = counts_of e.sheet in
    let b = bounds e.sheet in
    let rest = counted_in (e ∷ seen) more in
    let is : raise t counts ≡ plus t counts = raise-is t counts (omega arith) (omega arith) (omega arith) (omega arith) in
    choose_case (λ l. raised_by t l ≡ plus t (totals l)) (is_counted seen e more) (e ∷ rest) rest
    (λ _. ap (λ (u : Tally). raised_by u rest) is
    ∙ sums (plus t counts) (n + most_count) e.learner (e ∷ seen) more o.2 (omega arith) (omega arith)
    ∙ same (plus (plus t counts) (totals rest)) (plus t (plus counts (totals rest))) (omega arith))
    (λ _. sums t n e.learner (e ∷ seen) more o.2 h (omega arith))

-- The theorem: the sums are the totals.
pub sums_totals : (file : List ℕ) → raised_by no_counts (counted (class_of file)) ≡ totals (counted (class_of file))
sums_totals file =
    let all = read-class file in
    let t = totals (counted (class_of file)) in
    sums no_counts 0 0 [] (class_of file).entries all.ordered (omega arith) (omega arith)
    ∙ same (plus no_counts t) t (omega arith)
