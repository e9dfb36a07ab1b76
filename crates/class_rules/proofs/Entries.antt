-- The entries of a class file are as many as are announced or fewer, no sheet too long, and no learner lower than the one before.
use Rattle.std.specs.Prelude.{ℕ, zero, suc, ◌+◌, List, drop}
use Rattle.std.proofs.Common.{arith, length-take}
use Rattle.number.specs.Number.{limit32}
use Rattle.number.specs.NumberRoundTrip.{value-next}
use Rattle.rules.specs.Formula.{Formula.◌≼◌}
use Rattle.rules.specs.FormulaLaws.{choose_case}
use Rattle.class_rules.specs.Report.{stopped, fits, entries_at, class_of}
use Rattle.class_rules.specs.Entries.{met_case, Read}

-- none at all
read_none : (left before n : ℕ) → Read left before (stopped n)
read_none left before n = record { few = omega arith; ordered = tt }

-- the entries from a place on
read_entries : (file : List ℕ) (left at before : ℕ) → Read left before (entries_at file left at before)
unfolding entries_at
read_entries file zero at before = read_none 0 before 0
read_entries file (suc left) at before =
    let P = Read (suc left) before in
    let stop = read_none (suc left) before in
    met_case P _ _ (stop 3) (stop 4) (λ learner a _.
    met_case P _ _ (stop 3) (stop 4) (λ turn b _.
    met_case P _ _ (stop 3) (stop 4) (λ size c _.
    choose_case P (fits file c size) _ _
    (λ h. choose_case P (before ≼ learner) _ _
    (λ up. let more = read_entries file left (c + size) learner in
    record { few = omega arith; ordered = (up, omega (arith, h.0, length-take size (drop c file)), more.ordered) })
    (λ _. stop 23))
    (λ _. stop 22))))

-- The theorem: so are a class file's.
pub read-class : (file : List ℕ) → Read limit32 0 (class_of file)
unfolding class_of
read-class file =
    met_case (Read limit32 0) _ _ (read_none limit32 0 3) (read_none limit32 0 4) (λ count at is.
    let all = read_entries file count at 0 in
    record { few = omega (arith, value-next limit32 file 0 count at is); ordered = all.ordered })
