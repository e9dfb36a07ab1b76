-- Small class files, and their reports by hand: the definitions compute the same.
use Rattle.std.specs.Prelude.{ℕ, List, [], ◌∷◌, ◌++◌, ◌≡◌, refl, length}
use Rattle.decimal.specs.Decimal.{decimal, decimal_in}
use Rattle.lines.specs.Line.{marked}
use Rattle.number.specs.Number.{more, value, last_byte, shortest, judged, read_first, read_at}
use Rattle.rules.specs.Formula.{test}
use Rattle.sheet_counts.specs.Edges.{edges_hold as counted}
use Rattle.class_rules.specs.Report.{Entry, met, entries_at, class_of, all_in, is_counted, counted_in, head, counts_line}
use Rattle.class_rules.specs.Report.{entry_line, entry_lines, stop_line, totals, last_line, report}
use Rattle.class_rules.specs.OnePass.{printed, kept, one_pass}

-- the lines `stop 3`, `stop 4`, `stop 22`
abbrev stop3 : List ℕ
stop3 = 115 ∷ 116 ∷ 111 ∷ 112 ∷ 32 ∷ 51 ∷ 10 ∷ []

abbrev stop4 : List ℕ
stop4 = 115 ∷ 116 ∷ 111 ∷ 112 ∷ 32 ∷ 52 ∷ 10 ∷ []

abbrev stop22 : List ℕ
stop22 = 115 ∷ 116 ∷ 111 ∷ 112 ∷ 32 ∷ 50 ∷ 50 ∷ 10 ∷ []

-- an empty file
pub no_bytes : report [] ≡ head ++ stop3
unfolding report class_of met read_at read_first more counted_in totals entry_lines last_line test stop_line marked decimal decimal_in
no_bytes = refl

-- a learner number that is not in its shortest form, though the turn is missing
pub four_first : report (1 ∷ 128 ∷ 0 ∷ []) ≡ head ++ stop4
unfolding report class_of met entries_at read_at read_first judged shortest last_byte value more counted_in totals entry_lines last_line
    test stop_line marked decimal decimal_in
four_first = refl

-- no sheets: `0 0 0 0`
pub no_sheets : report (0 ∷ []) ≡ head ++ 48 ∷ 32 ∷ 48 ∷ 32 ∷ 48 ∷ 32 ∷ 48 ∷ 10 ∷ []
unfolding report class_of met entries_at read_at read_first judged shortest last_byte value more counted_in totals entry_lines last_line
    test counts_line marked decimal decimal_in
no_sheets = refl

-- an empty sheet: `7 0 1 1 0 0`, then `1 1 0 0`
pub empty_sheet : report (1 ∷ 7 ∷ 0 ∷ 0 ∷ [])
    ≡ head ++ 55 ∷ 32 ∷ 48 ∷ 32 ∷ 49 ∷ 32 ∷ 49 ∷ 32 ∷ 48 ∷ 32 ∷ 48 ∷ 10 ∷ 49 ∷ 32 ∷ 49 ∷ 32 ∷ 48 ∷ 32 ∷ 48 ∷ 10 ∷ []
unfolding report class_of met entries_at read_at read_first judged shortest last_byte value more counted_in is_counted all_in totals
    entry_lines entry_line last_line test counts_line marked decimal decimal_in
empty_sheet = rw counted.empty refl

-- two learners: `5 1 2 0 1 0`, `6 0 1 1 0 0`, then `3 1 1 0`
pub two_learners : report (2 ∷ 5 ∷ 1 ∷ 5 ∷ 1 ∷ 10 ∷ 2 ∷ 11 ∷ 2 ∷ 6 ∷ 0 ∷ 3 ∷ 1 ∷ 10 ∷ 3 ∷ [])
    ≡ head ++ (53 ∷ 32 ∷ 49 ∷ 32 ∷ 50 ∷ 32 ∷ 48 ∷ 32 ∷ 49 ∷ 32 ∷ 48 ∷ 10 ∷ 54 ∷ 32 ∷ 48 ∷ 32 ∷ 49 ∷ 32 ∷ 49 ∷ 32 ∷ 48 ∷ 32 ∷ 48 ∷
    10 ∷ 51 ∷ 32 ∷ 49 ∷ 32 ∷ 49 ∷ 32 ∷ 48 ∷ 10 ∷ [])
unfolding report class_of met entries_at read_at read_first judged shortest last_byte value more counted_in is_counted all_in totals
    entry_lines entry_line last_line test counts_line marked decimal decimal_in
two_learners = rw (counted.main_starts, counted.not_made) refl

-- more announced than there are: `5 1 0 0 0 0`, then `stop 3`
pub too_few : report (2 ∷ 5 ∷ 1 ∷ 1 ∷ 1 ∷ [])
    ≡ head ++ (53 ∷ 32 ∷ 49 ∷ 32 ∷ 48 ∷ 32 ∷ 48 ∷ 32 ∷ 48 ∷ 32 ∷ 48 ∷ 10 ∷ 115 ∷ 116 ∷ 111 ∷ 112 ∷ 32 ∷ 51 ∷ 10 ∷ [])
unfolding report class_of met entries_at read_at read_first judged shortest last_byte value more counted_in is_counted all_in totals
    entry_lines entry_line last_line test counts_line stop_line marked decimal decimal_in
too_few = rw counted.head_alone refl

-- a length past the end, of which no record is looked at
pub past_the_end : report (1 ∷ 5 ∷ 1 ∷ 2 ∷ 9 ∷ []) ≡ head ++ stop22
unfolding report class_of met entries_at read_at read_first judged shortest last_byte value more counted_in totals entry_lines last_line
    test stop_line marked decimal decimal_in
past_the_end = refl

-- a length of 32,769
pub too_long : report (1 ∷ 5 ∷ 1 ∷ 129 ∷ 128 ∷ 2 ∷ []) ≡ head ++ stop22
unfolding report class_of met entries_at read_at read_first judged shortest last_byte value more counted_in totals entry_lines last_line
    test stop_line marked decimal decimal_in
too_long = refl

-- E2. A lower turn behind a higher one: `5 1 2 0 1 0`, then `2 0 1 0`; the other sheet is not in the sums
pub lower_turn : report (2 ∷ 5 ∷ 1 ∷ 5 ∷ 1 ∷ 10 ∷ 2 ∷ 11 ∷ 2 ∷ 5 ∷ 0 ∷ 3 ∷ 1 ∷ 10 ∷ 3 ∷ [])
    ≡ head ++ (53 ∷ 32 ∷ 49 ∷ 32 ∷ 50 ∷ 32 ∷ 48 ∷ 32 ∷ 49 ∷ 32 ∷ 48 ∷ 10 ∷ 50 ∷ 32 ∷ 48 ∷ 32 ∷ 49 ∷ 32 ∷ 48 ∷ 10 ∷ [])
unfolding report class_of met entries_at read_at read_first judged shortest last_byte value more counted_in is_counted all_in totals
    entry_lines entry_line last_line test counts_line stop_line marked decimal decimal_in
lower_turn = rw counted.main_starts refl

-- of equal turns the later: `5 1 1 1 0 0`, then `1 1 0 0`
pub equal_turns : report (2 ∷ 5 ∷ 1 ∷ 5 ∷ 1 ∷ 10 ∷ 2 ∷ 11 ∷ 2 ∷ 5 ∷ 1 ∷ 3 ∷ 1 ∷ 10 ∷ 3 ∷ [])
    ≡ head ++ (53 ∷ 32 ∷ 49 ∷ 32 ∷ 49 ∷ 32 ∷ 49 ∷ 32 ∷ 48 ∷ 32 ∷ 48 ∷ 10 ∷ 49 ∷ 32 ∷ 49 ∷ 32 ∷ 48 ∷ 32 ∷ 48 ∷ 10 ∷ [])
unfolding report class_of met entries_at read_at read_first judged shortest last_byte value more counted_in is_counted all_in totals
    entry_lines entry_line last_line test counts_line stop_line marked decimal decimal_in
equal_turns = rw counted.not_made refl

-- three turns of one learner, and another learner: `5 3 2 0 1 0`, `6 0 1 1 0 0`, then `3 1 1 0`
pub turns : report (4 ∷ 5 ∷ 1 ∷ 1 ∷ 1 ∷ 5 ∷ 3 ∷ 5 ∷ 1 ∷ 10 ∷ 2 ∷ 11 ∷ 2 ∷ 5 ∷ 2 ∷ 1 ∷ 1 ∷ 6 ∷ 0 ∷ 0 ∷ [])
    ≡ head ++ (53 ∷ 32 ∷ 51 ∷ 32 ∷ 50 ∷ 32 ∷ 48 ∷ 32 ∷ 49 ∷ 32 ∷ 48 ∷ 10 ∷ 54 ∷ 32 ∷ 48 ∷ 32 ∷ 49 ∷ 32 ∷ 49 ∷ 32 ∷ 48 ∷ 32 ∷ 48 ∷
    10 ∷ 51 ∷ 32 ∷ 49 ∷ 32 ∷ 49 ∷ 32 ∷ 48 ∷ 10 ∷ [])
unfolding report class_of met entries_at read_at read_first judged shortest last_byte value more counted_in is_counted all_in totals
    entry_lines entry_line last_line test counts_line stop_line marked decimal decimal_in
turns = rw (counted.main_starts, counted.empty) refl

-- a lower learner: the line of the one still pending, `5 1 0 0 0 0`, then `stop 23`
pub lower_learner : report (2 ∷ 5 ∷ 1 ∷ 1 ∷ 1 ∷ 4 ∷ 9 ∷ 1 ∷ 1 ∷ [])
    ≡ head ++ (53 ∷ 32 ∷ 49 ∷ 32 ∷ 48 ∷ 32 ∷ 48 ∷ 32 ∷ 48 ∷ 32 ∷ 48 ∷ 10 ∷ 115 ∷ 116 ∷ 111 ∷ 112 ∷ 32 ∷ 50 ∷ 51 ∷ 10 ∷ [])
unfolding report class_of met entries_at read_at read_first judged shortest last_byte value more counted_in is_counted all_in totals
    entry_lines entry_line last_line test counts_line stop_line marked decimal decimal_in
lower_learner = rw counted.head_alone refl

-- 22 before 23: `5 3 2 0 1 0`, then `stop 22`
pub length-first : report (2 ∷ 5 ∷ 3 ∷ 5 ∷ 1 ∷ 10 ∷ 2 ∷ 11 ∷ 2 ∷ 4 ∷ 9 ∷ 2 ∷ 1 ∷ [])
    ≡ head ++ (53 ∷ 32 ∷ 51 ∷ 32 ∷ 50 ∷ 32 ∷ 48 ∷ 32 ∷ 49 ∷ 32 ∷ 48 ∷ 10 ∷ 115 ∷ 116 ∷ 111 ∷ 112 ∷ 32 ∷ 50 ∷ 50 ∷ 10 ∷ [])
unfolding report class_of met entries_at read_at read_first judged shortest last_byte value more counted_in is_counted all_in totals
    entry_lines entry_line last_line test counts_line stop_line marked decimal decimal_in
length-first = rw counted.main_starts refl

-- a stop in an entry of the pending learner: `5 3 0 0 0 0`, then `stop 4`
pub pending-first : report (2 ∷ 5 ∷ 3 ∷ 1 ∷ 1 ∷ 5 ∷ 128 ∷ 0 ∷ [])
    ≡ head ++ (53 ∷ 32 ∷ 51 ∷ 32 ∷ 48 ∷ 32 ∷ 48 ∷ 32 ∷ 48 ∷ 32 ∷ 48 ∷ 10 ∷ 115 ∷ 116 ∷ 111 ∷ 112 ∷ 32 ∷ 52 ∷ 10 ∷ [])
unfolding report class_of met entries_at read_at read_first judged shortest last_byte value more counted_in is_counted all_in totals
    entry_lines entry_line last_line test counts_line stop_line marked decimal decimal_in
pending-first = rw counted.head_alone refl

-- One pass gives the entries that count because of 23: of learners 5, 4, 5 it would print three, where two count.
abbrev falling : List Entry
falling = let of : ℕ → Entry = λ learner. record { learner = learner; turn = 1; sheet = [] } in of 5 ∷ of 4 ∷ of 5 ∷ []

pub without_23 : (length (one_pass [] falling) ≡ 3) × (length (counted_in [] falling) ≡ 2)
unfolding one_pass printed kept counted_in is_counted all_in test
without_23 = (refl, refl)
