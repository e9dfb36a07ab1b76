-- The class report (document 02, E1 and E2): "A class file .. is the number of sheets,
-- then for each a learner number, a turn number, a byte length and the sheet".
use Rattle.std.specs.Prelude.{ℕ, zero, suc, ◌+◌, List, [], ◌∷◌, ◌++◌, length, take, drop, Ok, Err}
use Rattle.number.specs.Number.{limit32, read_at, Reading}
use Rattle.number.specs.declared.Unread.TheVariants.{Bad, CutShort}
use Rattle.lines.specs.Line.{marked, space, newline}
use Rattle.rules.specs.Formula.{Formula, not, choose, Formula.◌≐◌, Formula.◌≼◌, Formula.◌and◌, Formula.◌then◌, Formula.never}
use Rattle.sheet_counts.specs.declared.Tally.{Tally}
use Rattle.sheet_counts.specs.Answers.{counts_of, no_counts}

-- A sheet as it was turned in.
pub record Entry : Type 0 where
  pub learner : ℕ
  pub turn : ℕ
  pub sheet : List ℕ

-- What a class file says: its entries up to the last one announced or to a stop, and the number of the stop, 0 if there is none.
pub record Class : Type 0 where
  pub entries : List Entry
  pub stop : ℕ

abbrev pub stopped : ℕ → Class
stopped n = record { entries = []; stop = n }

abbrev pub followed : Entry → Class → Class
followed e c = record { entries = e ∷ c.entries; stop = c.stop }

-- "Its numbers are coded as a sheet's; 3 and 4, met as each is read, end the report": a number that stops it, or what follows.
unfoldable pub met {ℓ} : {A : Type ℓ} → Reading → (ℕ → A) → (ℕ → ℕ → A) → A
met (Ok (v, next)) stop go = go v next
met (Err (Bad next)) stop go = stop 4
met (Err CutShort) stop go = stop 3

-- "22, a length above 32,768 or past the end, checked before the sheet's own numbers"
abbrev pub most_bytes : ℕ
most_bytes = 32768

abbrev pub fits : List ℕ → ℕ → ℕ → Formula
fits file at size = size ≼ most_bytes and size ≼ length (drop at file)

abbrev pub sheet_at : List ℕ → ℕ → ℕ → List ℕ
sheet_at file at size = take size (drop at file)

-- so many entries, from a place on; `before` is the learner of the entry before them, 0 if there is none.
-- E2: "23, a learner number lower than the one before it in the file, checked after 22"
unfoldable pub entries_at : List ℕ → ℕ → ℕ → ℕ → Class
entries_at file zero at before = stopped 0
entries_at file (suc left) at before =
    met (read_at limit32 file at) stopped (λ learner a.
    met (read_at limit32 file a) stopped (λ turn b.
    met (read_at limit32 file b) stopped (λ size c.
    choose (fits file c size)
    (choose (before ≼ learner)
    (followed (record { learner = learner; turn = turn; sheet = sheet_at file c size }) (entries_at file left (c + size) learner))
    (stopped 23))
    (stopped 22))))

-- "bytes after the last sheet are not read"
unfoldable pub class_of : List ℕ → Class
class_of file = met (read_at limit32 file 0) stopped (λ count at. entries_at file count at 0)

-- all entries of a list are so
unfoldable pub all_in : (Entry → Formula) → List Entry → Formula
all_in f [] = not never
all_in f (e ∷ more) = f e and all_in f more

-- E2: "For one learner the sheet with the higher turn counts; of equal turns the later in the file": no entry of the learner
-- before it has a higher turn, and none behind it one as high.
unfoldable pub is_counted : List Entry → Entry → List Entry → Formula
is_counted before e behind =
    all_in (λ d. d.learner ≐ e.learner then d.turn ≼ e.turn) before
    and all_in (λ d. d.learner ≐ e.learner then d.turn + 1 ≼ e.turn) behind

-- the entries that count, of some and of those before them, in whatever order these are
unfoldable pub counted_in : List Entry → List Entry → List Entry
counted_in before [] = []
counted_in before (e ∷ behind) =
    choose (is_counted before e behind) (e ∷ counted_in (e ∷ before) behind) (counted_in (e ∷ before) behind)

-- "The class report lists and sums superseding sheets only."
abbrev pub counted : Class → List Entry
counted c = counted_in [] c.entries

-- "prints the line `class 1`"
abbrev pub head : List ℕ
head = 99 ∷ 108 ∷ 97 ∷ 115 ∷ 115 ∷ 32 ∷ 49 ∷ 10 ∷ []

-- four counts, and the end of a line
unfoldable pub counts_line : Tally → List ℕ
counts_line t =
    marked t.records space ++ (marked t.refused space ++ (marked t.starts space ++ marked t.dropped newline))

-- "per sheet learner, turn, records (answer lines), refused records .., starts and dropped"
unfoldable pub entry_line : ℕ → ℕ → Tally → List ℕ
entry_line learner turn t = marked learner space ++ (marked turn space ++ counts_line t)

unfoldable pub entry_lines : List Entry → List ℕ
entry_lines [] = []
entry_lines (e ∷ more) = entry_line e.learner e.turn (counts_of e.sheet) ++ entry_lines more

-- "`stop 3` or `stop 4`", `stop 22`, `stop 23`
unfoldable pub stop_line : ℕ → List ℕ
stop_line n = 115 ∷ 116 ∷ 111 ∷ 112 ∷ 32 ∷ marked n newline

-- "then a last line with the sums of the last four": the totals over the printed sheets
abbrev pub plus : Tally → Tally → Tally
plus t u =
    record {
      records = t.records + u.records;
      refused = t.refused + u.refused;
      starts = t.starts + u.starts;
      dropped = t.dropped + u.dropped;
    }

unfoldable pub totals : List Entry → Tally
totals [] = no_counts
totals (e ∷ more) = plus (counts_of e.sheet) (totals more)

-- "a stop line takes the place of the sums"
unfoldable pub last_line : Tally → ℕ → List ℕ
last_line t stop = choose (stop ≐ 0) (counts_line t) (stop_line stop)

-- E2: "A stop first prints the line of the learner still pending,
-- and no sums": the lines are those of the entries before the stop.
unfoldable pub report : List ℕ → List ℕ
report file = let c = class_of file in head ++ entry_lines (counted c) ++ last_line (totals (counted c)) c.stop
