-- A report step by step: it asks for some bytes of the class file, is handed those or, at the
-- file's end, fewer, and prints at most one line. A sheet stays pending until an entry of another
-- learner comes, a stop or the end. So a file of any length is reported from memory for two sheets.
use Rattle.std.specs.Prelude.{ℕ, zero, suc, ◌-◌, Bool, true, false, List, [], ◌∷◌, ◌≡◌, refl, T, length, take, drop, Option, None, Some}
use Rattle.std.proofs.Common.{ap, sym, subst, ◌∙◌}
use Rattle.number.specs.Number.{limit32}
use Rattle.number.specs.Fed.{start, fed}
use Rattle.number.specs.declared.reader.Reader.{Reader}
use Rattle.number.specs.declared.reader.Fed.{Fed}
use Rattle.number.specs.declared.reader.Fed.TheVariants.{More, Whole, Bad}
use Rattle.session.specs.Table.{Session}
use Rattle.session.specs.Fresh.{fresh_session}
use Rattle.rules.specs.Formula.{choose, Formula.◌≐◌, Formula.◌≼◌}
use Rattle.sheet.specs.SheetPrinted.{print_sheet}
use Rattle.sheet_counts.specs.declared.Tally.{Tally}
use Rattle.sheet_counts.specs.Answers.{counts_of, no_counts}
use Rattle.tally.specs.Raise.{raise}
use Rattle.class.specs.declared.Report.{Report}
use Rattle.class.specs.declared.Stage.{Stage}
use Rattle.class.specs.declared.Stage.TheVariants.{Head, Count, Learner, Turn, Length, Sheet, Line, Last, Nothing}
use Rattle.class.specs.declared.Turned.{Turned}
use Rattle.turns.specs.MemoryPlaces.{least}
use Rattle.class_rules.specs.Report.{Entry, most_bytes, fits, sheet_at, head, entry_line, last_line}

-- A report that has printed and read nothing.
unfoldable pub begun : Report
begun =
    record {
      stage = Head;
      number = start;
      left = 0;
      learner = 0;
      turn = 0;
      length = 0;
      stop = 0;
      pending = None;
      tally = no_counts;
    }

-- A report at a stage, with so much of a number read.
abbrev pub fed_to : Report → Stage → Reader → Report
fed_to r stage number = record {
  stage = stage;
  number = number;
  left = r.left;
  learner = r.learner;
  turn = r.turn;
  length = r.length;
  stop = r.stop;
  pending = r.pending;
  tally = r.tally;
}

-- A report at another stage.
abbrev pub turned : Report → Stage → Report
turned r stage = fed_to r stage start

-- Nothing is left to print.
unfoldable pub is_over : Stage → Bool
is_over Head = false
is_over Count = false
is_over Learner = false
is_over Turn = false
is_over Length = false
is_over Sheet = false
is_over Line = false
is_over Last = false
is_over Nothing = true

unlike : false ≡ true → ⊥
unlike e = subst T (sym e) tt

pub over_nothing : (stage : Stage) → is_over stage ≡ true → stage ≡ Nothing
unfolding is_over
over_nothing Head e = absurd (unlike e)
over_nothing Count e = absurd (unlike e)
over_nothing Learner e = absurd (unlike e)
over_nothing Turn e = absurd (unlike e)
over_nothing Length e = absurd (unlike e)
over_nothing Sheet e = absurd (unlike e)
over_nothing Line e = absurd (unlike e)
over_nothing Last e = absurd (unlike e)
over_nothing Nothing e = refl

pub not-over : (stage : Stage) → is_over stage ≡ false → stage ≡ Nothing → ⊥
unfolding is_over
not-over stage e n = unlike (sym e ∙ ap is_over n)

pub over-not : (stage : Stage) → (stage ≡ Nothing → ⊥) → is_over stage ≡ false
unfolding is_over
over-not Head n = refl
over-not Count n = refl
over-not Learner n = refl
over-not Turn n = refl
over-not Length n = refl
over-not Sheet n = refl
over-not Line n = refl
over-not Last n = refl
over-not Nothing n = absurd (n refl)

-- A stop: the line of the pending sheet comes next, and then the stop's.
abbrev pub stopping : Report → ℕ → Report
stopping r n = record {
  stage = Line;
  number = start;
  left = r.left;
  learner = r.learner;
  turn = r.turn;
  length = r.length;
  stop = n;
  pending = r.pending;
  tally = r.tally;
}

-- With so many entries left the next one's learner comes, or the line of the pending sheet.
unfoldable pub entry_or_line : ℕ → Stage
entry_or_line zero = Line
entry_or_line (suc left) = Learner

pub line-next : (left : ℕ) → left ≡ 0 → Line ≡ entry_or_line left
unfolding entry_or_line
line-next left e = rw e refl

pub entry_next : (left : ℕ) → (left ≡ 0 → ⊥) → Learner ≡ entry_or_line left
unfolding entry_or_line
entry_next zero n = absurd (n refl)
entry_next (suc left) n = refl

-- A report with so many entries left, a pending sheet and a tally; of the next entry nothing is read.
unfoldable pub going : ℕ → Option Turned → Tally → Report
going left pending tally = record {
  stage = entry_or_line left;
  number = start;
  left = left;
  learner = 0;
  turn = 0;
  length = 0;
  stop = 0;
  pending = pending;
  tally = tally;
}

-- A report at a stage, with what was read of an entry.
abbrev pub entry_to : Report → Stage → ℕ → ℕ → ℕ → Report
entry_to r stage learner turn length = record {
  stage = stage;
  number = start;
  left = r.left;
  learner = learner;
  turn = turn;
  length = length;
  stop = r.stop;
  pending = r.pending;
  tally = r.tally;
}

-- The report after a number that was read whole.
unfoldable pub valued : Report → Stage → ℕ → Report
valued r Count v = going v r.pending r.tally
valued r Learner v = entry_to r Turn v r.turn r.length
valued r Turn v = entry_to r Length r.learner v r.length
valued r Length v = entry_to r Sheet r.learner r.turn v
valued r Head v = r
valued r Sheet v = r
valued r Line v = r
valued r Last v = r
valued r Nothing v = r

-- A byte of a number, of what feeding it gave; no byte is a number cut short. Nothing is printed.
unfoldable pub numbered : Report → Stage → Fed → Report
numbered r stage (More next) = fed_to r stage next
numbered r stage (Whole v) = valued r stage v
numbered r stage Bad = stopping r 4

unfoldable pub byte : Report → Stage → List ℕ → Report
byte r stage [] = stopping r 3
byte r stage (b ∷ more) = numbered r stage (fed limit32 r.number b)

-- What a step leaves: where the report stands then, what it printed, and the session in memory.
pub record Did : Type 0 where
  pub report : Report
  pub text : List ℕ
  pub session : Session

abbrev pub did : Report → List ℕ → Session → Did
did r x s = record { report = r; text = x; session = s }

-- The sheet of this entry, as it lies in a memory.
abbrev pub turned_in : Report → ℕ → Turned
turned_in r at = record { learner = r.learner; turn = r.turn; place = at; length = r.length }

-- The report without a pending sheet, before its last line.
abbrev pub closing : Report → Tally → Report
closing r t = record {
  stage = Last;
  number = start;
  left = r.left;
  learner = r.learner;
  turn = r.turn;
  length = r.length;
  stop = r.stop;
  pending = None;
  tally = t;
}

-- The report with this entry's sheet pending.
abbrev pub holding : Report → ℕ → Tally → Report
holding r at t = going (r.left - 1) (Some (turned_in r at)) t

-- A sheet that lies in a memory, the entry that it is, and the pending one as a list of one or of none.
module _ (room : List ℕ) where
  abbrev pub sheet_of : Turned → List ℕ
  sheet_of p = sheet_at room p.place p.length

  abbrev pub entry_of : Turned → Entry
  entry_of p = record { learner = p.learner; turn = p.turn; sheet = sheet_of p }

  abbrev pub pending_in : Option Turned → List Entry
  pending_in None = []
  pending_in (Some p) = entry_of p ∷ []

  -- A sheet is run: its line is printed, the tally is raised, and the session is what it leaves.
  abbrev pub ran : Turned → (Tally → Report) → Tally → Did
  ran p next t =
      let counts = counts_of (sheet_of p) in
      did (next (raise t counts)) (entry_line p.learner p.turn counts) (print_sheet (sheet_of p) fresh_session).session

  -- The line of the pending sheet, if there is one.
  unfoldable pub closed : Report → Session → Option Turned → Did
  closed r s None = did (closing r r.tally) [] s
  closed r s (Some p) = ran p (closing r) r.tally

  -- Of two sheets of one learner, the pending one and a later entry's, the one that supersedes.
  unfoldable pub superseded : Turned → Turned → Turned
  superseded p e =
      choose (p.turn ≼ e.turn) e
      (record { learner = p.learner; turn = p.turn; place = least p.place (length room); length = p.length })

  -- An entry's sheet where somebody is pending: 23, another turn of that learner, or another learner.
  unfoldable pub after : Report → Session → ℕ → Turned → Did
  after r s at p =
      choose (p.learner ≼ r.learner)
      (choose (p.learner ≐ r.learner)
      (did (going (r.left - 1) (Some (superseded p (turned_in r at))) r.tally) [] s)
      (ran p (holding r at) r.tally))
      (did (stopping r 23) [] s)

  unfoldable pub taken : Report → Session → ℕ → Option Turned → Did
  taken r s at None = did (holding r at r.tally) [] s
  taken r s at (Some p) = after r s at p

  -- A sheet, if all of it was handed.
  unfoldable pub sheet_taken : Report → Session → ℕ → List ℕ → Did
  sheet_taken r s at bytes = choose (fits bytes 0 r.length) (taken r s at r.pending) (did (stopping r 22) [] s)

-- how many bytes are asked for; none of a sheet that is too long
module _ (r : Report) where
  unfoldable pub asks_at : Stage → ℕ
  asks_at Head = 0
  asks_at Count = 1
  asks_at Learner = 1
  asks_at Turn = 1
  asks_at Length = 1
  asks_at Sheet = choose (r.length ≼ most_bytes) r.length 0
  asks_at Line = 0
  asks_at Last = 0
  asks_at Nothing = 0

abbrev pub asks : Report → ℕ
asks r = asks_at r r.stage

-- The step, on the bytes that were handed, which lie in a memory from a place on; the pending sheet lies there too.
module _ (room : List ℕ) (at : ℕ) (bytes : List ℕ) (r : Report) (s : Session) where
  unfoldable pub does_at : Stage → Did
  does_at Head = did (turned r Count) head s
  does_at Count = did (byte r Count bytes) [] s
  does_at Learner = did (byte r Learner bytes) [] s
  does_at Turn = did (byte r Turn bytes) [] s
  does_at Length = did (byte r Length bytes) [] s
  does_at Sheet = sheet_taken room r s at bytes
  does_at Line = closed room r s r.pending
  does_at Last = did (turned r Nothing) (last_line r.tally r.stop) s
  does_at Nothing = did (turned r Nothing) [] s

  abbrev pub does : Did
  does = does_at r.stage

-- The bytes that a file hands to a report which stands at a place.
abbrev pub handed : List ℕ → ℕ → Report → List ℕ
handed file at r = take (asks r) (drop at file)
