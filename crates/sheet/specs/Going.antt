-- How the code stands after a record and after a run.
use Rattle.std.specs.Prelude.{ℕ, suc, ◌+◌, ◌-◌, ◌≤◌, ◌<◌, List, ◌≡◌, refl, Bool, true, length, drop, Result, Result.Ok, Result.Err}
use Rattle.rules.specs.declared.refusals.Refusal.{Refusal}
use Rattle.rules.specs.Refusals.{number}
use Rattle.std.proofs.Math.Path.{ap}
use Rattle.std.proofs.Common.{sym, ◌∙◌, arith}
use Rattle.session.specs.Table.{Session, Wrote, read, words}
use Rattle.rules.specs.Formula.{Formula, Holds, choose, Formula.◌≐◌, Formula.◌≼◌, Formula.◌and◌}
use Rattle.rules.specs.FormulaLaws.{choose_yes, choose_no}
use Rattle.rules.specs.Sound.{sound, kept}
use Rattle.rules.specs.Step.{step}
use Rattle.record.specs.RecordReading.{record_at}
use Rattle.record.specs.RecordRoundTrip.{record_forward}
use Rattle.laws.specs.StepKeeps.{step_keeps}
use Rattle.sheet.specs.Told.{Ended}
use Rattle.sheet.specs.Run.{Lines, has_room, with_line, Run, ended, ended_by, run_from}
use Rattle.sheet.specs.RunLaws.{run_end, run-full, run-unsound, run-refused, run_on, steps_enough}

abbrev pub lines_of : List ℕ → ℕ → Lines
lines_of bytes used = record { bytes = bytes; used = used }

-- "1. Session memory is shorter than docs/ says, or the line or record memory has under 32 bytes free."
abbrev pub lent : List ℕ → Lines → Formula
lent memory l = words ≼ length memory and has_room l

-- What a record leads to: the place of the next one and the length of the lines, or the length of the lines and the refusal that
-- ends the sheet.
pub data Went : Type 0 where
  On : (next used : ℕ) → Went
  Stopped : (used n : ℕ) → Went

-- what the code answers of it, and the length that it leaves
abbrev pub went : ℕ → Result ℕ Refusal → Went
went used (Ok next) = On next used
went used (Err refusal) = Stopped used (number refusal)

-- What follows the record at a place with this number, in so many steps more.
unfoldable pub following : List ℕ → ℕ → ℕ → ℕ → Session → List ℕ → Went → Run
following sheet steps at number s bytes (On next used) = run_from sheet steps next number s (lines_of bytes used)
following sheet steps at number s bytes (Stopped used n) = ended s (lines_of bytes used) at number n

-- the next record stands behind this one
unfoldable pub Onward : ℕ → Went → Type 0
Onward at (On next used) = at < next
Onward at (Stopped used n) = Unit {0}

pub onward_of : (at next used : ℕ) (w : Went) → Onward at w → w ≡ On next used → at < next
unfolding Onward
onward_of at next used w o e = rw e at o

-- What running one record does to the memories: what the rules say follows it; the words past the layout stay; a kept session
-- is kept.
pub record Goes (sheet : List ℕ) (at k : ℕ) (before after lines lines' : List ℕ) (used : ℕ) (w : Went) : Type 0 where
  pub same_length : length after ≡ length before
  pub past : drop words after ≡ drop words before
  pub keeps : Holds (kept (read before)) → Holds (kept (read after))
  pub goes : (steps : ℕ)
      → run_from sheet (suc steps) at k (read before) (lines_of lines used) ≡ following sheet steps at (k + 1) (read after) lines' w
  pub onward : Onward at w

-- So which answer it is, and its numbers, are those of the run in one step: where its place stays, it stopped.
abbrev pub went_of : ℕ → Run → Went
went_of at r = choose (r.place ≐ at) (Stopped r.lines.used r.ending) (On r.place r.lines.used)

pub went_told : (sheet : List ℕ) (at k : ℕ) (before after lines lines' : List ℕ) (used : ℕ) (w : Went)
    → Goes sheet at k before after lines lines' used w
    → w ≡ went_of at (run_from sheet 1 at k (read before) (lines_of lines used))
unfolding following Onward run_from
went_told sheet at k before after lines lines' used (On next used') g =
    sym (ap (went_of at) (g.goes 0)
    ∙ choose_no (next ≐ at) (Stopped used' 0) (On next used') (λ e. let l = g.onward in omega arith))
went_told sheet at k before after lines lines' used (Stopped used' n) g =
    sym (ap (went_of at) (g.goes 0) ∙ choose_yes (at ≐ at) (Stopped used' n) (On at used') refl)

-- What a run leaves: memories, and how it ended.
pub record Ends (before after lines : List ℕ) (e : Ended) (r : Run) : Type 0 where
  pub session : Wrote before after r.session
  pub bytes : lines ≡ r.lines.bytes
  pub used : e.used ≡ r.lines.used
  pub place : e.place ≡ r.place
  pub number : e.number ≡ r.number
  pub ending : e.ending ≡ r.ending

module _ (sheet : List ℕ) (at k : ℕ) (ws lines : List ℕ) (used : ℕ) (before : at < length sheet) where
  -- no room for a line
  pub goes_full : (Holds (has_room (lines_of lines used)) → ⊥) → Goes sheet at k ws ws lines lines used (Stopped used 1)
  unfolding following Onward
  goes_full unmet =
      record {
        same_length = refl;
        past = refl;
        keeps = λ h. h;
        goes = λ n. run-full sheet at k (read ws) (lines_of lines used) n before unmet;
        onward = tt;
      }

  module _ (room : Holds (has_room (lines_of lines used))) (lines' : List ℕ) (used' : ℕ) where
    -- the sheet is ended by this line
    stopped : (n : ℕ) → lines_of lines' used' ≡ with_line (lines_of lines used) (k + 1) n 0
        → ((steps : ℕ)
        → run_from sheet (suc steps) at k (read ws) (lines_of lines used) ≡ ended_by (read ws) (lines_of lines used) at (k + 1) n)
        → Goes sheet at k ws ws lines lines' used (Stopped used' n)
    unfolding following Onward ended_by
    stopped n e f =
        record {
          same_length = refl;
          past = refl;
          keeps = λ h. h;
          goes = λ m. f m ∙ ap (λ (l : Lines). ended (read ws) l at (k + 1) n) (sym e);
          onward = tt;
        }

    pub goes_unsound : (Holds (sound (read ws)) → ⊥) → lines_of lines' used' ≡ with_line (lines_of lines used) (k + 1) 2 0
        → Goes sheet at k ws ws lines lines' used (Stopped used' 2)
    goes_unsound unmet e = stopped 2 e (λ n. run-unsound sheet at k (read ws) (lines_of lines used) n before room unmet)

    module _ (is : Holds (sound (read ws))) where
      pub goes_refused : ((record_at sheet at).refused ≡ 0 → ⊥)
          → lines_of lines' used' ≡ with_line (lines_of lines used) (k + 1) (record_at sheet at).refused 0
          → Goes sheet at k ws ws lines lines' used (Stopped used' (record_at sheet at).refused)
      goes_refused unmet e =
          stopped (record_at sheet at).refused e
          (λ n. run-refused sheet at k (read ws) (lines_of lines used) n before room is unmet)

      pub goes_on : (after : List ℕ) → (record_at sheet at).refused ≡ 0
          → Wrote ws after (step (read ws) (record_at sheet at).operation).leaves
          → lines_of lines' used'
          ≡ with_line (lines_of lines used) (k + 1) (step (read ws) (record_at sheet at).operation).refused
          (step (read ws) (record_at sheet at).operation).made
          → Goes sheet at k ws after lines lines' used (On (record_at sheet at).next used')
      unfolding following Onward
      goes_on after z w e =
          record {
            same_length = w.same_length;
            past = w.past;
            keeps = λ h. rw w.reading (step_keeps (read ws) (record_at sheet at).operation h);
            goes = λ n. run_on sheet at k (read ws) (lines_of lines used) n before room is z
                ∙ cc (w.reading, e);
            onward = (record_forward sheet at z).onward;
          }

-- The run from a first record, after so many.
abbrev pub run_of : List ℕ → ℕ → ℕ → List ℕ → List ℕ → ℕ → Run
run_of sheet first done before lines used = run_from sheet (length sheet) first done (read before) (lines_of lines used)

-- Where a run from a first record, after so many, stands before the record at a place.
pub record Running (sheet : List ℕ) (first done : ℕ) (sure : Bool) (before lines : List ℕ) (used : ℕ) (after lines' : List ℕ)
    (at k used' : ℕ) : Type 0 where
  pub same_length : length after ≡ length before
  pub past : drop words after ≡ drop words before
  pub keeps : sure ≡ true → Holds (kept (read after))
  pub count : k ≤ at
  pub runs : run_of sheet first done before lines used ≡ run_from sheet (length sheet) at k (read after) (lines_of lines' used')

pub running-first : (sheet : List ℕ) (first done : ℕ) (sure : Bool) (ws lines : List ℕ) (used : ℕ)
    → (sure ≡ true → Holds (kept (read ws))) → done ≤ first
    → Running sheet first done sure ws lines used ws lines first done used
running-first sheet first done sure ws lines used h c =
    record { same_length = refl; past = refl; keeps = h; count = c; runs = refl }

pub ends_as : (before after lines : List ℕ) (e : Ended) (r : Run) → length after ≡ length before
    → drop words after ≡ drop words before
    → r ≡ ended (read after) (lines_of lines e.used) e.place e.number e.ending
    → Ends before after lines e r
ends_as before after lines e r n p q =
    rw q (record {
      session = record { same_length = n; reading = refl; past = p };
      bytes = refl;
      used = refl;
      place = refl;
      number = refl;
      ending = refl;
    })

module _ (sheet : List ℕ) (first done : ℕ) (sure : Bool) (before lines : List ℕ) (used : ℕ) (now-memory now-lines : List ℕ)
    (at k now-used : ℕ)
    (g : Running sheet first done sure before lines used now-memory now-lines at k now-used) where
  pub running-end : length sheet ≤ at
      → Ends before now-memory now-lines (record { used = now-used; place = at; number = k; ending = 0 })
      (run_of sheet first done before lines used)
  running-end h =
      ends_as _ _ _ _ _ g.same_length g.past
      (g.runs ∙ run_end sheet at k (read now-memory) (lines_of now-lines now-used) (length sheet) h)

  module _ (inside : at < length sheet) (after lines' : List ℕ) (used' : ℕ) where
    -- the run from here is what follows the record
    follows : (w : Went) → Goes sheet at k now-memory after now-lines lines' now-used w
        → run_of sheet first done before lines used ≡ following sheet (length sheet - 1) at (k + 1) (read after) lines' w
    follows w o =
        g.runs ∙ steps_enough sheet (length sheet) (suc (length sheet - 1)) at k _ _ (omega arith) (omega arith)
        ∙ o.goes (length sheet - 1)

    pub running_stop : (n : ℕ) → Goes sheet at k now-memory after now-lines lines' now-used (Stopped used' n)
        → Ends before after lines' (record { used = used'; place = at; number = k + 1; ending = n })
        (run_of sheet first done before lines used)
    unfolding following
    running_stop n o = ends_as _ _ _ _ _ (o.same_length ∙ g.same_length) (o.past ∙ g.past) (follows (Stopped used' n) o)

    pub running_on : (next : ℕ) → Goes sheet at k now-memory after now-lines lines' now-used (On next used')
        → Running sheet first done sure before lines used after lines' next (k + 1) used'
    unfolding following Onward
    running_on next o =
        let l = o.onward in
        record {
          same_length = o.same_length ∙ g.same_length;
          past = o.past ∙ g.past;
          keeps = λ h. o.keeps (g.keeps h);
          count = omega (arith, g.count, l);
          runs = follows (On next used') o
              ∙ steps_enough sheet (length sheet - 1) (length sheet) next (k + 1) _ _ (omega arith) (omega arith);
        }
