-- The run without lines that counts: before each record, the answers so far and those from there on are the whole sheet's.
use Rattle.std.specs.Prelude.{ℕ, suc, ◌+◌, ◌-◌, ◌≤◌, ◌<◌, ◌≡◌, refl, drop, Option, Option.Some, Option.None}
use Rattle.std.specs.Int.{from_bool}
use mathlib.Core.List.{List, [], ◌∷◌, ◌++◌, append_assoc, append-nil}
use Rattle.std.proofs.Math.Path.{ap, sym}
use Rattle.std.proofs.Common.{◌∙◌, arith}
use Rattle.std.proofs.Math.ListN.{length, length-append}
use Rattle.session.specs.Table.{Session, Wrote, read, words}
use Rattle.rules.specs.Formula.{Holds, not, Formula.◌≐◌, Formula.◌and◌}
use Rattle.rules.specs.FormulaLaws.{choose_yes, choose_no}
use Rattle.rules.specs.Sound.{sound, kept}
use Rattle.rules.specs.Step.{step}
use Rattle.rules.specs.LastLine.{dropped_count}
use Rattle.record.specs.RecordReading.{record_at}
use Rattle.record.specs.RecordRoundTrip.{record_forward}
use Rattle.laws.specs.ByName.{kept-sound}
use Rattle.laws.specs.StepKeeps.{step_keeps}
use Rattle.sheet.specs.SheetPrinted.{Printed, print_from}
use Rattle.sheet.specs.PrintLaws.{print_end, print_refused, print_on, prints_enough}
use Rattle.sheet_counts.specs.declared.Tally.{Tally}
use Rattle.sheet_counts.specs.declared.Told.{Told}
use Rattle.sheet_counts.specs.Answers.{Answered, answered, answer_to, answers_from, is_refused, is_start, how_many, counts_in}
use Rattle.sheet_counts.specs.HowMany.{one, how_many_last, how_many-most}
use Rattle.sheet_counts.specs.Telling.{told, counted_one}
use Rattle.sheet_counts.specs.AnswerCases.{answers-end, answers-refused, answers_on_lem, answers_enough}

-- What is counted and left from a place on, where nothing was counted before.
unfoldable pub left_from : List ℕ → ℕ → Session → Session
left_from sheet first s = (print_from sheet (length sheet) first 0 s).session

unfoldable pub counts_from : List ℕ → ℕ → Session → Tally
counts_from sheet first s = counts_in (answers_from sheet (length sheet) first 0 s) (left_from sheet first s)

abbrev pub tally_of : ℕ → ℕ → ℕ → Session → Tally
tally_of records refused starts s = record { records = records; refused = refused; starts = starts; dropped = dropped_count s }

counts_as : (sheet : List ℕ) (first : ℕ) (s : Session) (records refused starts : ℕ) (t : Session) (list : List Answered)
    → answers_from sheet (length sheet) first 0 s ≡ list → left_from sheet first s ≡ t
    → records ≡ length list → refused ≡ how_many is_refused list → starts ≡ how_many is_start list
    → tally_of records refused starts t ≡ counts_from sheet first s
unfolding counts_from counts_in
counts_as sheet first s records refused starts t list a l x y z = rw (a, l, x, y, z)

-- one answer, and what follows it
pub record LeadsOn (sheet : List ℕ) (at k : ℕ) (s t : Session) (next : ℕ) (answer : Told) : Type 0 where
  pub first : Answered
  pub counted : answer ≡ told first.refused first.code
  pub answers : (n : ℕ) → answers_from sheet (suc n) at k s ≡ first ∷ answers_from sheet n next (k + 1) t
  pub session : (n : ℕ) → (print_from sheet (suc n) at k s).session ≡ (print_from sheet n next (k + 1) t).session
  pub onward : at < next

-- one answer, which is a refusal of no operation, and nothing behind it
pub record Ends (sheet : List ℕ) (at k : ℕ) (s t : Session) : Type 0 where
  pub last : Answered
  pub counted : (one (is_refused last) ≡ 1) × (one (is_start last) ≡ 0)
  pub answers : (n : ℕ) → answers_from sheet (suc n) at k s ≡ last ∷ []
  pub session : (n : ℕ) → (print_from sheet (suc n) at k s).session ≡ t

-- where a record leads: behind it to the next one, or it ends the sheet
unfoldable pub Leads : List ℕ → ℕ → ℕ → Session → Session → Option (ℕ × Told) → Type 0
Leads sheet at k s t (Some on) = LeadsOn sheet at k s t on.0 on.1
Leads sheet at k s t None = Ends sheet at k s t

-- What running one record does: the words past the layout stay, the
-- session is kept, and after any number of records its answer is the next.
pub record Goes (sheet : List ℕ) (at : ℕ) (before after : List ℕ) (w : Option (ℕ × Told)) : Type 0 where
  pub same_length : length after ≡ length before
  pub past : drop words after ≡ drop words before
  pub keeps : Holds (kept (read after))
  pub leads : (k : ℕ) → Leads sheet at k (read before) (read after) w

-- the next record stands behind this one
pub onward_of : (sheet : List ℕ) (at : ℕ) (before after : List ℕ) (next : ℕ) (answer : Told) (w : Option (ℕ × Told))
    → Goes sheet at before after w → w ≡ Some (next, answer) → at < next
unfolding Leads
onward_of sheet at before after next answer w o e = ((rw e at o).leads 0).onward

module _ (sheet : List ℕ) (at : ℕ) (ws : List ℕ) (inside : at < length sheet) (k : Holds (kept (read ws))) where
  is : Holds (sound (read ws))
  is = kept-sound (read ws) k

  pub goes_stopped : ((record_at sheet at).refused ≡ 0 → ⊥) → Goes sheet at ws ws None
  unfolding Leads
  goes_stopped unmet =
      let n = (record_at sheet at).refused in
      record {
        same_length = refl;
        past = refl;
        keeps = k;
        leads = λ i. record {
          last = answered (i + 1) n 0 0;
          counted = (choose_yes (not (n ≐ 0)) 1 0 unmet, choose_no (0 ≐ 11 and n ≐ 0) 1 0 (λ h. unmet h.1));
          answers = λ m. answers-refused sheet at i (read ws) m inside is unmet;
          session = λ m. ap (λ (p : Printed). p.session) (print_refused sheet at i (read ws) m inside is unmet);
        };
      }

  pub goes_on : (after : List ℕ) → (record_at sheet at).refused ≡ 0
      → Wrote ws after (step (read ws) (record_at sheet at).operation).leaves
      → Goes sheet at ws after
      (Some (
        (record_at sheet at).next,
        told (step (read ws) (record_at sheet at).operation).refused (record_at sheet at).operation.code,
      ))
  unfolding Leads
  goes_on after z w =
      let op = (record_at sheet at).operation in
      record {
        same_length = w.same_length;
        past = w.past;
        keeps = rw w.reading (step_keeps (read ws) op k);
        leads = λ i. record {
          first = answer_to i (read ws) op;
          counted = refl;
          answers = λ m. rw w.reading (answers_on_lem sheet at i (read ws) m inside is z);
          session = λ m. rw w.reading (ap (λ (p : Printed). p.session) (print_on sheet at i (read ws) m inside is z));
          onward = (record_forward sheet at z).onward;
        };
      }

-- Where a run from a first record stands before the record at a place: the answers so far, which are counted, and those from here
-- on are the whole.
pub record Running (sheet : List ℕ) (first : ℕ) (before now-memory : List ℕ) (at records refused starts : ℕ) : Type 0 where
  pub same_length : length now-memory ≡ length before
  pub past : drop words now-memory ≡ drop words before
  pub keeps : Holds (kept (read now-memory))
  pub few : records ≤ at
  pub done : List Answered
  pub records_done : records ≡ length done
  pub refused_done : refused ≡ how_many is_refused done
  pub starts_done : starts ≡ how_many is_start done
  pub answers : answers_from sheet (length sheet) first 0 (read before)
      ≡ done ++ answers_from sheet (length sheet) at records (read now-memory)
  pub session : left_from sheet first (read before) ≡ (print_from sheet (length sheet) at records (read now-memory)).session

pub running-first : (sheet : List ℕ) (first : ℕ) (ws : List ℕ) → Holds (kept (read ws)) → Running sheet first ws ws first 0 0 0
unfolding left_from how_many
running-first sheet first ws k =
    record {
      same_length = refl;
      past = refl;
      keeps = k;
      few = omega arith;
      done = [];
      records_done = refl;
      refused_done = refl;
      starts_done = refl;
      answers = refl;
      session = refl;
    }

module _ (sheet : List ℕ) (first : ℕ) (before ws : List ℕ) (at records refused starts : ℕ)
    (g : Running sheet first before ws at records refused starts) where
  pub running_few : (refused ≤ records) × (starts ≤ records)
  running_few =
      let r = how_many-most is_refused g.done in
      let s = how_many-most is_start g.done in
      (omega (arith, r, g.refused_done, g.records_done), omega (arith, s, g.starts_done, g.records_done))

  abbrev whole : List Answered
  whole = answers_from sheet (length sheet) first 0 (read before)

  abbrev left : Session
  left = left_from sheet first (read before)

  abbrev with_done : List Answered → List Answered
  with_done l = g.done ++ l

  abbrev session_of : Printed → Session
  session_of p = p.session

  wrote : (after : List ℕ) → length after ≡ length ws → drop words after ≡ drop words ws → left ≡ read after
      → Wrote before after left
  wrote after n p e = record { same_length = n ∙ g.same_length; reading = sym e; past = p ∙ g.past }

  -- the answers so far are all
  pub running-end : length sheet ≤ at
      → (tally_of records refused starts (read ws) ≡ counts_from sheet first (read before)) × Wrote before ws left
  running-end h =
      let n = length sheet in
      let e : whole ≡ g.done = g.answers ∙ ap with_done (answers-end sheet at records (read ws) n h) ∙ append-nil g.done in
      let s : left ≡ read ws = g.session ∙ ap session_of (print_end sheet at records (read ws) n h) in (
        counts_as sheet first (read before) records refused starts (read ws) g.done e s g.records_done g.refused_done
            g.starts_done,
        wrote ws refl refl s,
      )

  module _ (inside : at < length sheet) (after : List ℕ) where
    -- one record, and steps enough behind it
    abbrev behind : ℕ
    behind = length sheet - 1

    one-step : length sheet ≡ suc behind
    one-step = omega arith

    answers-here : whole ≡ with_done (answers_from sheet (suc behind) at records (read ws))
    answers-here = g.answers ∙ ap (λ (m : ℕ). with_done (answers_from sheet m at records (read ws))) one-step

    session_here : left ≡ (print_from sheet (suc behind) at records (read ws)).session
    session_here = g.session ∙ ap (λ (m : ℕ). (print_from sheet m at records (read ws)).session) one-step

    -- the record here has the last answer
    pub running_stop : Goes sheet at ws after None
        → (tally_of (records + 1) (refused + 1) starts (read after) ≡ counts_from sheet first (read before))
        × Wrote before after left
    unfolding Leads how_many
    running_stop o =
        let l = o.leads records in
        let a = l.last in
        let e : whole ≡ g.done ++ a ∷ [] = answers-here ∙ ap with_done (l.answers behind) in
        let s : left ≡ read after = session_here ∙ l.session behind in (
          counts_as sheet first (read before) (records + 1) (refused + 1) starts (read after) (g.done ++ a ∷ []) e s
              (omega (arith, length-append g.done (a ∷ []), g.records_done))
              (omega (arith, how_many_last is_refused g.done a, g.refused_done, l.counted.0))
              (omega (arith, how_many_last is_start g.done a, g.starts_done, l.counted.1)),
          wrote after o.same_length o.past s,
        )

    -- one more answer
    pub running_on : (next : ℕ) (answer : Told) → Goes sheet at ws after (Some (next, answer))
        → Running sheet first before after next (records + 1) (refused + from_bool answer.refused)
        (starts + from_bool answer.start)
    unfolding Leads
    running_on next answer o =
        let l = o.leads records in
        let a = l.first in
        let n = length sheet in
        let k = records + 1 in
        record {
          same_length = o.same_length ∙ g.same_length;
          past = o.past ∙ g.past;
          keeps = o.keeps;
          few = omega (arith, g.few, l.onward);
          done = g.done ++ a ∷ [];
          records_done = omega (arith, length-append g.done (a ∷ []), g.records_done);
          refused_done =
              omega (
                arith,
                how_many_last is_refused g.done a,
                g.refused_done,
                ap (λ (x : Told). from_bool x.refused) l.counted,
                counted_one (is_refused a),
              );
          starts_done =
              omega (
                arith,
                how_many_last is_start g.done a,
                g.starts_done,
                ap (λ (x : Told). from_bool x.start) l.counted,
                counted_one (is_start a),
              );
          answers = answers-here ∙ ap with_done (l.answers behind)
              ∙ sym (append_assoc g.done (a ∷ []) (answers_from sheet behind next k (read after)))
              ∙ ap (λ (x : List Answered). (g.done ++ a ∷ []) ++ x)
              (answers_enough sheet behind n next k (read after) (omega (arith, l.onward)) (omega arith));
          session = session_here ∙ l.session behind
              ∙ ap session_of (prints_enough sheet behind n next k (read after) (omega (arith, l.onward)) (omega arith));
        }
