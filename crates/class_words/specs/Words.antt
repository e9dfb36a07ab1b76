-- The class report in parts, each told where the report stands by eighteen lent words and telling in them where the next goes on.
use Rattle.std.specs.Prelude.{ℕ, suc, ◌+◌, ◌≤◌, ◌<◌, List, [], ◌∷◌, ◌++◌, ◌≡◌, length, take, drop, get_or, set, Option, None, Some, Result, Ok, Err}
use Rattle.std.specs.Option.{is_some, unwrap_or}
use mir.Val.{bool_byte}
use Rattle.std.proofs.Math.Path.{refl, ap, sym}
use Rattle.std.proofs.Common.{◌∙◌, arith, add-one, length-set}
use Rattle.std.proofs.Math.ListN.{get_or-eq_default}
use Rattle.std.proofs.lemmas.List.{get_or-take}
use Rattle.number.specs.Number.{splice}
use Rattle.number.specs.Splice.{splice-step, splice_none, splice-length, splice-behind}
use Rattle.rules.specs.declared.refusals.Refusal.{Refusal}
use Rattle.rules.specs.Refusals.{number, refusal_told, number_some}
use Rattle.rules.specs.Formula.{Formula, choose, Formula.◌≐◌, Formula.◌≼◌, Formula.◌and◌}
use Rattle.rules.specs.FormulaLaws.{Case, decide, passes, fails, choose_yes, choose_no, Case.it_does, Case.it_does_not}
use Rattle.class.specs.declared.Report.{Report}
use Rattle.class_parts.specs.declared.Part.{Part}
use Rattle.class.specs.declared.Stage.{Stage}
use Rattle.class.specs.declared.Stage.TheVariants.{Head, Count, Learner, Turn, Length, Sheet, Line, Last, Nothing}
use Rattle.class.specs.declared.Turned.{Turned}
use Rattle.turns.specs.MemoryPlaces.{least}
use Rattle.class_parts.specs.ReportParts.{lends, Reported, Parted}

-- What comes next has a code: the head 0, then the number of sheets, a learner, a turn, a length, a sheet and the last line;
-- nothing is left at 7, the line of the pending sheet is 8, and nothing is left at any other.
abbrev pub stages : List Stage
stages = Head ∷ Count ∷ Learner ∷ Turn ∷ Length ∷ Sheet ∷ Last ∷ Nothing ∷ Line ∷ []

unfoldable pub stage_of : ℕ → Stage
stage_of code = get_or stages code Nothing

-- nothing is left past these codes, but at 8
pub stage_past : (code : ℕ) → 7 ≤ code → (code ≡ 8 → ⊥) → Nothing ≡ stage_of code
unfolding stage_of
stage_past code h n = go (decide (code ≐ 7))
  where
    go : Case (code ≐ 7) → Nothing ≡ stage_of code
    go (it_does e) = ap stage_of (sym e)
    go (it_does_not m) = let past : 9 ≤ code = omega arith in sym (get_or-eq_default stages Nothing past)

-- one arm more that was passed
pub passed_by : (code n : ℕ) → (code ≡ n → ⊥) → n ≤ code → n + 1 ≤ code
passed_by code n f h = omega arith

unfoldable pub code_of : Stage → ℕ
code_of Head = 0
code_of Count = 1
code_of Learner = 2
code_of Turn = 3
code_of Length = 4
code_of Sheet = 5
code_of Last = 6
code_of Nothing = 7
code_of Line = 8

-- The words: the code, the place in the file, a number's value and weight so far, how many sheets are left, what was read of this
-- one, the stop, whether somebody is pending, that sheet, and the four counts of those printed.
abbrev pub words_of_class : ℕ
words_of_class = 18

abbrev pub code_in : List ℕ → ℕ
code_in w = get_or w 0 0

unfoldable pub place_of : List ℕ → ℕ
place_of w = get_or w 1 0

-- The pending sheet: 0 is nobody.
unfoldable pub pending_of : List ℕ → Option Turned
pending_of w =
    choose (get_or w 9 0 ≐ 0) None
    (Some (record { learner = get_or w 10 0; turn = get_or w 11 0; place = get_or w 12 0; length = get_or w 13 0 }))

unfoldable pub report_of : List ℕ → Report
report_of w = record {
  stage = stage_of (code_in w);
  number = record { value = get_or w 2 0; weight = get_or w 3 0 };
  left = get_or w 4 0;
  learner = get_or w 5 0;
  turn = get_or w 6 0;
  length = get_or w 7 0;
  stop = get_or w 8 0;
  pending = pending_of w;
  tally = record { records = get_or w 14 0; refused = get_or w 15 0; starts = get_or w 16 0; dropped = get_or w 17 0 };
}

-- Where nobody is pending, all of the sheet is 0.
unfoldable pub held : Option Turned → ℕ
held None = 0
held (Some p) = 1

unfoldable pub sheet_held : Option Turned → Turned
sheet_held None = record { learner = 0; turn = 0; place = 0; length = 0 }
sheet_held (Some p) = p

abbrev pub pending_words : Option Turned → List ℕ
pending_words q = held q ∷ (sheet_held q).learner ∷ (sheet_held q).turn ∷ (sheet_held q).place ∷ (sheet_held q).length ∷ []

unfoldable pub words_of : ℕ → Report → List ℕ
words_of place r =
    code_of r.stage ∷ place ∷ r.number.value ∷ r.number.weight ∷ r.left ∷ r.learner ∷ r.turn ∷ r.length ∷ r.stop
    ∷ (pending_words r.pending ++ r.tally.records ∷ r.tally.refused ∷ r.tally.starts ∷ r.tally.dropped ∷ [])

-- A pending sheet is the one that its words say.
pending-is : (q : Option Turned) → choose (held q ≐ 0) None (Some (sheet_held q)) ≡ q
unfolding held sheet_held
pending-is None = choose_yes (0 ≐ 0) None _ refl
pending-is (Some p) = choose_no (1 ≐ 0) None (Some p) (λ e. omega arith)

stage_code : (stage : Stage) → stage_of (code_of stage) ≡ stage
unfolding stage_of code_of
stage_code Head = refl
stage_code Count = refl
stage_code Learner = refl
stage_code Turn = refl
stage_code Length = refl
stage_code Sheet = refl
stage_code Line = refl
stage_code Last = refl
stage_code Nothing = refl

pub code-nothing : (w : List ℕ) → code_in w ≡ 7 → (report_of w).stage ≡ Nothing
unfolding report_of stage_of
code-nothing w e = ap stage_of e

-- Words that were written are read back.
module _ (state : List ℕ) (place : ℕ) (r : Report) where
  pub place-written : place_of (splice state 0 (words_of place r)) ≡ place
  unfolding place_of splice words_of
  place-written = refl

  pub code-written : code_in (splice state 0 (words_of place r)) ≡ code_of r.stage
  unfolding splice words_of
  code-written = refl

  pub report-written : report_of (splice state 0 (words_of place r)) ≡ r
  unfolding report_of pending_of splice words_of
  report-written = rw (stage_code r.stage, pending-is r.pending) refl

  pub rest-written : words_of_class ≤ length state → drop words_of_class (splice state 0 (words_of place r)) ≡ drop words_of_class state
  unfolding words_of
  rest-written h = splice-behind state 0 (words_of place r) h

-- words put one behind the other
unfoldable pub puts : List ℕ → ℕ → List ℕ → List ℕ
puts l at [] = l
puts l at (w ∷ ws) = puts (set l at w) (suc at) ws

pub puts-splice : (l : List ℕ) (at : ℕ) (ws : List ℕ) → at + length ws ≤ length l → puts l at ws ≡ splice l at ws
unfolding puts
puts-splice l at [] h = sym (splice_none l at)
puts-splice l at (w ∷ ws) h =
    puts-splice (set l at w) (suc at) ws (omega (arith, length-set l at w))
    ∙ ap (λ (n : ℕ). splice (set l at w) n ws) (sym (add-one at))
    ∙ sym (splice-step l at w ws (omega arith))

-- "Check 1": eighteen words, and the memory that a part wants
abbrev pub lends_words : List ℕ → List ℕ → List ℕ → Formula
lends_words state memory lines = words_of_class ≼ length state and lends memory lines

-- A part from where the words say to where they say then, by the stage's own code; the words past them stay.
pub record Continued (file state state' before after lines lines' : List ℕ) (used : ℕ) (refused : ℕ) : Type 0 where
  pub reported : Reported file (least (place_of state) (length file)) (report_of state) before after lines lines'
      (record { used = used; place = place_of state'; report = report_of state' })
  pub code : code_in state' ≡ code_of (report_of state').stage
  pub done : refused ≡ 0
  pub long : length state' ≡ length state
  pub past : drop words_of_class state' ≡ drop words_of_class state

-- Check 1 is met, or nothing changes.
unfoldable pub Reports : List ℕ → List ℕ → List ℕ → List ℕ → List ℕ → List ℕ → List ℕ → ℕ → ℕ → Type 0
Reports file state state' before after lines lines' used refused =
    choose (lends_words state before lines)
    (Continued file state state' before after lines lines' used refused)
    ((state' ≡ state) × (after ≡ before) × (lines' ≡ lines) × (used ≡ 0) × (refused ≡ 1))

-- the part that an answer holds
part_of : Part → Result Part Refusal → Part
part_of p (Ok q) = q
part_of p (Err e) = p

module _ (file state before lines : List ℕ) where
  pub reports_short : length state < words_of_class → Reports file state state before before lines lines 0 1
  unfolding Reports
  reports_short h = rw (fails (lends_words state before lines) (λ x. omega (arith, x.0))) (refl, refl, refl, refl, refl)

  module _ (after lines' : List ℕ) (h : words_of_class ≤ length state) where
    -- a part that was refused
    pub reports_not : (e : Refusal) → Parted file (place_of state) (report_of state) before after lines lines' (Err e)
        → Reports file state state before after lines lines' 0 (number e)
    unfolding Reports Parted
    reports_not e x = go (decide (lends before lines))
      where
        go : Case (lends before lines) → Reports file state state before after lines lines' 0 (number e)
        go (it_does y) =
            let z = rw (passes (lends before lines) y) at x in
            absurd (omega (arith, ap (refusal_told {A = Part}) z.1, number_some e))
        go (it_does_not y) =
            let z = rw (fails (lends before lines) y) at x in
            rw (fails (lends_words state before lines) (λ l. y l.1))
            (refl, z.0, z.1, refl, ap (refusal_told {A = Part}) z.2)

    -- a part that was done, and where the next one goes on written into the words
    pub reports_done : (p : Part) → Parted file (place_of state) (report_of state) before after lines lines' (Ok p)
        → (state' : List ℕ) → state' ≡ splice state 0 (words_of p.place p.report)
        → Reports file state state' before after lines lines' p.used 0
    unfolding Reports Parted words_of part_of
    reports_done p x state' e = go (decide (lends before lines))
      where
        place : p.place ≡ place_of state'
        place = sym (place-written state p.place p.report) ∙ ap place_of (sym e)

        next : p.report ≡ report_of state'
        next = sym (report-written state p.place p.report) ∙ ap report_of (sym e)

        go : Case (lends before lines) → Reports file state state' before after lines lines' p.used 0
        go (it_does y) =
            let z = rw (passes (lends before lines) y) at x in
            let same : z.0 ≡ record { used = p.used; place = place_of state'; report = report_of state' } =
            ap (part_of p) (sym z.1) ∙ (λ i. record { used = p.used; place = place i; report = next i }) in
            rw (passes (lends_words state before lines) (h, y)) (record {
              reported = rw same at z.2;
              code = ap code_in e ∙ code-written state p.place p.report ∙ ap (λ (q : Report). code_of q.stage) next;
              done = refl;
              long = rw e (splice-length state 0 (words_of p.place p.report) h);
              past = rw e (rest-written state p.place p.report h);
            })
        go (it_does_not y) =
            let z = rw (fails (lends before lines) y) at x in
            absurd (omega (arith, ap (refusal_told {A = Part}) z.2))

-- words that are the same up to the eighteenth say the same
module _ (v w : List ℕ) (same : (k : ℕ) → k < words_of_class → get_or v k 0 ≡ get_or w k 0) where
  pending_same : pending_of v ≡ pending_of w
  unfolding pending_of
  pending_same i =
      choose (same 9 (omega arith) i ≐ 0) None
      (Some (record {
        learner = same 10 (omega arith) i;
        turn = same 11 (omega arith) i;
        place = same 12 (omega arith) i;
        length = same 13 (omega arith) i;
      }))

  report_same : report_of v ≡ report_of w
  unfolding report_of
  report_same i = record {
    stage = stage_of (same 0 (omega arith) i);
    number = record { value = same 2 (omega arith) i; weight = same 3 (omega arith) i };
    left = same 4 (omega arith) i;
    learner = same 5 (omega arith) i;
    turn = same 6 (omega arith) i;
    length = same 7 (omega arith) i;
    stop = same 8 (omega arith) i;
    pending = pending_same i;
    tally = record {
      records = same 14 (omega arith) i;
      refused = same 15 (omega arith) i;
      starts = same 16 (omega arith) i;
      dropped = same 17 (omega arith) i;
    };
  }

-- the first words of a state are read and written as those of the state
module _ (state : List ℕ) where
  pub first_place : place_of (take words_of_class state) ≡ place_of state
  unfolding place_of
  first_place = get_or-take words_of_class state 1 0 (omega arith)

  pub first_report : report_of (take words_of_class state) ≡ report_of state
  first_report = report_same (take words_of_class state) state (λ k h. get_or-take words_of_class state k 0 h)

  pub words-written : (place : ℕ) (r : Report) → words_of place r ++ drop words_of_class state ≡ splice state 0 (words_of place r)
  unfolding splice words_of
  words-written place r = refl

-- whether somebody is pending, and that sheet, as the code tells them
pub held_told : (q : Option Turned) → bool_byte (is_some q) ≡ held q
unfolding held
held_told None = refl
held_told (Some p) = refl

pub sheet_told : (q : Option Turned) → unwrap_or q (record { learner = 0; turn = 0; place = 0; length = 0 }) ≡ sheet_held q
unfolding sheet_held
sheet_told None = refl
sheet_told (Some p) = refl
