-- What running a whole sheet leaves.
use Rattle.std.specs.Prelude.{ℕ, ◌≤◌, ◌<◌, List, length}
use Rattle.std.proofs.Math.Path.{◌≡◌, refl, ap, sym}
use Rattle.std.proofs.Common.{◌∙◌, arith, lit≤, lit<, le-leb}
use Rattle.std.proofs.lemmas.Bool.{lt-leb}
use Rattle.session.specs.Table.{Session, Wrote, read, words}
use Rattle.session.specs.TableLaws.{wrote_then}
use Rattle.session.specs.Fresh.{fresh_session, Leaves, refused_length}
use Rattle.rules.specs.Formula.{Holds, choose, not, Formula.◌≐◌, Formula.◌≼◌}
use Rattle.rules.specs.FormulaLaws.{Case, decide, passes, fails, choose_yes, choose_no, Case.it_does, Case.it_does_not}
use Rattle.rules.specs.Sound.{sound, kept}
use Rattle.record.specs.RecordReading.{Place, Behind, Refused, placed, refused_by, place_of}
use Rattle.record.specs.Refusals.{refusal-most}
use Rattle.record.specs.Sheet.{head_refusal, head_checks, first_record, head_at}
use Rattle.laws.specs.FreshKept.{fresh_kept}
use Rattle.sheet.specs.Told.{Ended}
use Rattle.sheet.specs.Run.{Lines, has_room, with_line, ended, ended_by, run_from, run_sheet, run_at}
use Rattle.sheet.specs.RunLaws.{sheet_unsound, sheet_refused, sheet_runs, run-start, run-behind}
use Rattle.sheet.specs.Going.{lines_of, lent, Ends, ends_as}

-- A run from a session s: under check 1 nothing changes; otherwise the session, every byte of the lines, their length, the
-- number and the ending are those of `run_sheet`.
abbrev pub Ran : List ℕ → List ℕ → List ℕ → List ℕ → List ℕ → ℕ → Ended → Session → Type 0
Ran sheet before after lines lines' used e s =
    choose (lent before (lines_of lines used))
    (Ends before after lines' e (run_sheet sheet s (lines_of lines used)))
    ((after ≡ before) × (lines' ≡ lines) × (e ≡ record { used = used; place = 0; number = 0; ending = 1 }))

-- the sheet's first number, from its answer
module _ (sheet : List ℕ) where
  pub head_first : (f : ℕ) → head_at sheet ≡ Behind f → (head_refusal sheet ≡ 0) × (f ≡ first_record sheet)
  unfolding head_at placed place_of
  head_first f e = go (decide (head_refusal sheet ≐ 0))
    where
      go : Case (head_refusal sheet ≐ 0) → (head_refusal sheet ≡ 0) × (f ≡ first_record sheet)
      go (it_does z) = (
        z,
        ap place_of
            (sym e ∙ choose_yes (head_refusal sheet ≐ 0) (Behind (first_record sheet)) (Refused (head_refusal sheet)) z),
      )
      go (it_does_not u) =
          let z : ◌≡◌ {A = ℕ} 0 1 =
          cc (e, choose_no (head_refusal sheet ≐ 0) (Behind (first_record sheet)) (Refused (head_refusal sheet)) u) in
          absurd (omega arith)

  pub head-number : (n : ℕ) → head_at sheet ≡ Refused n → (n ≡ head_refusal sheet) × (head_refusal sheet ≡ 0 → ⊥)
  unfolding head_at placed refused_by
  head-number n e = go (decide (head_refusal sheet ≐ 0))
    where
      go : Case (head_refusal sheet ≐ 0) → (n ≡ head_refusal sheet) × (head_refusal sheet ≡ 0 → ⊥)
      go (it_does_not u) = (
        ap refused_by (sym e ∙ choose_no (head_refusal sheet ≐ 0) (Behind (first_record sheet)) (Refused (head_refusal sheet)) u),
        u,
      )
      go (it_does z) =
          let z : ◌≡◌ {A = ℕ} 0 1 =
          cc (e, choose_yes (head_refusal sheet ≐ 0) (Behind (first_record sheet)) (Refused (head_refusal sheet)) z) in
          absurd (omega arith)

  pub head_small : head_refusal sheet ≤ 5
  head_small = refusal-most 5 (head_checks sheet) (lit≤ tt, (lit≤ tt, (lit≤ tt, tt)))

-- Where the records begin from a place on: at its first number the sheet meets 2, then 3, 4 and 5.
unfoldable pub start_at : List ℕ → ℕ → Session → Place
start_at sheet at s = choose (not (at ≐ 0)) (Behind at) (choose (not (sound s)) (Refused 2) (head_at sheet))

module _ (sheet : List ℕ) (s : Session) where
  pub start_record : (at : ℕ) → (at ≡ 0 → ⊥) → Behind at ≡ start_at sheet at s
  unfolding start_at
  start_record at f = sym (choose_yes (not (at ≐ 0)) _ _ f)

  pub start-unsound : (at : ℕ) → at ≡ 0 → (Holds (sound s) → ⊥) → Refused 2 ≡ start_at sheet at s
  unfolding start_at
  start-unsound at z f = sym (choose_no (not (at ≐ 0)) _ _ (λ g. g z) ∙ choose_yes (not (sound s)) _ _ f)

  pub start-head : (at : ℕ) → at ≡ 0 → Holds (sound s) → head_at sheet ≡ start_at sheet at s
  unfolding start_at
  start-head at z i = sym (choose_no (not (at ≐ 0)) _ _ (λ g. g z) ∙ choose_no (not (sound s)) _ _ (λ g. g i))

  module _ (at k : ℕ) (few : k ≤ at) (l : Lines) (room : Holds (has_room l)) where
    -- the sheet is ended by this line
    pub start-refused : (n : ℕ) → start_at sheet at s ≡ Refused n → (n < 100) × (run_at sheet at k s l ≡ ended_by s l 0 0 n)
    unfolding refused_by
    start-refused n e = places (decide (at ≐ 0))
      where
        sounds : at ≡ 0 → Case (sound s) → (n < 100) × (run_sheet sheet s l ≡ ended_by s l 0 0 n)
        sounds z (it_does_not f) =
            let two : 2 ≡ n = ap refused_by (start-unsound at z f ∙ e) in
            rw (← two) (lit< tt, sheet_unsound sheet s l room f)
        sounds z (it_does i) =
            let h = head-number sheet n (start-head at z i ∙ e) in
            rw h.0 (omega (arith, head_small sheet), sheet_refused sheet s l room i h.1)

        places : Case (at ≐ 0) → (n < 100) × (run_at sheet at k s l ≡ ended_by s l 0 0 n)
        places (it_does z) =
            let x = sounds z (decide (sound s)) in
            (x.0, rw z (run-start sheet k s l ∙ x.1))
        places (it_does_not f) =
            let y : ◌≡◌ {A = ℕ} 0 1 = cc (start_record at f, e) in
            absurd (omega arith)

    -- the records from here on
    pub start-behind : (first : ℕ) → start_at sheet at s ≡ Behind first
        → (k ≤ first) × (run_from sheet (length sheet) first k s l ≡ run_at sheet at k s l)
    unfolding place_of
    start-behind first e = places (decide (at ≐ 0))
      where
        sounds : at ≡ 0 → Case (sound s) → run_sheet sheet s l ≡ run_from sheet (length sheet) first 0 s l
        sounds z (it_does_not f) =
            let y : ◌≡◌ {A = ℕ} 0 1 = cc (start-unsound at z f, e) in
            absurd (omega arith)
        sounds z (it_does i) =
            let h = head_first sheet first (start-head at z i ∙ e) in
            rw h.1 (sheet_runs sheet s l room i h.0)

        places : Case (at ≐ 0) → (k ≤ first) × (run_from sheet (length sheet) first k s l ≡ run_at sheet at k s l)
        places (it_does z) =
            let none : k ≡ 0 = omega arith in
            (omega arith, rw (z, run-start sheet k s l, none) (sym (sounds z (decide (sound s)))))
        places (it_does_not f) =
            let same : at ≡ first = ap place_of (start_record at f ∙ e) in
            rw (← same) (few, sym (run-behind sheet k s l at f))

module _ (sheet ws lines : List ℕ) (used at k : ℕ) (few : k ≤ at) (room : Holds (has_room (lines_of lines used))) where
  pub ends_refused : (lines' : List ℕ) (used' n : ℕ) → start_at sheet at (read ws) ≡ Refused n
      → lines_of lines' used' ≡ with_line (lines_of lines used) 0 n 0
      → Ends ws ws lines' (record { used = used'; place = 0; number = 0; ending = n })
      (run_at sheet at k (read ws) (lines_of lines used))
  unfolding ended_by
  ends_refused lines' used' n h e =
      ends_as _ _ _ _ _ refl refl
      ((start-refused sheet (read ws) at k few (lines_of lines used) room n h).1
      ∙ ap (λ (l : Lines). ended (read ws) l 0 0 n) (sym e))

module _ (sheet before lines : List ℕ) (used : ℕ) (s : Session) where
  pub ran-not : (Holds (lent before (lines_of lines used)) → ⊥)
      → Ran sheet before before lines lines used (record { used = used; place = 0; number = 0; ending = 1 }) s
  ran-not f = rw (fails (lent before (lines_of lines used)) f) (refl, refl, refl)

  pub ran-whole : (after lines' : List ℕ) (e : Ended) → Holds (lent before (lines_of lines used))
      → Ends before after lines' e (run_sheet sheet s (lines_of lines used))
      → Ran sheet before after lines lines' used e s
  ran-whole after lines' e h x = rw (passes (lent before (lines_of lines used)) h) x

-- from its first number
pub ends_start : (sheet before after lines lines' : List ℕ) (used : ℕ) (e : Ended)
    → Ends before after lines' e (run_at sheet 0 0 (read before) (lines_of lines used))
    → Ends before after lines' e (run_sheet sheet (read before) (lines_of lines used))
ends_start sheet before after lines lines' used e x = rw (run-start sheet 0 (read before) (lines_of lines used)) at x

-- from memory that was written first
pub ends_then : (sheet before middle after lines lines' : List ℕ) (used : ℕ) (e : Ended) (s : Session) → Wrote before middle s
    → Ends middle after lines' e (run_sheet sheet (read middle) (lines_of lines used))
    → Ends before after lines' e (run_sheet sheet s (lines_of lines used))
ends_then sheet before middle after lines lines' used e s w x =
    let y = rw w.reading at x in
    record {
      session = wrote_then w y.session;
      bytes = y.bytes;
      used = y.used;
      place = y.place;
      number = y.number;
      ending = y.ending;
    }

-- whether a fresh session was written, by the answer
pub fresh_long : (ws : List ℕ) → 0 ≡ refused_length ws → words ≤ length ws
fresh_long ws e = go (decide (words ≼ length ws))
  where
    go : Case (words ≼ length ws) → words ≤ length ws
    go (it_does h) = h
    go (it_does_not f) =
        let z : ◌≡◌ {A = ℕ} 0 1 = rw (lt-leb words (length ws) (omega arith)) at e in
        absurd (omega arith)

pub fresh_short : (ws : List ℕ) → 1 ≡ refused_length ws → words ≤ length ws → ⊥
fresh_short ws e h =
    let z : ◌≡◌ {A = ℕ} 1 0 = rw (le-leb words (length ws) h) at e in
    omega arith

-- a fresh session, written into memory that is long enough
module _ (before after : List ℕ) (long : words ≤ length before) (w : Leaves before after fresh_session) where
  pub fresh-written : Wrote before after fresh_session
  fresh-written = rw (le-leb words (length before) long) at w

  pub fresh-lent : (l : Lines) → Holds (has_room l) → Holds (lent after l) × Holds (kept (read after))
  fresh-lent l room = ((rw fresh-written.same_length long, room), rw fresh-written.reading fresh_kept)
