-- Laws of a part: its lines, and what is printed from where the next part goes on, are what is printed from where it began.
use Rattle.std.specs.Prelude.{ℕ, ◌+◌, ◌-◌, ◌≤◌, ◌<◌, ◌^◌, ◌≡◌, Result.Ok, Result.Err}
use mathlib.Core.List.{List, [], ◌++◌, append_assoc, append-nil}
use Rattle.std.proofs.Math.Path.{refl, ap, sym}
use Rattle.std.proofs.Common.{◌∙◌}
use native.Mathlib.Omega.{arith}
use Rattle.std.proofs.Math.ListN.{length}
use Rattle.number.specs.Splice.{splice_to, splice-length}
use Rattle.session.specs.Table.{Session, Wrote, read, words}
use Rattle.session.specs.TableLaws.{wrote_none}
use Rattle.rules.specs.Formula.{Holds, Formula.◌≐◌, Formula.◌≼◌}
use Rattle.rules.specs.FormulaLaws.{Case, decide, passes, fails, choose_yes, choose_no, Case.it_does, Case.it_does_not}
use Rattle.rules.specs.Sound.{kept}
use Rattle.rules.specs.declared.refusals.Refusal.TheVariants.{NoRoom}
use Rattle.sheet.specs.declared.Next.{Next}
use Rattle.sheet.specs.declared.Next.TheVariants.{At, LastLine, Nothing}
use Rattle.sheet.specs.declared.Part.{Part}
use Rattle.sheet.specs.Told.{Ended, Closed}
use Rattle.sheet.specs.Run.{Lines, line_room, has_room, Run, ended, run_at, last_line}
use Rattle.sheet.specs.Going.{lines_of, lent, Ends}
use Rattle.sheet.specs.Closing.{with_last, Closes, closed-room, closed-not}
use Rattle.sheet.specs.SheetPrinted.{Printed, prints, after, closing, print_at, records_before, print_next}
use Rattle.sheet.specs.PrintLaws.{print_behind}
use Rattle.sheet.specs.SheetParts.{text, FirstPart, place-part, rest-full, rest_none}
use Rattle.sheet.specs.PartOf.{PartRun, part_run, last_part, is_going_on, part_from, parts_left, Tells, TellsLast, PartOf, Parted}

-- records before a place
pub before_few : (at k : ℕ) → k ≤ at → records_before at k ≡ k
before_few at k h = choose_yes (k ≼ at) k at h

pub before_many : (at k : ℕ) → (k ≤ at → ⊥) → records_before at k ≡ at
before_many at k f = choose_no (k ≼ at) k at f

pub before_most : (at k : ℕ) → records_before at k ≤ at
before_most at k = go (decide (k ≼ at))
  where
    go : Case (k ≼ at) → records_before at k ≤ at
    go (it_does h) = rw (before_few at k h) h
    go (it_does_not f) = rw (before_many at k f) (omega arith)

-- the cases of a part
module _ (s : Session) (l : Lines) where
  pub last_room : Holds (has_room l) → last_part s l ≡ part_run s (with_last s l) Nothing
  unfolding last_part
  last_room h = choose_yes (has_room l) _ _ h

  pub last_full : (Holds (has_room l) → ⊥) → last_part s l ≡ part_run s l LastLine
  unfolding last_part
  last_full f = choose_no (has_room l) _ _ f

module _ (r : Run) where
  pub going-full : r.ending ≡ 1 → is_going_on r ≡ part_run r.session r.lines (At r.place (r.number - 1))
  unfolding is_going_on
  going-full e = choose_yes (r.ending ≐ 1) _ _ e

  pub going_closes : (r.ending ≡ 1 → ⊥) → is_going_on r ≡ last_part r.session r.lines
  unfolding is_going_on
  going_closes f = choose_no (r.ending ≐ 1) _ _ f

-- a part leaves the session of its run
last_session : (s : Session) (l : Lines) → (last_part s l).session ≡ s
last_session s l = go (decide (has_room l))
  where
    go : Case (has_room l) → (last_part s l).session ≡ s
    go (it_does h) = rw (last_room s l h)
    go (it_does_not f) = rw (last_full s l f)

going_session : (r : Run) → (is_going_on r).session ≡ r.session
going_session r = go (decide (r.ending ≐ 1))
  where
    go : Case (r.ending ≐ 1) → (is_going_on r).session ≡ r.session
    go (it_does e) = rw (going-full r e)
    go (it_does_not f) = rw (going_closes r f) (last_session r.session r.lines)

-- A part t behind the lines l, of all that is printed from a session s on; so many parts follow at most.
record Follows (sheet : List ℕ) (p : Printed) (s : Session) (l : Lines) (most : ℕ) (t : PartRun) : Type 0 where
  pub printed : after (text t.lines) (print_next sheet t.next t.session) ≡ after (text l) p
  pub fits : t.lines.used ≤ length t.lines.bytes
  pub keeps : Holds (kept s) → Holds (kept t.session)
  pub further : parts_left sheet t.next ≤ most

-- the last line has its room
abbrev Short : PartRun → Type 0
Short t = t.next ≡ Nothing → length (last_line t.session) ≤ line_room

-- which it is asked of, but where nothing was left before
abbrev LastFits : Next → PartRun → Type 0
LastFits (At at k) t = Short t
LastFits LastLine t = Short t
LastFits Nothing t = Unit {0}

after-closing : (x : List ℕ) (p : Printed) → after x (closing p) ≡ closing (after x p)
after-closing x p = ap (λ (t : List ℕ). prints t p.session) (sym (append_assoc x p.text (last_line p.session)))

module _ (sheet : List ℕ) where
  -- the last line, as a part
  last_follows : (s : Session) (l : Lines) (most : ℕ) → l.used ≤ length l.bytes → ((Holds (has_room l) → ⊥) → 1 ≤ most)
      → Short (last_part s l)
      → Follows sheet (prints (last_line s) s) s l most (last_part s l)
  unfolding print_next parts_left
  last_follows s l most h some short = go (decide (has_room l))
    where
      go : Case (has_room l) → Follows sheet (prints (last_line s) s) s l most (last_part s l)
      go (it_does room) =
          let e = last_room s l room in
          let n : length (last_line s) ≤ line_room = (rw e at short) refl in
          let w : l.used + length (last_line s) ≤ length l.bytes = omega (arith, room) in
          rw e (record {
            printed =
                ap (λ (x : List ℕ). prints (x ++ []) s) (splice_to l.bytes l.used (last_line s) w) ∙ rw append-nil refl;
            fits = omega (arith, splice-length l.bytes l.used (last_line s) w);
            keeps = λ x. x;
            further = omega arith;
          })
      go (it_does_not f) = rw (last_full s l f) (record { printed = refl; fits = h; keeps = λ x. x; further = some f })

  -- a run, as a part
  going-follows : (at : ℕ) (p : Printed) (s : Session) (l : Lines) (r : Run) (most : ℕ) → length sheet - at + 1 ≤ most
      → Holds (has_room l)
      → FirstPart sheet at p s l r → Short (is_going_on r)
      → Follows sheet (closing p) s l most (is_going_on r)
  unfolding print_next parts_left
  going-follows at p s l r most m room x short = go (decide (r.ending ≐ 1))
    where
      go : Case (r.ending ≐ 1) → Follows sheet (closing p) s l most (is_going_on r)
      go (it_does e) =
          let h = x.halted e in
          rw (going-full r e) (record {
            printed =
                rw (
                  before_few r.place (r.number - 1) h.count,
                  print_behind sheet (r.number - 1) r.session r.place (λ z. omega (arith, h.further room)),
                )
                (after-closing (text r.lines) _ ∙ ap closing (sym (rest-full sheet r e) ∙ x.same)
                ∙ sym (after-closing (text l) p));
            fits = x.fits (omega (arith, room));
            keeps = x.keeps;
            further = omega (arith, h.further room, h.inside);
          })
      go (it_does_not f) =
          let e = going_closes r f in
          let y = last_follows r.session r.lines most (x.fits (omega (arith, room))) (λ _. omega arith) (rw e at short) in
          rw e (record {
            printed = y.printed ∙ ap closing (sym (rest_none sheet r f) ∙ x.same) ∙ sym (after-closing (text l) p);
            fits = y.fits;
            keeps = λ k. y.keeps (x.keeps k);
            further = y.further;
          })

  part-follows : (from : Next) (s : Session) (l : Lines) → length sheet < 2 ^ 64 → Holds (has_room l)
      → LastFits from (part_from sheet from s l)
      → Follows sheet (print_next sheet from s) s l (parts_left sheet from - 1) (part_from sheet from s l)
  unfolding part_from print_next parts_left
  part-follows (At at k) s l small room short =
      going-follows at (print_at sheet at (records_before at k) s) s l _ (length sheet - at + 2 - 1) (omega arith) room
      (place-part sheet at (records_before at k) s l room small (before_most at k)) short
  part-follows LastLine s l small room short = last_follows s l (1 - 1) (omega (arith, room)) (λ f. absurd (f room)) short
  part-follows Nothing s l small room short =
      record { printed = refl; fits = omega (arith, room); keeps = λ x. x; further = omega arith }

-- The code's part, once memories and answer are those of `part_from`.
part-told : (sheet : List ℕ) (from : Next) (before after' lines lines' : List ℕ) (p : Part) → length sheet < 2 ^ 64
    → line_room ≤ length lines
    → LastFits from (part_from sheet from (read before) (lines_of lines 0))
    → Wrote before after' (part_from sheet from (read before) (lines_of lines 0)).session
    → Tells lines' p (part_from sheet from (read before) (lines_of lines 0))
    → PartOf sheet from before after' lines lines' p
part-told sheet from before after' lines lines' p small room short w x =
    let f = part-follows sheet from (read before) (lines_of lines 0) small room short in
    record {
      session = w;
      tells = x;
      printed = rw (x.used, x.bytes, x.next, w.reading) f.printed;
      fits = rw (x.used, x.bytes) f.fits;
      keeps = λ k. rw w.reading (f.keeps k);
      further = rw x.next f.further;
    }

-- the last line, as the code tells it
module _ (memory lines lines' : List ℕ) (used : ℕ) (c : Closed) (long : words ≤ length memory)
    (x : Closes memory lines lines' used c) where
  abbrev l : Lines
  l = lines_of lines used

  pub last_waits : (c.refused ≡ 0 → ⊥)
      → TellsLast memory lines' (record { used = used; next = LastLine }) (last_part (read memory) l)
  last_waits f =
      rw (last_full (read memory) l none)
      (record {
        tells = record { bytes = ap (λ (y : Lines). y.bytes) same; used = refl; next = refl };
        short = λ e. absurd (never e);
      })
    where
      none : Holds (has_room l) → ⊥
      none room = f (x.refused ∙ choose_yes (lent memory l) 0 1 (long, room))

      same : lines_of lines' c.used ≡ l
      same = x.written ∙ closed-not memory l (λ h. none h.1)

      never : LastLine ≡ Nothing → ⊥
      never e = let z : ◌≡◌ {A = ℕ} 0 1 = cc in omega arith

  pub last_told : c.refused ≡ 0
      → TellsLast memory lines' (record { used = c.used; next = Nothing }) (last_part (read memory) l)
  last_told z = go (decide (has_room l))
    where
      go : Case (has_room l)
          → TellsLast memory lines' (record { used = c.used; next = Nothing }) (last_part (read memory) l)
      go (it_does room) =
          let same = x.written ∙ closed-room memory l (long, room) in
          rw (last_room (read memory) l room)
          (record {
            tells = record {
              bytes = ap (λ (y : Lines). y.bytes) same;
              used = ap (λ (y : Lines). y.used) same;
              next = refl;
            };
            short = λ _. x.short z;
          })
      go (it_does_not f) =
          let e = x.refused ∙ choose_no (lent memory l) 0 1 (λ h. f h.1) in
          absurd (omega (arith, e, z))

-- a run, as the code tells it
module _ (memory lines : List ℕ) (e : Ended) where
  abbrev ran : Run
  ran = ended (read memory) (lines_of lines e.used) e.place e.number e.ending

  pub going-told : e.ending ≡ 1
      → TellsLast memory lines (record { used = e.used; next = At e.place (e.number - 1) }) (is_going_on ran)
  going-told q =
      rw (going-full ran q)
      (record { tells = record { bytes = refl; used = refl; next = refl }; short = λ y. absurd (never y) })
    where
      never : At e.place (e.number - 1) ≡ Nothing → ⊥
      never y = let z : ◌≡◌ {A = ℕ} 0 1 = cc in omega arith

  pub going_last : (lines' : List ℕ) (p : Part) → (e.ending ≡ 1 → ⊥)
      → TellsLast memory lines' p (last_part (read memory) (lines_of lines e.used))
      → TellsLast memory lines' p (is_going_on ran)
  going_last lines' p f x = rw (going_closes ran f) x

-- The cases of a part.
module _ (sheet before lines : List ℕ) (small : length sheet < 2 ^ 64) (room : line_room ≤ length lines) where
  module _ (middle lines₁ : List ℕ) (e : Ended) where
    -- a run's end in the code is the run
    run_is : (r : Run) → Ends before middle lines₁ e r → ran middle lines₁ e ≡ r
    run_is r x = rw (x.session.reading, x.bytes, x.used, x.place, x.number, x.ending) refl

    module _ (at k done : ℕ) (few : done ≡ records_before at k)
        (x : Ends before middle lines₁ e (run_at sheet at done (read before) (lines_of lines 0))) where
      abbrev r : Run
      r = run_at sheet at (records_before at k) (read before) (lines_of lines 0)

      x' : Ends before middle lines₁ e r
      x' = rw few at x

      pub place-begun : e.ending ≡ 1 → 1 ≤ e.number
      place-begun z =
          let f = place-part sheet at (records_before at k) (read before) (lines_of lines 0) room small (before_most at k) in
          rw x'.number (f.halted (sym x'.ending ∙ z)).begun

      pub at_part : (lines' : List ℕ) (p : Part) → TellsLast middle lines' p (is_going_on (ran middle lines₁ e))
          → PartOf sheet (At at k) before middle lines lines' p
      unfolding part_from
      at_part lines' p y =
          let t : TellsLast middle lines' p (is_going_on r) = rw (run_is r x') at y in
          part-told sheet (At at k) before middle lines lines' p small room
          (λ n. rw (going_session r, ← x'.session.reading) (t.short n))
          (rw (going_session r) x'.session) t.tells

  pub last_part_lem : (lines' : List ℕ) (p : Part) → TellsLast before lines' p (last_part (read before) (lines_of lines 0))
      → PartOf sheet LastLine before before lines lines' p
  unfolding part_from
  last_part_lem lines' p y =
      part-told sheet LastLine before before lines lines' p small room
      (λ n. rw (last_session (read before) (lines_of lines 0)) (y.short n))
      (rw (last_session (read before) (lines_of lines 0)) (wrote_none _)) y.tells

  pub no_part : PartOf sheet Nothing before before lines lines (record { used = 0; next = Nothing })
  unfolding part_from
  no_part =
      part-told sheet Nothing before before lines lines _ small room tt (wrote_none _)
      (record { bytes = refl; used = refl; next = refl })

-- Check 1.
module _ (sheet : List ℕ) (from : Next) (before lines : List ℕ) where
  pub parted_not : (Holds (lent before (lines_of lines 0)) → ⊥) → Parted sheet from before before lines lines (Err NoRoom)
  unfolding Parted
  parted_not f = rw (fails (lent before (lines_of lines 0)) f) (refl, refl, refl)

  module _ (after' lines' : List ℕ) (p : Part) (h : Holds (lent before (lines_of lines 0))) where
    pub parted : PartOf sheet from before after' lines lines' p → Parted sheet from before after' lines lines' (Ok p)
    unfolding Parted
    parted x = rw (passes (lent before (lines_of lines 0)) h) x

    pub part-is : Parted sheet from before after' lines lines' (Ok p) → PartOf sheet from before after' lines lines' p
    unfolding Parted
    part-is x = rw (passes (lent before (lines_of lines 0)) h) at x
