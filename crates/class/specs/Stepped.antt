-- What the code of a step tells.
use Rattle.std.specs.Prelude.{ℕ, ◌+◌, ◌≤◌, ◌<◌, ◌≡◌, ◌⊎◌, length, get_or, take, drop, Option, None, Some}
use mathlib.Core.List.{List, [], ◌∷◌, ◌++◌, append_assoc}
use Rattle.std.proofs.Math.Path.{refl, subst}
use Rattle.std.proofs.Common.{ap, sym, ◌∙◌, arith, inl, inr, length-take-le, take-append-drop}
use Rattle.std.proofs.lemmas.List.{drop-append-le}
use Rattle.number.specs.Number.{limit32, splice}
use Rattle.number.specs.Fed.{fed}
use Rattle.number.specs.declared.reader.Fed.{Fed}
use Rattle.session.specs.Table.{Session, Wrote, read, words}
use Rattle.session.specs.TableLaws.{wrote_none}
use Rattle.session.specs.First.{read_first, read_front, wrote_first}
use Rattle.session.specs.Fresh.{fresh_session}
use Rattle.rules.specs.Formula.{Holds}
use Rattle.rules.specs.FormulaLaws.{choose_case}
use Rattle.rules.specs.Sound.{kept}
use Rattle.laws.specs.FreshKept.{fresh_kept}
use Rattle.sheet.specs.SheetPrinted.{print_sheet}
use Rattle.sheet_counts.specs.declared.Tally.{Tally}
use Rattle.sheet_counts.specs.Answers.{counts_of}
use Rattle.sheet_counts.specs.Bounds.{sheet_keeps}
use Rattle.tally.specs.Raise.{raise}
use Rattle.text.specs.Put.{Put, put_none}
use Rattle.class.specs.declared.Report.{Report}
use Rattle.class.specs.declared.Stage.{Stage}
use Rattle.class.specs.declared.Stage.TheVariants.{Head, Count, Learner, Turn, Length, Sheet, Line, Last, Nothing}
use Rattle.class.specs.declared.Turned.{Turned}
use Rattle.class.specs.declared.Step.{Step}
use Rattle.class.specs.declared.steps.Shown.{Shown}
use Rattle.class_rules.specs.Report.{entry_line}
use Rattle.class.specs.Steps.{stopping, numbered, byte, Did, did, sheet_of, ran, closed, after, taken, sheet_taken, does_at}
use Rattle.class.specs.Steps.{valued, asks_at, does}

-- what a step asks of the memories lent to it: a kept session, and room for a line
abbrev pub Lent : List ℕ → List ℕ → Type 0
Lent memory lines = (words ≤ length memory) × Holds (kept (read memory)) × (128 ≤ length lines)

-- where the report stands, and the line at the start of the memory, within the room for one
pub record Told (lines lines' : List ℕ) (x : Step) (r : Report) (text : List ℕ) : Type 0 where
  pub report : x.report ≡ r
  pub line : Put lines 0 text x.used lines'
  pub short : x.used ≤ 128

-- and the session in memory
pub record Moved (before after lines lines' : List ℕ) (x : Step) (d : Did) : Type 0 where
  pub told : Told lines lines' x d.report d.text
  pub session : Wrote before after d.session

-- The run of a sheet that lies in a memory: the tally is raised by its counts, which are in its line.
pub record Ran (room : List ℕ) (sheet : Turned) (t : Tally) (before after lines lines' : List ℕ) (x : Shown) : Type 0 where
  pub tally : x.tally ≡ raise t (counts_of (sheet_of room sheet))
  pub line : Put lines 0 (entry_line sheet.learner sheet.turn (counts_of (sheet_of room sheet))) x.used lines'
  pub short : x.used ≤ 128
  pub session : Wrote before after (print_sheet (sheet_of room sheet) fresh_session).session

-- A step, of the bytes that were handed, in the memories.
pub record Took (r : Report) (room : List ℕ) (at : ℕ) (bytes before after lines lines' : List ℕ) (x : Step) : Type 0 where
  pub moved : Moved before after lines lines' x (does room at bytes r (read before))
  pub keeps : Holds (kept (read after))

-- what was told of a step is told of one that is equal
pub moved_as : {before after lines lines' : List ℕ} {x : Step} {d e : Did} → d ≡ e → Moved before after lines lines' x e
    → Moved before after lines lines' x d
moved_as p m = rw p m

-- a step that leaves the session as it is, and one that prints nothing either
pub moved_told : (memory : List ℕ) {lines lines' : List ℕ} {x : Step} {r : Report} {text : List ℕ} → Told lines lines' x r text
    → Moved memory memory lines lines' x (did r text (read memory))
moved_told memory t = record { told = t; session = wrote_none memory }

pub moved_still : (memory lines : List ℕ) (x : Step) (r : Report) → x.report ≡ r → x.used ≡ 0
    → Moved memory memory lines lines x (did r [] (read memory))
moved_still memory lines x r e z = moved_told memory (record { report = e; line = rw z (put_none lines 0); short = omega arith })

-- a step that runs a sheet
pub moved_ran : (room : List ℕ) (sheet : Turned) (next : Tally → Report)
    (t : Tally) {before after lines lines' : List ℕ} {x : Step} {shown : Shown}
    → Ran room sheet t before after lines lines' shown → x.report ≡ next shown.tally → x.used ≡ shown.used
    → Moved before after lines lines' x (ran room sheet next t)
moved_ran room sheet next t s e u = record {
  told = record { report = e ∙ ap next s.tally; line = rw u s.line; short = rw u s.short };
  session = s.session;
}

-- The session that a step leaves is kept.
sheet_kept : (room : List ℕ) (p : Turned) → Holds (kept (print_sheet (sheet_of room p) fresh_session).session)
sheet_kept room p = sheet_keeps (sheet_of room p) fresh_session fresh_kept

module _ (room : List ℕ) (at : ℕ) (bytes : List ℕ) (r : Report) (s : Session) (k : Holds (kept s)) where
  Keeps : Did → Type 0
  Keeps d = Holds (kept d.session)

  closed_keeps : (p : Option Turned) → Keeps (closed room r s p)
  unfolding Keeps closed
  closed_keeps None = k
  closed_keeps (Some p) = sheet_kept room p

  taken_keeps : (p : Option Turned) → Keeps (taken room r s at p)
  unfolding Keeps taken after
  taken_keeps None = k
  taken_keeps (Some p) =
      choose_case Keeps _ _ _ (λ _. choose_case Keeps _ _ _ (λ _. k) (λ _. sheet_kept room p)) (λ _. k)

  step_keeps : (stage : Stage) → Keeps (does_at room at bytes r s stage)
  unfolding Keeps does_at sheet_taken
  step_keeps Head = k
  step_keeps Count = k
  step_keeps Learner = k
  step_keeps Turn = k
  step_keeps Length = k
  step_keeps Sheet = choose_case Keeps _ _ _ (λ _. taken_keeps r.pending) (λ _. k)
  step_keeps Line = closed_keeps r.pending
  step_keeps Last = k
  step_keeps Nothing = k

-- a step at a stage is the step
module _ (r : Report) (room : List ℕ) (at : ℕ) (bytes before after lines lines' : List ℕ) (x : Step) (stage : Stage)
    (e : r.stage ≡ stage) (k : Holds (kept (read before))) where
  pub took_at : Moved before after lines lines' x (does_at room at bytes r (read before) stage)
      → Took r room at bytes before after lines lines' x
  unfolding Keeps
  took_at m = record {
    moved = subst (λ (st : Stage). Moved before after lines lines' x (does_at room at bytes r (read before) st)) (sym e) m;
    keeps = rw m.session.reading (step_keeps room at bytes r (read before) k stage);
  }

-- The stages in which a byte of a number is asked for and taken, and those in which nothing is asked for.
abbrev pub InNumber : Stage → Type 0
InNumber stage = (stage ≡ Count) ⊎ ((stage ≡ Learner) ⊎ ((stage ≡ Turn) ⊎ (stage ≡ Length)))

abbrev pub InLine : Stage → Type 0
InLine stage = (stage ≡ Head) ⊎ ((stage ≡ Line) ⊎ ((stage ≡ Last) ⊎ (stage ≡ Nothing)))

pub asks_byte : (r : Report) (stage : Stage) → InNumber stage → 1 ≡ asks_at r stage
unfolding asks_at
asks_byte r stage (inl e) = ap (asks_at r) (sym e)
asks_byte r stage (inr (inl e)) = ap (asks_at r) (sym e)
asks_byte r stage (inr (inr (inl e))) = ap (asks_at r) (sym e)
asks_byte r stage (inr (inr (inr e))) = ap (asks_at r) (sym e)

pub asks_nothing : (r : Report) (stage : Stage) → InLine stage → 0 ≡ asks_at r stage
unfolding asks_at
asks_nothing r stage (inl e) = ap (asks_at r) (sym e)
asks_nothing r stage (inr (inl e)) = ap (asks_at r) (sym e)
asks_nothing r stage (inr (inr (inl e))) = ap (asks_at r) (sym e)
asks_nothing r stage (inr (inr (inr e))) = ap (asks_at r) (sym e)

-- in another stage than these no number is read
pub valued_same : (r : Report) (stage : Stage) (v : ℕ) → (stage ≡ Count → ⊥) → (stage ≡ Learner → ⊥) → (stage ≡ Turn → ⊥)
    → (stage ≡ Length → ⊥) → r ≡ valued r stage v
unfolding valued
valued_same r Head v a b c d = refl
valued_same r Count v a b c d = absurd (a refl)
valued_same r Learner v a b c d = absurd (b refl)
valued_same r Turn v a b c d = absurd (c refl)
valued_same r Length v a b c d = absurd (d refl)
valued_same r Sheet v a b c d = refl
valued_same r Line v a b c d = refl
valued_same r Last v a b c d = refl
valued_same r Nothing v a b c d = refl

does_byte : (room : List ℕ) (at : ℕ) (bytes : List ℕ) (r : Report) (s : Session) (stage : Stage) → InNumber stage
    → does_at room at bytes r s stage ≡ did (byte r stage bytes) [] s
unfolding does_at
does_byte room at bytes r s stage (inl e) = rw e refl
does_byte room at bytes r s stage (inr (inl e)) = rw e refl
does_byte room at bytes r s stage (inr (inr (inl e))) = rw e refl
does_byte room at bytes r s stage (inr (inr (inr e))) = rw e refl

-- a step that takes a byte
module _ (r : Report) (room : List ℕ) (at : ℕ) (bytes memory lines : List ℕ) (x : Step) (stage : Stage) (e : r.stage ≡ stage)
    (k : Holds (kept (read memory))) where
  pub took_byte : does_at room at bytes r (read memory) stage ≡ did (byte r stage bytes) [] (read memory)
      → x.report ≡ byte r r.stage bytes → x.used ≡ 0
      → Took r room at bytes memory memory lines lines x
  took_byte is told none =
      took_at r room at bytes memory memory lines lines x stage e k
      (moved_as is (moved_still memory lines x (byte r stage bytes) (told ∙ ap (λ (st : Stage). byte r st bytes) e) none))

-- a step that takes a byte of a number
module _ (r : Report) (room : List ℕ) (at : ℕ) (bytes memory lines : List ℕ) (x : Step) (n : InNumber r.stage)
    (k : Holds (kept (read memory))) where
  pub took_number : x.report ≡ byte r r.stage bytes → x.used ≡ 0 → Took r room at bytes memory memory lines lines x
  took_number told none =
      took_at r room at bytes memory memory lines lines x r.stage refl k
      (moved_as (does_byte room at bytes r (read memory) r.stage n) (moved_still memory lines x (byte r r.stage bytes) told none))

-- Bytes put into the first of a memory are put into the memory.
put_first : (lines line' : List ℕ) (n : ℕ) (text : List ℕ) (used : ℕ) → n ≤ length lines → used ≤ n
    → Put (take n lines) 0 text used line' → Put lines 0 text used (line' ++ drop n lines)
unfolding splice
put_first lines line' n text used h k p =
    let few : length text ≤ length (take n lines) = omega (arith, p.place, length-take-le n lines h) in
    record {
      place = p.place;
      written =
          ap (λ (l : List ℕ). l ++ drop n lines) p.written
          ∙ append_assoc text (drop (0 + length text) (take n lines)) (drop n lines)
          ∙ ap (λ (l : List ℕ). text ++ l)
          (sym (drop-append-le (0 + length text) (take n lines) (drop n lines) (omega arith))
          ∙ ap (drop (0 + length text)) (take-append-drop n lines));
    }

-- A step on the first words and bytes of the memories is one on them.
module _ (r : Report) (room : List ℕ) (at : ℕ) (bytes before after lines line' : List ℕ) (x : Step) where
  pub took_first : words ≤ length before → 128 ≤ length lines → Took r room at bytes (take words before) after (take 128 lines) line' x
      → Took r room at bytes before (after ++ drop words before) lines (line' ++ drop 128 lines) x
  took_first h k t =
      let m : Moved (take words before) after (take 128 lines) line' x (does room at bytes r (read before)) =
      rw (read_first before) at t.moved in
      let long : length after ≡ words = m.session.same_length ∙ length-take-le words before h in
      record {
        moved = record {
          told = record { report = m.told.report; line = put_first lines line' 128 _ _ k m.told.short m.told.line; short = m.told.short };
          session = wrote_first before after _ h m.session;
        };
        keeps = rw (read_front after (drop words before) long) t.keeps;
      }

-- a number's stage without a byte, and with one
module _ (r : Report) (stage : Stage) where
  pub byte_none : (bytes : List ℕ) → length bytes ≡ 0 → stopping r 3 ≡ byte r stage bytes
  unfolding byte
  byte_none [] h = refl
  byte_none (b ∷ more) h = absurd (omega arith)

  pub byte_some : (bytes : List ℕ) (f : Fed) → 0 < length bytes → f ≡ fed limit32 r.number (get_or bytes 0 0)
      → numbered r stage f ≡ byte r stage bytes
  unfolding byte
  byte_some [] f h e = absurd (omega arith)
  byte_some (b ∷ more) f h e = rw e refl
