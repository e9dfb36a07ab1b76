-- A run in parts: where a run meets 1, its lines are printed and the next part begins with the record that was not run. What is
-- printed so is what is printed with no line memory spoken of.
use Rattle.std.specs.Prelude.{ℕ, zero, suc, ◌+◌, ◌-◌, ◌≤◌, ◌<◌, ◌^◌, ◌≡◌, refl, length, take}
use mathlib.Core.List.{List, ◌++◌, append_assoc, append-nil}
use Rattle.std.proofs.Math.Path.{ap, sym}
use Rattle.std.proofs.Common.{◌∙◌, arith, lit<}
use Rattle.number.specs.Splice.{splice_to, splice-length}
use Rattle.lines.specs.Line.{line}
use Rattle.lines.specs.LineLaws.{digits_bound, line-length}
use Rattle.session.specs.Table.{Session}
use Rattle.rules.specs.Formula.{Holds, choose, Formula.◌≐◌, Formula.◌≼◌}
use Rattle.rules.specs.FormulaLaws.{Case, decide, choose_yes, choose_no, Case.it_does, Case.it_does_not}
use Rattle.rules.specs.Sound.{sound, kept}
use Rattle.rules.specs.Step.{step}
use Rattle.record.specs.RecordReading.{edition_of, record_at}
use Rattle.record.specs.RecordRoundTrip.{record_forward, record_refusals}
use Rattle.record.specs.Sheet.{head_refusal, first_record}
use Rattle.laws.specs.StepKeeps.{step_keeps}
use Rattle.sheet.specs.Run.{Lines, has_room, with_line, Run, ended, ended_by, run_from, run_sheet, run_at}
use Rattle.sheet.specs.RunLaws.{run_end, run-full, run-unsound, run-refused, run_on, sheet_unsound, sheet_refused}
use Rattle.sheet.specs.RunLaws.{sheet_runs, run-start, run-behind, below}
use Rattle.sheet.specs.WholeSheet.{head_small}
use Rattle.sheet.specs.Replies.{reply_small}
use Rattle.sheet.specs.NeverFull.{record_not_full, head_not_full}
use Rattle.sheet.specs.SheetPrinted.{Printed, prints, after, print_from, print_sheet, print_at}
use Rattle.sheet.specs.PrintLaws.{print_end, print_unsound, print_refused, print_on, print_none, print_head, print_records}
use Rattle.sheet.specs.PrintLaws.{print_start, print_behind, prints_enough}

-- The lines that are there.
abbrev pub text : Lines → List ℕ
text l = take l.used l.bytes

-- What is printed from where a run stands: its lines and, if it met 1, those from the record on that was not run.
unfoldable pub rest : List ℕ → Run → Printed
rest sheet r =
    choose (r.ending ≐ 1)
    (after (text r.lines) (print_from sheet (length sheet) r.place (r.number - 1) r.session))
    (prints (text r.lines) r.session)

pub rest-full : (sheet : List ℕ) (r : Run) → r.ending ≡ 1
    → rest sheet r ≡ after (text r.lines) (print_from sheet (length sheet) r.place (r.number - 1) r.session)
unfolding rest
rest-full sheet r e = choose_yes (r.ending ≐ 1) _ _ e

pub rest_none : (sheet : List ℕ) (r : Run) → (r.ending ≡ 1 → ⊥) → rest sheet r ≡ prints (text r.lines) r.session
unfolding rest
rest_none sheet r f = choose_no (r.ending ≐ 1) _ _ f

-- Where a run from a place stands that met 1: at a record behind that place, if there was room for a line.
pub record Halted (sheet : List ℕ) (at : ℕ) (l : Lines) (r : Run) : Type 0 where
  pub begun : 1 ≤ r.number
  pub count : r.number - 1 ≤ r.place
  pub inside : r.place < length sheet
  pub onward : at ≤ r.place
  pub further : Holds (has_room l) → at < r.place

-- A run from a place, as the first part of what is printed from there: its lines lie within their memory.
pub record FirstPart (sheet : List ℕ) (at : ℕ) (p : Printed) (s : Session) (l : Lines) (r : Run) : Type 0 where
  pub keeps : Holds (kept s) → Holds (kept r.session)
  pub same : rest sheet r ≡ after (text l) p
  pub fits : l.used ≤ length l.bytes → r.lines.used ≤ length r.lines.bytes
  pub halted : r.ending ≡ 1 → Halted sheet at l r

abbrev Records : List ℕ → ℕ → ℕ → Session → Lines → Run → Type 0
Records sheet at k s l r = FirstPart sheet at (print_from sheet (length sheet) at k s) s l r

-- two texts, one behind the other
after_both : (x y z : List ℕ) (p q : Printed) → x ≡ y ++ z → p ≡ q → after x p ≡ after y (after z q)
after_both x y z p q e f = rw (e, f) (ap (λ (t : List ℕ). prints t q.session) (append_assoc y z q.text))

-- a line behind the lines
module _ (l : Lines) (a b c : ℕ) (room : Holds (has_room l)) (ha : a < 2 ^ 64) (hb : b < 100) (hc : c < 10000) where
  within : l.used + length (line a b c) ≤ length l.bytes
  within = omega (arith, line-length a b c, digits_bound 19 a (omega arith), digits_bound 1 b hb, digits_bound 3 c hc)

  text-line : text (with_line l a b c) ≡ text l ++ line a b c
  unfolding with_line
  text-line = splice_to l.bytes l.used (line a b c) within

  line-fits : (with_line l a b c).used ≤ length (with_line l a b c).bytes
  unfolding with_line
  line-fits = omega (arith, within, splice-length l.bytes l.used (line a b c) within)

module _ (sheet : List ℕ) (at k : ℕ) (s : Session) (l : Lines) where
  -- at the sheet's end
  part_end : length sheet ≤ at → Records sheet at k s l (ended s l at k 0)
  part_end h =
      record {
        keeps = λ x. x;
        same = rest_none sheet (ended s l at k 0) (λ e. omega arith)
            ∙ rw (print_end sheet at k s (length sheet) h, append-nil);
        fits = λ f. f;
        halted = λ e. absurd (omega arith);
      }

  module _ (before : at < length sheet) (count : k ≤ at) (small : length sheet < 2 ^ 64) where
    steps : print_from sheet (length sheet) at k s ≡ print_from sheet (suc (length sheet - 1)) at k s
    steps = prints_enough sheet (length sheet) (suc (length sheet - 1)) at k s (omega arith) (omega arith)

    -- no room for a line
    part-full : (Holds (has_room l) → ⊥) → Records sheet at k s l (ended s l at (k + 1) 1)
    part-full unmet =
        let e : k + 1 - 1 ≡ k = omega arith in
        record {
          keeps = λ x. x;
          same = rest-full sheet (ended s l at (k + 1) 1) refl
              ∙ ap (λ (n : ℕ). after (text l) (print_from sheet (length sheet) at n s)) e;
          fits = λ f. f;
          halted =
              λ _. record {
                begun = omega arith;
                count = omega arith;
                inside = before;
                onward = omega arith;
                further = λ o. absurd (unmet o);
              };
        }

    module _ (room : Holds (has_room l)) where
      -- the sheet is ended by this line
      part-stopped : (n : ℕ) → n < 100 → (n ≡ 1 → ⊥)
          → print_from sheet (suc (length sheet - 1)) at k s ≡ prints (line (k + 1) n 0) s
          → Records sheet at k s l (ended_by s l at (k + 1) n)
      unfolding ended_by
      part-stopped n h f e =
          record {
            keeps = λ x. x;
            same = rest_none sheet (ended s (with_line l (k + 1) n 0) at (k + 1) n) f
                ∙ ap (λ (x : List ℕ). prints x s) (text-line l (k + 1) n 0 room (omega arith) h (lit< tt))
                ∙ sym (ap (after (text l)) (steps ∙ e));
            fits = λ _. line-fits l (k + 1) n 0 room (omega arith) h (lit< tt);
            halted = λ q. absurd (f q);
          }

      -- one more record
      part_on : (r : Run) → Holds (sound s) → (record_at sheet at).refused ≡ 0
          → Records sheet (record_at sheet at).next (k + 1) (step s (record_at sheet at).operation).leaves
          (with_line l (k + 1) (step s (record_at sheet at).operation).refused (step s (record_at sheet at).operation).made) r
          → Records sheet at k s l r
      part_on r is z p =
          let f = (record_forward sheet at z).onward in
          let b = reply_small s (record_at sheet at).operation is in
          let t = text-line l (k + 1) (step s (record_at sheet at).operation).refused
          (step s (record_at sheet at).operation).made room (omega arith) b.0 b.1 in
          let m = prints_enough sheet (length sheet) (length sheet - 1) (record_at sheet at).next (k + 1)
          (step s (record_at sheet at).operation).leaves (omega arith) (omega arith) in
          record {
            keeps = λ x. p.keeps (step_keeps s (record_at sheet at).operation x);
            same = p.same
                ∙ after_both _ (text l)
                (line (k + 1) (step s (record_at sheet at).operation).refused (step s (record_at sheet at).operation).made) _ _
                t m ∙ sym (ap (after (text l)) (steps ∙ print_on sheet at k s (length sheet - 1) before is z));
            fits = λ _. p.fits
                (line-fits l (k + 1) (step s (record_at sheet at).operation).refused
                (step s (record_at sheet at).operation).made room (omega arith) b.0 b.1);
            halted = λ e. further f (p.halted e);
          }
        where
          further : at < (record_at sheet at).next
              → Halted sheet (record_at sheet at).next
              (with_line l (k + 1) (step s (record_at sheet at).operation).refused (step s (record_at sheet at).operation).made)
              r → Halted sheet at l r
          further f h =
              let o = h.onward in
              record { begun = h.begun; count = h.count; inside = h.inside; onward = omega arith; further = λ _. omega arith }

-- what holds of every run in fewer steps
abbrev Again : List ℕ → ℕ → Type 0
Again sheet n =
    (at k : ℕ) (s : Session) (l : Lines) → length sheet ≤ n + at → k ≤ at → length sheet < 2 ^ 64
    → Records sheet at k s l (run_from sheet n at k s l)

-- A run's lines, and what is printed from where it met 1, are what is printed from its first record on.
part : (sheet : List ℕ) (n : ℕ) → Again sheet n
part sheet zero at k s l enough count small =
    rw (run_end sheet at k s l zero (omega arith)) (part_end sheet at k s l (omega arith))
part sheet (suc n) at k s l enough count small = ends (decide (length sheet ≼ at)) (part sheet n)
  where
    reads : at < length sheet → Holds (has_room l) → Holds (sound s) → Case ((record_at sheet at).refused ≐ 0) → Again sheet n
        → Records sheet at k s l (run_from sheet (suc n) at k s l)
    reads b o i (it_does_not f) again =
        let m = record_refusals (edition_of sheet) sheet at in
        rw (run-refused sheet at k s l n b o i f)
        (part-stopped sheet at k s l b count small o (record_at sheet at).refused (omega arith) (record_not_full sheet at)
        (print_refused sheet at k s (length sheet - 1) b i f))
    reads b o i (it_does z) again =
        let f = (record_forward sheet at z).onward in
        rw (run_on sheet at k s l n b o i z)
        (part_on sheet at k s l b count small o _ i z (again _ _ _ _ (omega arith) (omega arith) small))

    sounds : at < length sheet → Holds (has_room l) → Case (sound s) → Again sheet n
        → Records sheet at k s l (run_from sheet (suc n) at k s l)
    sounds b o (it_does_not f) again =
        rw (run-unsound sheet at k s l n b o f)
        (part-stopped sheet at k s l b count small o 2 (lit< tt) (λ e. omega arith)
        (print_unsound sheet at k s (length sheet - 1) b f))
    sounds b o (it_does i) again = reads b o i (decide ((record_at sheet at).refused ≐ 0)) again

    rooms : at < length sheet → Case (has_room l) → Again sheet n → Records sheet at k s l (run_from sheet (suc n) at k s l)
    rooms b (it_does_not f) again = rw (run-full sheet at k s l n b f) (part-full sheet at k s l b count small f)
    rooms b (it_does o) again = sounds b o (decide (sound s)) again

    ends : Case (length sheet ≼ at) → Again sheet n → Records sheet at k s l (run_from sheet (suc n) at k s l)
    ends (it_does h) again = rw (run_end sheet at k s l (suc n) h) (part_end sheet at k s l h)
    ends (it_does_not f) again = rooms (below sheet at f) (decide (has_room l)) again

-- The same of a whole sheet: of one that is ended by this line at its first number, and of its records.
module _ (sheet : List ℕ) (s : Session) (l : Lines) (room : Holds (has_room l)) (small : length sheet < 2 ^ 64) where
  abbrev Whole : Run → Type 0
  Whole r = FirstPart sheet 0 (print_sheet sheet s) s l r

  whole-stopped : (n : ℕ) → n < 100 → (n ≡ 1 → ⊥) → print_sheet sheet s ≡ prints (line 0 n 0) s → Whole (ended_by s l 0 0 n)
  unfolding ended_by
  whole-stopped n h f e =
      record {
        keeps = λ x. x;
        same = rest_none sheet (ended s (with_line l 0 n 0) 0 0 n) f
            ∙ ap (λ (x : List ℕ). prints x s) (text-line l 0 n 0 room (lit< tt) h (lit< tt))
            ∙ sym (ap (after (text l)) e);
        fits = λ _. line-fits l 0 n 0 room (lit< tt) h (lit< tt);
        halted = λ q. absurd (f q);
      }

  whole_records : (r : Run) → Records sheet (first_record sheet) 0 s l r
      → print_sheet sheet s ≡ print_from sheet (length sheet) (first_record sheet) 0 s → Whole r
  whole_records r p e =
      record {
        keeps = p.keeps;
        same = p.same ∙ sym (ap (after (text l)) e);
        fits = p.fits;
        halted = λ q. inside (p.halted q);
      }
    where
      inside : Halted sheet (first_record sheet) l r → Halted sheet 0 l r
      inside h =
          record {
            begun = h.begun;
            count = h.count;
            inside = h.inside;
            onward = omega arith;
            further = λ o. omega (arith, h.further o);
          }

  pub whole_part : Whole (run_sheet sheet s l)
  whole_part = sounds (decide (sound s))
    where
      heads : Holds (sound s) → Case (head_refusal sheet ≐ 0) → Whole (run_sheet sheet s l)
      heads i (it_does_not f) =
          let m = head_small sheet in
          rw (sheet_refused sheet s l room i f)
          (whole-stopped (head_refusal sheet) (omega arith) (head_not_full sheet) (print_head sheet s i f))
      heads i (it_does z) =
          rw (sheet_runs sheet s l room i z)
          (whole_records _ (part sheet (length sheet) (first_record sheet) 0 s l (omega arith) (omega arith) small)
          (print_records sheet s i z))

      sounds : Case (sound s) → Whole (run_sheet sheet s l)
      sounds (it_does_not f) =
          rw (sheet_unsound sheet s l room f) (whole-stopped 2 (lit< tt) (λ e. omega arith) (print_none sheet s f))
      sounds (it_does i) = heads i (decide (head_refusal sheet ≐ 0))

-- The theorem, from any place: a run's lines, and what is printed from where it met 1, are what is printed from there on.
pub place-part : (sheet : List ℕ) (at k : ℕ) (s : Session) (l : Lines) → Holds (has_room l) → length sheet < 2 ^ 64 → k ≤ at
    → FirstPart sheet at (print_at sheet at k s) s l (run_at sheet at k s l)
place-part sheet at k s l room small few = go (decide (at ≐ 0))
  where
    go : Case (at ≐ 0) → FirstPart sheet at (print_at sheet at k s) s l (run_at sheet at k s l)
    go (it_does z) = rw (z, run-start sheet k s l, print_start sheet k s) (whole_part sheet s l room small)
    go (it_does_not f) =
        rw (run-behind sheet k s l at f, print_behind sheet k s at f) (part sheet (length sheet) at k s l (omega arith) few small)
