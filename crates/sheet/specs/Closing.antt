-- The last line, and its counts.
use Rattle.std.specs.Prelude.{ℕ, zero, suc, ◌+◌, ◌-◌, ◌≤◌, ◌<◌, ◌^◌, List, ◌≡◌, refl, length, min, Bool, true, false}
use Rattle.std.specs.Int.{from_bool}
use Rattle.session.specs.Table.{pick}
use Rattle.std.proofs.Math.Nat.{min-eq_left, min-eq_right}
use Rattle.std.proofs.Common.{ap, ◌∙◌, ⊎_elim, arith}
use Rattle.std.proofs.Math.Path.{sym}
use Rattle.number.specs.Number.{splice}
use Rattle.lines.specs.Line.{line}
use Rattle.lines.specs.LineLaws.{digits_bound, line-length}
use Rattle.session.specs.Names.{most_objects, most_links, object_places, link_places}
use Rattle.session.specs.Table.{Session, read}
use Rattle.session.specs.declared.Field.TheVariants.{Objects, Links, Kind, LinkState}
use Rattle.session.specs.TableLaws.{read_past}
use Rattle.rules.specs.Formula.{Formula, Holds, choose, count, Formula.◌≼◌}
use Rattle.rules.specs.FormulaLaws.{choose_yes, choose_no, choose_case}
use Rattle.rules.specs.Reading.{is_live, is_undelivered}
use Rattle.rules.specs.LastLine.{live_tasks, undelivered_links, dropped_count}
use Rattle.laws.specs.Counting.{count_no}
use Rattle.sheet.specs.Told.{Closed}
use Rattle.sheet.specs.Run.{Lines, line_room, last_line}
use Rattle.sheet.specs.Going.{lines_of, lent}

-- The lines with the last one behind them.
abbrev pub with_last : Session → Lines → Lines
with_last s l = record { bytes = splice l.bytes l.used (last_line s); used = l.used + length (last_line s) }

-- So they are left, unless check 1 fails; then they stay.
unfoldable pub closed : List ℕ → Lines → Lines
closed memory l = choose (lent memory l) (with_last (read memory) l) l

-- Writing the last line: the refusal, every byte of the lines and their length; and the line fits into the room for one.
pub record Closes (memory lines lines' : List ℕ) (used : ℕ) (c : Closed) : Type 0 where
  pub refused : c.refused ≡ choose (lent memory (lines_of lines used)) 0 1
  pub written : lines_of lines' c.used ≡ closed memory (lines_of lines used)
  pub short : c.refused ≡ 0 → length (last_line (read memory)) ≤ line_room

pub closed-room : (memory : List ℕ) (l : Lines) → Holds (lent memory l) → closed memory l ≡ with_last (read memory) l
unfolding closed
closed-room memory l h = choose_yes (lent memory l) _ l h

pub closed-not : (memory : List ℕ) (l : Lines) → (Holds (lent memory l) → ⊥) → closed memory l ≡ l
unfolding closed
closed-not memory l f = choose_no (lent memory l) _ l f

module _ (memory lines : List ℕ) (used : ℕ) where
  pub closes_not : (Holds (lent memory (lines_of lines used)) → ⊥)
      → Closes memory lines lines used (record { refused = 1; used = used })
  closes_not f =
      record {
        refused = sym (choose_no (lent memory (lines_of lines used)) 0 1 f);
        written = sym (closed-not memory (lines_of lines used) f);
        short = λ e. absurd (omega arith);
      }

  pub closes_by : Holds (lent memory (lines_of lines used)) → (a b c : ℕ) (lines' : List ℕ) (used' : ℕ)
      → a ≡ live_tasks (read memory) → b ≡ undelivered_links (read memory) → c ≡ dropped_count (read memory)
      → length (line a b c) ≤ line_room
      → lines' ≡ splice lines used (line a b c) → used' ≡ used + length (line a b c)
      → Closes memory lines lines' used (record { refused = 0; used = used' })
  unfolding last_line
  closes_by h a b c lines' used' p q r short e f =
      record {
        refused = sym (choose_yes (lent memory (lines_of lines used)) 0 1 h);
        written = cc (p, q, r, e, f) ∙ sym (closed-room memory (lines_of lines used) h);
        short = λ _. rw (← p, ← q, ← r) short;
      }

pub line-closing : (a b c : ℕ) → a ≤ link_places → b ≤ link_places → c < 2 ^ 64 → length (line a b c) ≤ 32
line-closing a b c ha hb hc =
    let x = digits_bound 3 a (omega arith) in
    let y = digits_bound 3 b (omega arith) in
    let z = digits_bound 19 c (omega arith) in
    let n = line-length a b c in
    omega arith

-- places where the formula fails are not counted
pub count_past : (d m : ℕ) (f : ℕ → Formula) → ((i : ℕ) → m ≤ i → Holds (f i) → ⊥) → count (d + m) f ≡ count m f
count_past zero m f h = let e : 0 + m ≡ m = omega arith in ap (λ (n : ℕ). count n f) e
count_past (suc d) m f h =
    let e : suc d + m ≡ suc (d + m) = omega arith in
    ap (λ (n : ℕ). count n f) e ∙ count_no (d + m) f (h (d + m) (omega arith)) ∙ count_past d m f h

-- a truth value as a number
pub byte_picked : (b : Bool) → from_bool b ≡ pick {A = ℕ} b 1 0
byte_picked true = refl
byte_picked false = refl

pub byte_few : (b : Bool) → from_bool b ≤ 1
byte_few true = omega arith
byte_few false = omega arith

-- the least of two numbers is the first where it is no more than the second
pub least : (a b : ℕ) → min a b ≡ choose (a ≼ b) a b
least a b = choose_case (λ n. min a b ≡ n) (a ≼ b) a b (λ h. min-eq_left h) (λ f. min-eq_right (omega arith))

pub live_past : (ws : List ℕ) → most_objects < read ws Objects 0 → count (most_objects + 1) (is_live (read ws)) ≡ live_tasks (read ws)
unfolding live_tasks
live_past ws h =
    let s = read ws in
    let sum : s Objects 0 + 1 ≡ (s Objects 0 - most_objects) + object_places = omega arith in
    sym (rw sum (count_past (s Objects 0 - most_objects) object_places (is_live s) (λ i l w. none i w.0 l)))
  where
    none : (i : ℕ) → read ws Kind i ≡ 2 → object_places ≤ i → ⊥
    none i e l = omega (arith, e, read_past ws Kind i l)

pub undelivered_past : (ws : List ℕ) → most_links < read ws Links 0
    → count (most_links + 1) (is_undelivered (read ws)) ≡ undelivered_links (read ws)
unfolding undelivered_links
undelivered_past ws h =
    let s = read ws in
    let sum : s Links 0 + 1 ≡ (s Links 0 - most_links) + link_places = omega arith in
    sym
    (rw sum
    (count_past (s Links 0 - most_links) link_places (is_undelivered s) (λ i l w. ⊎_elim (λ e. none i e l) (λ e. some i e l) w)))
  where
    none : (i : ℕ) → read ws LinkState i ≡ 1 → link_places ≤ i → ⊥
    none i e l = omega (arith, e, read_past ws LinkState i l)

    some : (i : ℕ) → read ws LinkState i ≡ 2 → link_places ≤ i → ⊥
    some i e l = omega (arith, e, read_past ws LinkState i l)

pub live_here : (ws : List ℕ) (n : ℕ) → n ≡ read ws Objects 0 → count (n + 1) (is_live (read ws)) ≡ live_tasks (read ws)
unfolding live_tasks
live_here ws n e = rw e

pub undelivered-here : (ws : List ℕ) (n : ℕ) → n ≡ read ws Links 0
    → count (n + 1) (is_undelivered (read ws)) ≡ undelivered_links (read ws)
unfolding undelivered_links
undelivered-here ws n e = rw e

-- A count in memory past the most is read as the most.
pub live_within : (ws : List ℕ) → count (min (read ws Objects 0) most_objects + 1) (is_live (read ws)) ≡ live_tasks (read ws)
live_within ws =
    rw (least (read ws Objects 0) most_objects)
    (choose_case (λ n. count (n + 1) (is_live (read ws)) ≡ live_tasks (read ws)) (read ws Objects 0 ≼ most_objects) _ _
    (λ _. live_here ws _ refl) (λ f. live_past ws (omega arith)))

pub undelivered_within : (ws : List ℕ)
    → count (min (read ws Links 0) most_links + 1) (is_undelivered (read ws)) ≡ undelivered_links (read ws)
undelivered_within ws =
    rw (least (read ws Links 0) most_links)
    (choose_case (λ n. count (n + 1) (is_undelivered (read ws)) ≡ undelivered_links (read ws)) (read ws Links 0 ≼ most_links) _ _
    (λ _. undelivered-here ws _ refl) (λ f. undelivered_past ws (omega arith)))
