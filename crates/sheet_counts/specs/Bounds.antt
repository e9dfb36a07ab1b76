-- How large a sheet's counts may be.
use Rattle.std.specs.Prelude.{ℕ, zero, suc, ◌+◌, ◌≤◌, List, ◌≡◌, length}
use Rattle.std.proofs.Common.{arith, add-one}
use Rattle.session.specs.Table.{Session}
use Rattle.session.specs.Fresh.{fresh_session}
use Rattle.session.specs.declared.Field.TheVariants.{Links, LinkState}
use Rattle.session.specs.Names.{delivered, most_links}
use Rattle.rules.specs.Formula.{Formula, Holds, count, not, Formula.◌≐◌, Formula.◌≼◌}
use Rattle.rules.specs.FormulaLaws.{Case, decide, choose_case, Case.it_does, Case.it_does_not}
use Rattle.rules.specs.Sound.{sound, kept}
use Rattle.rules.specs.Step.{step}
use Rattle.rules.specs.LastLine.{dropped_count}
use Rattle.record.specs.RecordReading.{record_at}
use Rattle.record.specs.Sheet.{head_refusal, first_record}
use Rattle.laws.specs.Counting.{count_yes, count_no}
use Rattle.laws.specs.FreshKept.{fresh_kept}
use Rattle.laws.specs.Rows.Name.{counts, dropped, free_links}
use Rattle.laws.specs.Conjuncts.{no_link_lem}
use Rattle.laws.specs.ByName.{kept-sound, sound_by_name}
use Rattle.laws.specs.StepKeeps.{step_keeps}
use Rattle.sheet.specs.SheetPrinted.{Printed, print_from, print_sheet}
use Rattle.sheet_counts.specs.Answers.{Answered, answers_from, answers_on, answers, is_refused, is_start, counts_in, counts_of}
use Rattle.sheet_counts.specs.HowMany.{how_many-most}

-- at most one answer a step
from-most : (sheet : List ℕ) (n at k : ℕ) (s : Session) → length (answers_from sheet n at k s) ≤ n
unfolding answers_from
from-most sheet zero at k s = omega arith
from-most sheet (suc n) at k s =
    let P : List Answered → Type 0 = λ l. length l ≤ suc n in
    choose_case P (length sheet ≼ at) _ _ (λ _. omega arith) (λ _.
    choose_case P (not (sound s)) _ _ (λ _. omega arith) (λ _.
    choose_case P (not ((record_at sheet at).refused ≐ 0)) _ _ (λ _. omega arith) (λ _.
    let r = record_at sheet at in
    omega (arith, from-most sheet n r.next (k + 1) (step s r.operation).leaves))))

on_most : (sheet : List ℕ) (s : Session) → length (answers_on sheet s) ≤ length sheet + 1
unfolding answers_on
on_most sheet s =
    let P : List Answered → Type 0 = λ l. length l ≤ length sheet + 1 in
    choose_case P (not (sound s)) _ _ (λ _. omega arith) (λ _.
    choose_case P (not (head_refusal sheet ≐ 0)) _ _ (λ _. omega arith) (λ _.
    let m = from-most sheet (length sheet) (first_record sheet) 0 s in omega arith))

-- A sheet leaves a kept session kept.
abbrev Keeps : Printed → Type 0
Keeps p = Holds (kept p.session)

from_keeps : (sheet : List ℕ) (n at k : ℕ) (s : Session) → Holds (kept s) → Keeps (print_from sheet n at k s)
unfolding print_from
from_keeps sheet zero at k s h = h
from_keeps sheet (suc n) at k s h =
    choose_case Keeps (length sheet ≼ at) _ _ (λ _. h) (λ _.
    choose_case Keeps (not (sound s)) _ _ (λ _. h) (λ _.
    choose_case Keeps (not ((record_at sheet at).refused ≐ 0)) _ _ (λ _. h) (λ _.
    from_keeps sheet n (record_at sheet at).next (k + 1) _ (step_keeps s (record_at sheet at).operation h))))

pub sheet_keeps : (sheet : List ℕ) (s : Session) → Holds (kept s) → Holds (kept (print_sheet sheet s).session)
unfolding print_sheet
sheet_keeps sheet s h =
    choose_case Keeps (not (sound s)) _ _ (λ _. h) (λ _.
    choose_case Keeps (not (head_refusal sheet ≐ 0)) _ _ (λ _. h) (λ _. from_keeps sheet (length sheet) (first_record sheet) 0 s h))

-- places below n + 1 without the first
pub count-behind : (n : ℕ) (f : ℕ → Formula) → (Holds (f 0) → ⊥) → count (suc n) f ≤ n
unfolding count
count-behind zero f h = rw (count_no 0 f h) (omega arith)
count-behind (suc n) f h = go (decide (f (suc n))) (count-behind n f h)
  where
    go : Case (f (suc n)) → count (suc n) f ≤ n → count (suc (suc n)) f ≤ suc n
    go (it_does x) l = rw (count_yes (suc n) f x) (omega arith)
    go (it_does_not x) l = rw (count_no (suc n) f x) (omega arith)

-- "dropped is at most the delivered links", of which there are at most 2,048
pub dropped-most : (s : Session) → Holds (sound s) → dropped_count s ≤ most_links
dropped-most s h =
    let r = sound_by_name s h in
    let none : s LinkState 0 ≡ 0 = (no_link_lem s 0 (r free_links).0).no_state in
    let c = count-behind (s Links 0) (λ l. s LinkState l ≐ delivered) (λ e. omega arith) in
    omega (arith, (r counts).1.1, rw add-one at (r dropped), c)

-- What a class may lean on.
pub record Bounds (sheet : List ℕ) : Type 0 where
  pub records : (counts_of sheet).records ≤ length sheet + 1
  pub refused : (counts_of sheet).refused ≤ (counts_of sheet).records
  pub starts : (counts_of sheet).starts ≤ (counts_of sheet).records
  pub dropped : (counts_of sheet).dropped ≤ most_links

pub bounds : (sheet : List ℕ) → Bounds sheet
unfolding counts_of counts_in
bounds sheet =
    record {
      records = on_most sheet fresh_session;
      refused = how_many-most is_refused (answers sheet);
      starts = how_many-most is_start (answers sheet);
      dropped = dropped-most _ (kept-sound _ (sheet_keeps sheet fresh_session fresh_kept));
    }
