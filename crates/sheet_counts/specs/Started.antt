-- The starts that a sheet's answers tell of are the tasks that run or have ended in the session that it leaves. Each step is
-- shown by the book of demand 3: a start adds one to its column of starts, and no other call touches that column.
use Prim.Native.Nat.{ℕ, zero, suc, ◌+◌, ◌-◌, ◌≤◌, ◌<◌}
use Rattle.std.specs.Prelude.{List, ◌≡◌, refl, length}
use Rattle.std.proofs.Common.{ap, sym, ◌∙◌, inl, inr, arith, add-one}
use Rattle.session.specs.Table.{Session, put}
use Rattle.session.specs.Fresh.{empty_session, first_objects, fresh_session}
use Rattle.session.specs.declared.Field.TheVariants.{Objects, Kind, TaskState}
use Rattle.session.specs.Names.{task, running, ended, most_objects}
use Rattle.rules.specs.declared.Operation.{Operation}
use Rattle.rules.specs.Formula.{Formula, Holds, test, choose, count, not, Formula.◌≐◌, Formula.◌≼◌, Formula.◌and◌}
use Rattle.rules.specs.FormulaLaws.{Case, decide, choose_yes, choose_no, Case.it_does, Case.it_does_not}
use Rattle.rules.specs.Reading.{is_kind}
use Rattle.rules.specs.Sound.{sound, kept, task_part}
use Rattle.rules.specs.Step.{arg, rules, Rule, step, entered}
use Rattle.rules.specs.Book.{Book, Column, enter, enter_start, opening}
use Rattle.rules.specs.Demand.{accepted, next, session_after, book_after}
use Rattle.record.specs.RecordReading.{record_at}
use Rattle.record.specs.Sheet.{head_refusal, first_record}
use Rattle.laws.specs.Rows.Name.{counts, kinds, task_parts}
use Rattle.laws.specs.ByName.{by_name}
use Rattle.laws.specs.Counting.{count_same, count-one}
use Rattle.laws.specs.Column.{set_here, set_there}
use Rattle.laws.specs.FreshKept.{fresh_kept}
use Rattle.laws.specs.Accepted.{rule_at}
use Rattle.laws.specs.Operations.{proved}
use Rattle.laws.specs.StepKeeps.{step_keeps}
use Rattle.laws.specs.OneCall.{objects_grow, refusal_stays}
use Rattle.laws.specs.Runs.{always_kept}
use Rattle.laws.specs.Relation.{Related}
use Rattle.laws.specs.Relation.Clause.{same_objects, blank_starts, starts_agree}
use Rattle.laws.specs.RelatedFresh.{related-fresh}
use Rattle.laws.specs.RelatedStep.{related-step}
use Rattle.laws.specs.RelatedRuns.{related-next, always_related}
use Rattle.sheet.specs.Closing.{count_past}
use Rattle.sheet.specs.SheetPrinted.{Printed, print_from, print_sheet}
use Rattle.sheet_counts.specs.Answers.{Answered, answer_to, answers_from, answers_on, is_start, how_many, counts_in, counts_of}
use Rattle.sheet_counts.specs.HowMany.{one, how_many-next}
use Rattle.sheet_counts.specs.AnswerLaws.{alike}
use Rattle.sheet_counts.specs.Bounds.{count-behind, sheet_keeps}

-- a task that was started: it runs, or has ended
abbrev pub started : Session → ℕ → Formula
started s h = is_kind s task h and running ≼ s TaskState h and s TaskState h ≼ ended

unfoldable pub started_tasks : Session → ℕ
started_tasks s = count (s Objects 0 + 1) (started s)

-- a task's state, if it is one, follows a start
abbrev begun : Session → ℕ → Formula
begun s h = running ≼ s TaskState h and s TaskState h ≼ ended

-- the book has a start of h
abbrev entry : Book → ℕ → Formula
entry b h = b Column.Starts h ≐ 1

-- as many as the book has
book-started : (s : Session) (b : Book) → Holds (kept s) → Related s b → started_tasks s ≡ count (s Objects 0 + 1) (entry b)
unfolding started_tasks
book-started s b k r =
    count_same (s Objects 0 + 1) (started s) (entry b) (λ h l x. (r starts_agree h).0 x.1)
    (λ h l e. there h l e (decide (begun s h)))
  where
    -- only a task has a state
    kind : (h : ℕ) → running ≤ s TaskState h → Holds (task_part s h) → s Kind h ≡ task
    kind h u (inl x) = x.0
    kind h u (inr x) = let z = x.1.0 in absurd (omega arith)

    there : (h : ℕ) → h < s Objects 0 + 1 → b Column.Starts h ≡ 1 → Case (begun s h) → Holds (started s h)
    there h l e (it_does x) = (kind h x.0 (by_name s k task_parts h (omega (arith, by_name s k counts))), x)
    there h l e (it_does_not n) = let z = (r starts_agree h).1 n in absurd (omega arith)

-- only a start is entered as one
enters_none : (b : Book) (o : Operation) → (o.code ≡ 11 → ⊥) → (h : ℕ) → entered b o Column.Starts h ≡ b Column.Starts h
unfolding entered
enters_none b o n h = (proved o).starts n b o h

-- a start enters itself
entered-start : (b : Book) (o : Operation) → o.code ≡ 11
    → entered b o ≡ enter b Column.Starts (arg o 0) (b Column.Starts (arg o 0) + 1)
unfolding entered enter_start rules
entered-start b o c = ap (λ (r : Rule). r.enters b o) (rule_at o 11 c)

-- one accepted call
module _ (s : Session) (b : Book) (o : Operation) (k : Holds (kept s)) (r : Related s b) (a : (step s o).refused ≡ 0) where
  abbrev left : Session
  left = (step s o).leaves

  related-left : Related left (entered b o)
  related-left = related-step s b o k r a

  left-started : started_tasks left ≡ count (left Objects 0 + 1) (entry (entered b o))
  left-started = book-started left (entered b o) (step_keeps s o k) related-left

  -- what it makes was not started
  other_step : (o.code ≡ 11 → ⊥) → started_tasks left ≡ started_tasks s
  other_step n =
      let more = left Objects 0 - s Objects 0 in
      let sum : left Objects 0 + 1 ≡ more + (s Objects 0 + 1) = omega (arith, objects_grow s o) in
      left-started
      ∙ count_same (left Objects 0 + 1) (entry (entered b o)) (entry b)
      (λ h l e. sym (enters_none b o n h) ∙ e) (λ h l e. enters_none b o n h ∙ e)
      ∙ ap (λ (m : ℕ). count m (entry b)) sum
      ∙ count_past more (s Objects 0 + 1) (entry b) (λ i l e. let z = r blank_starts i (omega arith) in omega arith)
      ∙ sym (book-started s b k r)

  -- the book's starts of a task are 0 or 1, so that a start finds 0
  start-step : o.code ≡ 11 → started_tasks left ≡ 1 + started_tasks s
  unfolding enter test
  start-step c = go (decide (begun left t)) (decide (t ≼ s Objects 0))
    where
      t : ℕ
      t = arg o 0

      later : Book
      later = enter b Column.Starts t (b Column.Starts t + 1)

      is : Related left later
      is = rw (entered-start b o c) at related-left

      here : later Column.Starts t ≡ b Column.Starts t + 1
      here = set_here (b Column.Starts) t (b Column.Starts t + 1) t refl

      there : (i : ℕ) → (t ≡ i → ⊥) → later Column.Starts i ≡ b Column.Starts i
      there i n = set_there (b Column.Starts) t (b Column.Starts t + 1) i n

      objects_stay : left Objects 0 ≡ s Objects 0
      objects_stay = sym (is same_objects) ∙ r same_objects

      go : Case (begun left t) → Case (t ≼ s Objects 0) → started_tasks left ≡ 1 + started_tasks s
      go (it_does_not n) l = let z = (is starts_agree t).1 n in absurd (omega (arith, here))
      go (it_does x) (it_does_not n) = let z = is blank_starts t (omega (arith, objects_stay)) in absurd (omega (arith, here))
      go (it_does x) (it_does l) =
          let z = (is starts_agree t).0 x in
          left-started
          ∙ rw (entered-start b o c, objects_stay)
          (count-one (s Objects 0 + 1) (entry b) (entry later) t (omega arith) (λ e. omega (arith, here)) z
          (λ i m n e. there i n ∙ e) (λ i m n e. sym (there i n) ∙ e))
          ∙ ap (λ (m : ℕ). 1 + m) (sym (book-started s b k r))

-- A call that starts a task adds one, and no other call changes how many were started.
pub step_starts : (s : Session) (b : Book) (o : Operation) → Holds (kept s) → Related s b
    → started_tasks (step s o).leaves ≡ started_tasks s + one (o.code ≐ 11 and (step s o).refused ≐ 0)
step_starts s b o k r = go (decide ((step s o).refused ≐ 0)) (decide (o.code ≐ 11))
  where
    starts : Formula
    starts = o.code ≐ 11 and (step s o).refused ≐ 0

    go : Case ((step s o).refused ≐ 0) → Case (o.code ≐ 11) → started_tasks (step s o).leaves ≡ started_tasks s + one starts
    go (it_does_not n) c =
        omega (arith, ap started_tasks (refusal_stays s o n), choose_no {A = ℕ} starts 1 0 (λ x. n x.1))
    go (it_does a) (it_does_not n) = omega (arith, other_step s b o k r a n, choose_no {A = ℕ} starts 1 0 (λ x. n x.0))
    go (it_does a) (it_does c) = omega (arith, start-step s b o k r a c, choose_yes {A = ℕ} starts 1 0 (c, a))

-- the session left has as many more tasks started than m as the answers tell of
abbrev Leaves : ℕ → Printed → List Answered → Type 0
Leaves m p list = started_tasks p.session ≡ m + how_many is_start list

-- no answer, or one to no operation
none_started : (m : ℕ) → m ≡ m + 0
none_started m = omega arith

from_starts : (sheet : List ℕ) (n at k : ℕ) (s : Session) (b : Book) → Holds (kept s) → Related s b
    → Leaves (started_tasks s) (print_from sheet n at k s) (answers_from sheet n at k s)
unfolding print_from answers_from how_many test next
from_starts sheet zero at k s b kp r = none_started (started_tasks s)
from_starts sheet (suc n) at k s b kp r =
    let m = started_tasks s in
    let L = Leaves m in
    let here = record_at sheet at in
    let o = here.operation in
    let left = (step s o).leaves in
    let b1 = choose (accepted s o) (entered b o) b in
    let rest = from_starts sheet n here.next (k + 1) left b1 (step_keeps s o kp) (related-next s b o kp r) in
    let first = how_many-next is_start (answer_to k s o) (answers_from sheet n here.next (k + 1) left) in
    alike L (length sheet ≼ at) _ _ _ _ (none_started m)
    (alike L (not (sound s)) _ _ _ _ (none_started m)
    (alike L (not (here.refused ≐ 0)) _ _ _ _ (none_started m)
    (omega (arith, rest, first, step_starts s b o kp r))))

-- On any session that the book tells of: the starts that are answered are so many tasks more.
pub sheet_starts : (sheet : List ℕ) (s : Session) (b : Book) → Holds (kept s) → Related s b
    → started_tasks (print_sheet sheet s).session ≡ started_tasks s + how_many is_start (answers_on sheet s)
unfolding print_sheet answers_on how_many test
sheet_starts sheet s b kp r =
    let m = started_tasks s in
    let L = Leaves m in
    alike L (not (sound s)) _ _ _ _ (none_started m)
    (alike L (not (head_refusal sheet ≐ 0)) _ _ _ _ (none_started m)
    (from_starts sheet (length sheet) (first_record sheet) 0 s b kp r))

fresh-started : started_tasks fresh_session ≡ 0
unfolding started_tasks count test fresh_session first_objects empty_session put
fresh-started = refl

-- on what any list of calls left
pub starts_further : (os : List Operation) (sheet : List ℕ)
    → let s = session_after os in
    started_tasks (print_sheet sheet s).session ≡ started_tasks s + how_many is_start (answers_on sheet s)
starts_further os sheet = sheet_starts sheet (session_after os) (book_after os) (always_kept os) (always_related os)

-- "starts": the tasks that run or have ended in the session that the sheet leaves
pub starts_left : (sheet : List ℕ) → (counts_of sheet).starts ≡ started_tasks (print_sheet sheet fresh_session).session
unfolding counts_of counts_in
starts_left sheet = omega (arith, sheet_starts sheet fresh_session opening fresh_kept related-fresh, fresh-started)

-- A session has at most 512 objects, and so no more starts.
pub starts_most : (sheet : List ℕ) → (counts_of sheet).starts ≤ most_objects
unfolding started_tasks
starts_most sheet =
    let s = (print_sheet sheet fresh_session).session in
    let x = by_name s (sheet_keeps sheet fresh_session fresh_kept) in
    let c = count-behind (s Objects 0) (started s) (λ e. let z = (x kinds).0 in omega (arith, e.0)) in
    omega (arith, starts_left sheet, rw (← add-one) at c, (x counts).1.0)
