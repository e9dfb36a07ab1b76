-- Tasks move from state to state, and holds come and go: a grant, a start, an end, the destroying of a task, letting go.
use Rattle.std.specs.Prelude.{ℕ, ◌+◌, ◌/◌, ◌≤◌, ◌<◌, ◌≡◌, refl}
use Rattle.std.proofs.Common.{ap, ◌∙◌}
use mathlib.Core.List.{[], ◌∷◌}
use native.Mathlib.Omega.{arith}
use Rattle.session.specs.Table.{Session, put, change, at}
use Rattle.session.specs.declared.Field.TheVariants.{Objects, Kind, TaskState, TaskSlots, BlockState, SlotMark, SlotPayload}
use Rattle.session.specs.Names.{task, resolved, granted, running, ended, task_destroyed, doomed, held}
use Rattle.rules.specs.Formula.{Formula, Holds, test, Formula.◌≐◌, Formula.◌≼◌, Formula.◌and◌}
use Rattle.rules.specs.FormulaLaws.{Case, decide, choose_yes, choose_no, Case.it_does, Case.it_does_not}
use Rattle.rules.specs.Checks.{grant_checks, start_checks}
use Rattle.rules.specs.Effects.{grant, start, let_go, bury_doomed, release}
use Rattle.rules.specs.Sound.{kept}
use Rattle.rules.specs.Book.{Book, enter, Column}
use Rattle.laws.specs.Met.{Checked}
use Rattle.laws.specs.Outside.{outside_same, outside_put, outside_change}
use Rattle.laws.specs.Writes.{start-writes, let_go_fields, let_go-writes}
use Rattle.laws.specs.BookEntries.{outside_enter}
use Rattle.laws.specs.Frame.{Shown.due}
use Rattle.laws.specs.Rows.Name.{counts, task_parts, slots as its-slots}
use Rattle.laws.specs.Keeping.{Kept}
use Rattle.laws.specs.ByName.{by_name}
use Rattle.laws.specs.SlotPlaces.{part-slots}
use Rattle.laws.specs.Marks.{no_payload, positive}
use Rattle.laws.specs.LettingGo.{MarkAfter, mark-after, MarkAfter.mark_stays, MarkAfter.mark_falls}
use Rattle.laws.specs.LettingGo.{BlockAfter, block-after, BlockAfter.block_stays, BlockAfter.block_falls}
use Rattle.laws.specs.Relation.{Marks, SlotAgrees, Clause, says, Related, Due, related_by}
use Rattle.laws.specs.Relation.Clause.{slots_agree, ended_agree, starts_agree, tasks_destroyed, blocks_destroyed}
use Rattle.laws.specs.Relation.Clause.{blank_starts, blank_ended, blank_destroyed}
use Rattle.laws.specs.Column.{set, at_set, blank-set, marks-told, marks-at, marks_none, marks-entered, marks_beside}

-- no task stops being destroyed
stays_at : (state : ℕ → ℕ) (t v : ℕ) → (state t ≡ task_destroyed → ⊥) → (i : ℕ) → state i ≡ task_destroyed
    → set state t v i ≡ task_destroyed
stays_at state t v n i e = at_set (λ (w : ℕ). w ≡ task_destroyed) state t v i (λ p. absurd (n (ap state p ∙ e))) (λ d. e)

-- no slot becomes satisfied or unsatisfied
abbrev AsFull : ℕ → ℕ → Type 0
AsFull mark mark' = (mark' ≡ 0 → mark ≡ 0) × (1 ≤ mark' → 1 ≤ mark)

as_full : {mark mark' payload times brought : ℕ} → AsFull mark mark' → SlotAgrees mark payload times brought
    → SlotAgrees mark' payload times brought
as_full f x = (λ e. x.0 (f.0 e), λ e. x.1 (f.1 e))

-- the states in which a task has ended, has started, is destroyed
abbrev Ended : ℕ → Type 0
Ended v = v ≡ ended

abbrev Started : ℕ → Type 0
Started v = (running ≤ v) × (v ≤ ended)

abbrev Destroyed : ℕ → Type 0
Destroyed v = v ≡ task_destroyed

-- a task moves from one early state to another, and the book has nothing to say
pub related_early : (s : Session) (b : Book) (t v : ℕ) → s TaskState t ≤ granted → v ≤ granted → Related s b
    → Related (put s TaskState t v) b
unfolding put
related_early s b t v was is r = related_by (outside_put {f = TaskState} t v (outside_same s)) (outside_same b) r shows
  where
    shows : (c : Clause) → Due (TaskState ∷ []) [] c → says c (put s TaskState t v) b
    shows slots_agree due =
        λ h l k d. r slots_agree h l k (λ e. d (stays_at (s TaskState) t v (λ e. omega arith) h e))
    shows ended_agree due =
        λ i. marks_none Ended (s TaskState) t v (λ e. omega arith) (λ e. omega arith) (r ended_agree i)
    shows starts_agree due =
        λ i. marks_none Started (s TaskState) t v (λ e. omega arith) (λ e. omega arith) (r starts_agree i)
    shows tasks_destroyed due =
        λ i k. marks_none Destroyed (s TaskState) t v (λ e. omega arith) (λ e. omega arith) (r tasks_destroyed i k)
    shows Rattle.laws.specs.Relation.same_objects x' = elim x' [ ]
    shows Rattle.laws.specs.Relation.same_links x'' = elim x'' [ ]
    shows Rattle.laws.specs.Relation.same_kinds x3 = elim x3 [ ]
    shows Rattle.laws.specs.Relation.same_types x4 = elim x4 [ ]
    shows Rattle.laws.specs.Relation.same_makers x5 = elim x5 [ ]
    shows Rattle.laws.specs.Relation.same_finishes x6 = elim x6 [ ]
    shows Rattle.laws.specs.Relation.same_outputs x7 = elim x7 [ ]
    shows Rattle.laws.specs.Relation.same_sources x8 = elim x8 [ ]
    shows Rattle.laws.specs.Relation.same_targets x9 = elim x9 [ ]
    shows Rattle.laws.specs.Relation.same_slots x10 = elim x10 [ ]
    shows Rattle.laws.specs.Relation.task_counts x11 = elim x11 [ ]
    shows Rattle.laws.specs.Relation.template_counts x12 = elim x12 [ ]
    shows blocks_destroyed x13 = elim x13 [ ]
    shows Rattle.laws.specs.Relation.fired_has x14 = elim x14 [ ]
    shows Rattle.laws.specs.Relation.open_has x15 = elim x15 [ ]
    shows Rattle.laws.specs.Relation.satisfied_agree x16 = elim x16 [ ]
    shows Rattle.laws.specs.Relation.struck_agree x17 = elim x17 [ ]
    shows Rattle.laws.specs.Relation.blank_kinds x18 = elim x18 [ ]
    shows Rattle.laws.specs.Relation.blank_times x19 = elim x19 [ ]
    shows Rattle.laws.specs.Relation.blank_satisfied x20 = elim x20 [ ]
    shows Rattle.laws.specs.Relation.blank_has x21 = elim x21 [ ]
    shows blank_starts x22 = elim x22 [ ]
    shows blank_ended x23 = elim x23 [ ]
    shows blank_destroyed x24 = elim x24 [ ]
    shows Rattle.laws.specs.Relation.blank_struck x25 = elim x25 [ ]

-- a grant: the slots that are held were satisfied
related-marks : (s : Session) (b : Book) (mark : ℕ → ℕ)
    → ((h j : ℕ) → h < s Objects 0 + 1 → j < s TaskSlots h → AsFull (s SlotMark (at h j)) (mark (at h j)))
    → Related s b → Related (change s SlotMark mark) b
unfolding change
related-marks s b mark f r = related_by (outside_change {f = SlotMark} (λ x'. mark x') (outside_same s)) (outside_same b) r shows
  where
    shows : (c : Clause) → Due (SlotMark ∷ []) [] c → says c (change s SlotMark mark) b
    shows slots_agree due = λ h l k d j m. as_full (f h j l m) (r slots_agree h l k d j m)
    shows Rattle.laws.specs.Relation.same_objects x' = elim x' [ ]
    shows Rattle.laws.specs.Relation.same_links x'' = elim x'' [ ]
    shows Rattle.laws.specs.Relation.same_kinds x3 = elim x3 [ ]
    shows Rattle.laws.specs.Relation.same_types x4 = elim x4 [ ]
    shows Rattle.laws.specs.Relation.same_makers x5 = elim x5 [ ]
    shows Rattle.laws.specs.Relation.same_finishes x6 = elim x6 [ ]
    shows Rattle.laws.specs.Relation.same_outputs x7 = elim x7 [ ]
    shows Rattle.laws.specs.Relation.same_sources x8 = elim x8 [ ]
    shows Rattle.laws.specs.Relation.same_targets x9 = elim x9 [ ]
    shows Rattle.laws.specs.Relation.same_slots x10 = elim x10 [ ]
    shows Rattle.laws.specs.Relation.task_counts x11 = elim x11 [ ]
    shows Rattle.laws.specs.Relation.template_counts x12 = elim x12 [ ]
    shows ended_agree x13 = elim x13 [ ]
    shows starts_agree x14 = elim x14 [ ]
    shows tasks_destroyed x15 = elim x15 [ ]
    shows blocks_destroyed x16 = elim x16 [ ]
    shows Rattle.laws.specs.Relation.fired_has x17 = elim x17 [ ]
    shows Rattle.laws.specs.Relation.open_has x18 = elim x18 [ ]
    shows Rattle.laws.specs.Relation.satisfied_agree x19 = elim x19 [ ]
    shows Rattle.laws.specs.Relation.struck_agree x20 = elim x20 [ ]
    shows Rattle.laws.specs.Relation.blank_kinds x21 = elim x21 [ ]
    shows Rattle.laws.specs.Relation.blank_times x22 = elim x22 [ ]
    shows Rattle.laws.specs.Relation.blank_satisfied x23 = elim x23 [ ]
    shows Rattle.laws.specs.Relation.blank_has x24 = elim x24 [ ]
    shows blank_starts x25 = elim x25 [ ]
    shows blank_ended x26 = elim x26 [ ]
    shows blank_destroyed x27 = elim x27 [ ]
    shows Rattle.laws.specs.Relation.blank_struck x28 = elim x28 [ ]

module _ (s : Session) (t : ℕ) (x : Kept s) where
  grant-marks : (h j : ℕ) → h < s Objects 0 + 1 → j < s TaskSlots h
      → AsFull (s SlotMark (at h j)) (grant s t SlotMark (at h j))
  unfolding grant put change
  grant-marks h j l m = go (decide taken)
    where
      low : j < 16
      low = let c = x counts in let f = part-slots s h (x task_parts h (omega arith)) in omega arith

      taken : Formula
      taken = (at h j / 16 ≐ t) and (1 ≼ s SlotPayload (at h j))

      go : Case taken → AsFull (s SlotMark (at h j)) (grant s t SlotMark (at h j))
      go (it_does_not n) = rw (choose_no taken held (s SlotMark (at h j)) n) (λ z. z, λ z. z)
      go (it_does y) =
          let p = y.1 in
          let some : s SlotMark (at h j) ≡ 0 → ⊥ = λ e. let w = no_payload s (x its-slots) h j l low e in omega arith in
          rw (choose_yes taken held (s SlotMark (at h j)) y)
          (λ z. absurd (omega arith), λ z. positive (s SlotMark (at h j)) some)

pub related-grant : (s : Session) (b : Book) (t : ℕ) → Checked (grant_checks s t) → Holds (kept s) → Related s b
    → Related (grant s t) b
unfolding grant put change
related-grant s b t c k r =
    let was : s TaskState t ≡ resolved = c 16 in
    related_early (change s SlotMark (grant s t SlotMark)) b t granted (omega arith) (omega arith)
    (related-marks s b (grant s t SlotMark) (grant-marks s t (by_name s k)) r)

-- a start is entered: it was granted, and never started
pub related-start : (s : Session) (b : Book) (t : ℕ) → Checked (start_checks s t) → Related s b
    → Related (start s t) (enter b Column.Starts t (b Column.Starts t + 1))
unfolding start put enter test
related-start s b t c r = related_by (start-writes s t) (outside_enter {c = Column.Starts} t (b Rattle.rules.specs.Book.Starts t + 1) (outside_same b)) r shows
  where
    was : s TaskState t ≡ granted
    was = c 16

    never : b Column.Starts t ≡ 0
    never = let w = was in (r starts_agree t).1 (λ e. omega arith)

    shows : (c : Clause) → Due (TaskState ∷ []) (Column.Starts ∷ []) c
        → says c (start s t) (enter b Column.Starts t (b Column.Starts t + 1))
    shows slots_agree due =
        let w = was in
        λ h l k d. r slots_agree h l k (λ e. d (stays_at (s TaskState) t running (λ e. omega arith) h e))
    shows ended_agree due =
        let w = was in
        λ i. marks_none Ended (s TaskState) t running (λ e. omega arith) (λ e. omega arith) (r ended_agree i)
    shows starts_agree due =
        let n = never in
        λ i. marks-entered Started (s TaskState) (b Column.Starts) t running _ (omega arith) (omega arith) (r starts_agree i)
    shows tasks_destroyed due =
        let w = was in
        λ i k. marks_none Destroyed (s TaskState) t running (λ e. omega arith) (λ e. omega arith) (r tasks_destroyed i k)
    shows blank_starts due = blank-set t (b Column.Starts t + 1) (c 9).1 (r blank_starts)
    shows Rattle.laws.specs.Relation.same_objects x' = elim x' [ ]
    shows Rattle.laws.specs.Relation.same_links x'' = elim x'' [ ]
    shows Rattle.laws.specs.Relation.same_kinds x3 = elim x3 [ ]
    shows Rattle.laws.specs.Relation.same_types x4 = elim x4 [ ]
    shows Rattle.laws.specs.Relation.same_makers x5 = elim x5 [ ]
    shows Rattle.laws.specs.Relation.same_finishes x6 = elim x6 [ ]
    shows Rattle.laws.specs.Relation.same_outputs x7 = elim x7 [ ]
    shows Rattle.laws.specs.Relation.same_sources x8 = elim x8 [ ]
    shows Rattle.laws.specs.Relation.same_targets x9 = elim x9 [ ]
    shows Rattle.laws.specs.Relation.same_slots x10 = elim x10 [ ]
    shows Rattle.laws.specs.Relation.task_counts x11 = elim x11 [ ]
    shows Rattle.laws.specs.Relation.template_counts x12 = elim x12 [ ]
    shows blocks_destroyed x13 = elim x13 [ ]
    shows Rattle.laws.specs.Relation.fired_has x14 = elim x14 [ ]
    shows Rattle.laws.specs.Relation.open_has x15 = elim x15 [ ]
    shows Rattle.laws.specs.Relation.satisfied_agree x16 = elim x16 [ ]
    shows Rattle.laws.specs.Relation.struck_agree x17 = elim x17 [ ]
    shows Rattle.laws.specs.Relation.blank_kinds x18 = elim x18 [ ]
    shows Rattle.laws.specs.Relation.blank_times x19 = elim x19 [ ]
    shows Rattle.laws.specs.Relation.blank_satisfied x20 = elim x20 [ ]
    shows Rattle.laws.specs.Relation.blank_has x21 = elim x21 [ ]
    shows blank_ended x22 = elim x22 [ ]
    shows blank_destroyed x23 = elim x23 [ ]
    shows Rattle.laws.specs.Relation.blank_struck x24 = elim x24 [ ]

-- an end is entered
pub related-ended : (s : Session) (b : Book) (t : ℕ) → t ≤ s Objects 0 → s TaskState t ≡ running → Related s b
    → Related (put s TaskState t ended) (enter b Column.Ended t 1)
unfolding put enter test
related-ended s b t m was r =
    related_by (outside_put {f = TaskState} t ended (outside_same s)) (outside_enter {c = Column.Ended} t 1 (outside_same b)) r shows
  where
    shows : (c : Clause) → Due (TaskState ∷ []) (Column.Ended ∷ []) c
        → says c (put s TaskState t ended) (enter b Column.Ended t 1)
    shows slots_agree due =
        λ h l k d. r slots_agree h l k (λ e. d (stays_at (s TaskState) t ended (λ e. omega arith) h e))
    shows ended_agree due =
        λ i. marks-entered Ended (s TaskState) (b Column.Ended) t ended 1 refl refl (r ended_agree i)
    shows starts_agree due =
        λ i. marks-at Started (s TaskState) t ended (λ e. omega arith) (λ e. omega arith) (r starts_agree i)
    shows tasks_destroyed due =
        λ i k. marks_none Destroyed (s TaskState) t ended (λ e. omega arith) (λ e. omega arith) (r tasks_destroyed i k)
    shows blank_ended due = blank-set t 1 m (r blank_ended)
    shows Rattle.laws.specs.Relation.same_objects x' = elim x' [ ]
    shows Rattle.laws.specs.Relation.same_links x'' = elim x'' [ ]
    shows Rattle.laws.specs.Relation.same_kinds x3 = elim x3 [ ]
    shows Rattle.laws.specs.Relation.same_types x4 = elim x4 [ ]
    shows Rattle.laws.specs.Relation.same_makers x5 = elim x5 [ ]
    shows Rattle.laws.specs.Relation.same_finishes x6 = elim x6 [ ]
    shows Rattle.laws.specs.Relation.same_outputs x7 = elim x7 [ ]
    shows Rattle.laws.specs.Relation.same_sources x8 = elim x8 [ ]
    shows Rattle.laws.specs.Relation.same_targets x9 = elim x9 [ ]
    shows Rattle.laws.specs.Relation.same_slots x10 = elim x10 [ ]
    shows Rattle.laws.specs.Relation.task_counts x11 = elim x11 [ ]
    shows Rattle.laws.specs.Relation.template_counts x12 = elim x12 [ ]
    shows blocks_destroyed x13 = elim x13 [ ]
    shows Rattle.laws.specs.Relation.fired_has x14 = elim x14 [ ]
    shows Rattle.laws.specs.Relation.open_has x15 = elim x15 [ ]
    shows Rattle.laws.specs.Relation.satisfied_agree x16 = elim x16 [ ]
    shows Rattle.laws.specs.Relation.struck_agree x17 = elim x17 [ ]
    shows Rattle.laws.specs.Relation.blank_kinds x18 = elim x18 [ ]
    shows Rattle.laws.specs.Relation.blank_times x19 = elim x19 [ ]
    shows Rattle.laws.specs.Relation.blank_satisfied x20 = elim x20 [ ]
    shows Rattle.laws.specs.Relation.blank_has x21 = elim x21 [ ]
    shows blank_starts x22 = elim x22 [ ]
    shows blank_destroyed x23 = elim x23 [ ]
    shows Rattle.laws.specs.Relation.blank_struck x24 = elim x24 [ ]

-- the destroying of a task is entered
pub related_destroyed : (s : Session) (b : Book) (t : ℕ) → t ≤ s Objects 0 → s Kind t ≡ task → s TaskState t ≤ resolved
    → Related s b → Related (put s TaskState t task_destroyed) (enter b Column.Destroyed t 1)
unfolding put enter test
related_destroyed s b t m kind was r =
    related_by (outside_put {f = TaskState} t task_destroyed (outside_same s)) (outside_enter {c = Column.Destroyed} t 1 (outside_same b)) r shows
  where
    shows : (c : Clause) → Due (TaskState ∷ []) (Column.Destroyed ∷ []) c
        → says c (put s TaskState t task_destroyed) (enter b Column.Destroyed t 1)
    shows slots_agree due =
        λ h l k d. r slots_agree h l k (λ e. d (stays_at (s TaskState) t task_destroyed (λ e. omega arith) h e))
    shows ended_agree due =
        λ i. marks_none Ended (s TaskState) t task_destroyed (λ e. omega arith) (λ e. omega arith) (r ended_agree i)
    shows starts_agree due =
        λ i. marks_none Started (s TaskState) t task_destroyed (λ e. omega arith) (λ e. omega arith) (r starts_agree i)
    shows tasks_destroyed due =
        λ i k. marks-entered Destroyed (s TaskState) (b Column.Destroyed) t task_destroyed 1 refl refl (r tasks_destroyed i k)
    shows blocks_destroyed due =
        λ i k. marks_beside (s Kind) (b Column.Destroyed) kind k (λ e. omega arith) (r blocks_destroyed i k)
    shows blank_destroyed due = blank-set t 1 m (r blank_destroyed)
    shows Rattle.laws.specs.Relation.same_objects x' = elim x' [ ]
    shows Rattle.laws.specs.Relation.same_links x'' = elim x'' [ ]
    shows Rattle.laws.specs.Relation.same_kinds x3 = elim x3 [ ]
    shows Rattle.laws.specs.Relation.same_types x4 = elim x4 [ ]
    shows Rattle.laws.specs.Relation.same_makers x5 = elim x5 [ ]
    shows Rattle.laws.specs.Relation.same_finishes x6 = elim x6 [ ]
    shows Rattle.laws.specs.Relation.same_outputs x7 = elim x7 [ ]
    shows Rattle.laws.specs.Relation.same_sources x8 = elim x8 [ ]
    shows Rattle.laws.specs.Relation.same_targets x9 = elim x9 [ ]
    shows Rattle.laws.specs.Relation.same_slots x10 = elim x10 [ ]
    shows Rattle.laws.specs.Relation.task_counts x11 = elim x11 [ ]
    shows Rattle.laws.specs.Relation.template_counts x12 = elim x12 [ ]
    shows Rattle.laws.specs.Relation.fired_has x13 = elim x13 [ ]
    shows Rattle.laws.specs.Relation.open_has x14 = elim x14 [ ]
    shows Rattle.laws.specs.Relation.satisfied_agree x15 = elim x15 [ ]
    shows Rattle.laws.specs.Relation.struck_agree x16 = elim x16 [ ]
    shows Rattle.laws.specs.Relation.blank_kinds x17 = elim x17 [ ]
    shows Rattle.laws.specs.Relation.blank_times x18 = elim x18 [ ]
    shows Rattle.laws.specs.Relation.blank_satisfied x19 = elim x19 [ ]
    shows Rattle.laws.specs.Relation.blank_has x20 = elim x20 [ ]
    shows blank_starts x21 = elim x21 [ ]
    shows blank_ended x22 = elim x22 [ ]
    shows Rattle.laws.specs.Relation.blank_struck x23 = elim x23 [ ]

-- letting go of holds: what was satisfied stays so, and a doomed block may be destroyed
module _ (s : Session) (t : ℕ) (which : ℕ → Formula) where
  let_go-marks : (i : ℕ) → AsFull (s SlotMark i) (let_go s t which SlotMark i)
  let_go-marks i = go (mark-after s t which i)
    where
      go : MarkAfter s t which i → AsFull (s SlotMark i) (let_go s t which SlotMark i)
      go (mark_stays n e) = (λ z. omega arith, λ z. omega arith)
      go (mark_falls p q w e) = (λ z. absurd (omega arith), λ z. omega arith)

  let_go-block : (i n : ℕ) → Marks (doomed ≤ s BlockState i) n → Marks (doomed ≤ let_go s t which BlockState i) n
  let_go-block i n m = go (block-after s t which i)
    where
      go : BlockAfter s t which i → Marks (doomed ≤ let_go s t which BlockState i) n
      go (block_stays d e) = rw e m
      go (block_falls p d e) = marks-told (λ l. omega arith) (λ l. omega arith) m

  pub related-let_go : (b : Book) → Related s b → Related (let_go s t which) b
  unfolding let_go bury_doomed change
  related-let_go b r = related_by (let_go-writes s t which) (outside_same b) r shows
    where
      shows : (c : Clause) → Due let_go_fields [] c → says c (let_go s t which) b
      shows slots_agree due = λ h l k d j m. as_full (let_go-marks (at h j)) (r slots_agree h l k d j m)
      shows blocks_destroyed due = λ i k. let_go-block i (b Column.Destroyed i) (r blocks_destroyed i k)
      shows Rattle.laws.specs.Relation.same_objects x' = elim x' [ ]
      shows Rattle.laws.specs.Relation.same_links x'' = elim x'' [ ]
      shows Rattle.laws.specs.Relation.same_kinds x3 = elim x3 [ ]
      shows Rattle.laws.specs.Relation.same_types x4 = elim x4 [ ]
      shows Rattle.laws.specs.Relation.same_makers x5 = elim x5 [ ]
      shows Rattle.laws.specs.Relation.same_finishes x6 = elim x6 [ ]
      shows Rattle.laws.specs.Relation.same_outputs x7 = elim x7 [ ]
      shows Rattle.laws.specs.Relation.same_sources x8 = elim x8 [ ]
      shows Rattle.laws.specs.Relation.same_targets x9 = elim x9 [ ]
      shows Rattle.laws.specs.Relation.same_slots x10 = elim x10 [ ]
      shows Rattle.laws.specs.Relation.task_counts x11 = elim x11 [ ]
      shows Rattle.laws.specs.Relation.template_counts x12 = elim x12 [ ]
      shows ended_agree x13 = elim x13 [ ]
      shows starts_agree x14 = elim x14 [ ]
      shows tasks_destroyed x15 = elim x15 [ ]
      shows Rattle.laws.specs.Relation.fired_has x16 = elim x16 [ ]
      shows Rattle.laws.specs.Relation.open_has x17 = elim x17 [ ]
      shows Rattle.laws.specs.Relation.satisfied_agree x18 = elim x18 [ ]
      shows Rattle.laws.specs.Relation.struck_agree x19 = elim x19 [ ]
      shows Rattle.laws.specs.Relation.blank_kinds x20 = elim x20 [ ]
      shows Rattle.laws.specs.Relation.blank_times x21 = elim x21 [ ]
      shows Rattle.laws.specs.Relation.blank_satisfied x22 = elim x22 [ ]
      shows Rattle.laws.specs.Relation.blank_has x23 = elim x23 [ ]
      shows blank_starts x24 = elim x24 [ ]
      shows blank_ended x25 = elim x25 [ ]
      shows blank_destroyed x26 = elim x26 [ ]
      shows Rattle.laws.specs.Relation.blank_struck x27 = elim x27 [ ]

pub related-release : (s : Session) (b : Book) (caller h : ℕ) → Related s b → Related (release s caller h) b
unfolding release
related-release s b caller h r = related-let_go s caller (λ k. k ≐ h) b r
