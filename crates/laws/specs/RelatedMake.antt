-- What is made is entered under the same handle: templates, events, blocks and tasks.
use Rattle.std.specs.Prelude.{ℕ, ◌+◌, ◌≤◌, ◌<◌, ◌≡◌, Bool, true, false, List, [], ◌∷◌, eqb}
use Rattle.std.proofs.Math.Path.{refl, ap}
use Rattle.std.proofs.Common.{sym, subst, ◌∙◌, arith}
use Rattle.std.proofs.lemmas.Bool.{eqb-false}
use Rattle.session.specs.Table.{Session, put, at, pick}
use Rattle.session.specs.declared.Field.{Field}
use Rattle.session.specs.declared.Field.TheVariants.{Objects, Kind, TemplateState, TemplateCount, TaskState, TaskCreator}
use Rattle.session.specs.declared.Field.TheVariants.{TaskSlots, TaskFinish, TaskOutput, EventState, EventType, EventPayload}
use Rattle.session.specs.declared.Field.TheVariants.{EventTally, EventCount, BlockState, BlockCreator, BlockHeld, SlotMark, SlotPayload}
use Rattle.session.specs.Names.{template, task, event, block, fresh, waiting, resolved, running, ended, task_destroyed}
use Rattle.session.specs.Names.{event_open, doomed, output, unknown_count}
use Rattle.rules.specs.Formula.{Holds, test, choose, Formula.◌≐◌}
use Rattle.rules.specs.EventTypes.{fires_at_first}
use Rattle.rules.specs.FormulaLaws.{Case, decide, choose_yes, choose_no, Case.it_does, Case.it_does_not}
use Rattle.rules.specs.Checks.{task_checks, task_slots}
use Rattle.rules.specs.Effects.{new, new_template, new_event, new_task, make_task, new_block}
use Rattle.rules.specs.Sound.{kept}
use Rattle.rules.specs.Book.{Book, enter, enter_object, enter_task, Column}
use Rattle.laws.specs.Met.{Checked}
use Rattle.laws.specs.Outside.{Outside, outside_same, outside_put}
use Rattle.laws.specs.Writes.{new-writes}
use Rattle.laws.specs.BookEntries.{OutsideBook, outside_enter}
use Rattle.laws.specs.Frame.{Shown, Shown.due}
use Rattle.laws.specs.Rows.Name.{free_slots}
use Rattle.laws.specs.ByName.{by_name}
use Rattle.laws.specs.Relation.{Marks, SlotsAgree, SlotAgrees, EndedAgree, StartsAgree, TasksDestroyed, BlocksDestroyed}
use Rattle.laws.specs.Relation.{HadFired, FiredHas, OpenHas, SatisfiedAgree}
use Rattle.laws.specs.Relation.{Clause, row, says, Related, is_due, Due, clause_lasts}
use Rattle.laws.specs.Relation.Clause.{same_objects, same_kinds, same_types, same_makers, same_finishes, same_outputs}
use Rattle.laws.specs.Relation.Clause.{task_counts, template_counts, slots_agree, ended_agree, starts_agree}
use Rattle.laws.specs.Relation.Clause.{tasks_destroyed, blocks_destroyed, fired_has, open_has, satisfied_agree}
use Rattle.laws.specs.Relation.Clause.{blank_kinds, blank_times, blank_satisfied, blank_has, blank_starts, blank_ended}
use Rattle.laws.specs.Relation.Clause.{blank_destroyed}
use Rattle.laws.specs.Places.{Places, places, Places.one, Places.two}
use Rattle.laws.specs.Column.{set, at_set, set_here, set_there, set_same, was_kind, counts-new, counts-other, unfired}
use Rattle.laws.specs.Column.{blank-set, blank-more}

-- object h of this kind is entered
abbrev entry : Book → ℕ → ℕ → Book
entry b h kind = enter (enter b Column.Objects 0 h) Column.Kind h kind

-- both count the new object under the same handle
next_handle : (s : Session) (b : Book) → Related s b → b Column.Objects 0 + 1 ≡ s Objects 0 + 1
next_handle s b r = ap (λ (n : ℕ). n + 1) (r same_objects)

-- where an object of kind k is made, the clauses about that kind are shown, and those that read a field or column of the kind
abbrev Made : ℕ → List Field → List Column → Clause → Type 0
Made k ws cs c = Shown (pick (eqb (row c).kind k) true (is_due ws cs c))

module _ {s : Session} {b : Book} (k : ℕ) (r : Related s b) where
  abbrev next : ℕ
  next = s Objects 0 + 1

  -- an old object of another kind
  old : (k' i : ℕ) → (k' ≡ k → ⊥) → set (s Kind) next k i ≡ k' → (next ≡ i → ⊥) × (s Kind i ≡ k')
  old k' i n e = was_kind (s Kind) next k i k' (λ q. n (sym q)) e

  -- what is said of another kind is said of the old ones, and nothing is entered of the next
  others : (c : Clause) → ((row c).kind ≡ k → ⊥) → Due (Kind ∷ Objects ∷ []) (Column.Kind ∷ Column.Objects ∷ []) c
      → says c (new s next k) (entry b next k)
  unfolding new put enter test
  others same_objects n due = refl
  others same_kinds n due = set_same next k (r same_kinds)
  others task_counts n due = λ i e. r task_counts i (old task i n e).1
  others template_counts n due = λ i e. r template_counts i (old template i n e).1
  others slots_agree n due = λ h l e. let w = old task h n e in let q = w.0 in r slots_agree h (omega arith) w.1
  others tasks_destroyed n due = λ i e. r tasks_destroyed i (old task i n e).1
  others blocks_destroyed n due = λ i e. r blocks_destroyed i (old block i n e).1
  others blank_kinds n due = blank-set next k (omega arith) (blank-more (omega arith) (r blank_kinds))
  others blank_times n due = blank-more (omega arith) (r blank_times)
  others blank_satisfied n due = blank-more (omega arith) (r blank_satisfied)
  others blank_has n due = blank-more (omega arith) (r blank_has)
  others blank_starts n due = blank-more (omega arith) (r blank_starts)
  others blank_ended n due = blank-more (omega arith) (r blank_ended)
  others blank_destroyed n due = blank-more (omega arith) (r blank_destroyed)
  others Rattle.laws.specs.Relation.same_links n x'' = elim x'' [ ]
  others same_types n x3 = elim x3 [ ]
  others same_makers n x4 = elim x4 [ ]
  others same_finishes n x5 = elim x5 [ ]
  others same_outputs n x6 = elim x6 [ ]
  others Rattle.laws.specs.Relation.same_sources n x7 = elim x7 [ ]
  others Rattle.laws.specs.Relation.same_targets n x8 = elim x8 [ ]
  others Rattle.laws.specs.Relation.same_slots n x9 = elim x9 [ ]
  others ended_agree n x10 = elim x10 [ ]
  others starts_agree n x11 = elim x11 [ ]
  others fired_has n x12 = elim x12 [ ]
  others open_has n x13 = elim x13 [ ]
  others satisfied_agree n x14 = elim x14 [ ]
  others Rattle.laws.specs.Relation.struck_agree n x15 = elim x15 [ ]
  others Rattle.laws.specs.Relation.blank_struck n x16 = elim x16 [ ]

  related-made : {q : Session} {d : Book} {ws : List Field} {cs : List Column} → Outside (new s next k) q ws
      → OutsideBook (entry b next k) d cs → ((c : Clause) → Made k ws cs c → says c q d) → Related q d
  related-made {q} {d} o p shows c = go (eqb (row c).kind k) refl
    where
      enters : OutsideBook b (entry b next k) (Column.Kind ∷ Column.Objects ∷ [])
      enters = outside_enter _ _ (outside_enter _ _ (outside_same b))

      go : (x : Bool) → eqb (row c).kind k ≡ x → says c q d
      go true e = shows c (rw e due)
      go false e =
          let made = clause_lasts (new-writes s next k) enters c (r c) (others c (eqb-false (row c).kind k e)) in
          clause_lasts o p c made (λ y. shows c (rw e y))

-- a template
template-at : (s : Session) (b : Book) (n : ℕ) → Related s b
    → Related (new_template s n) (enter (entry b (s Objects 0 + 1) template) Column.Count (s Objects 0 + 1) n)
unfolding new_template new put enter test
template-at s b n r =
    related-made template r (outside_put {f = TemplateCount} (s Objects 0 + 1) n (outside_put {f = TemplateState} (s Objects 0 + 1) fresh (outside_same _))) (outside_enter {c = Column.Count} (s Objects 0 + 1) n (outside_same _)) shows
  where
    h : ℕ
    h = s Objects 0 + 1

    shows : (c : Clause) → Made template (TemplateCount ∷ TemplateState ∷ []) (Column.Count ∷ []) c
        → says c (new_template s n) (enter (entry b h template) Column.Count h n)
    shows task_counts due =
        counts-other template task (s Kind) (b Column.Count) (s TaskSlots) h n (omega arith) (r task_counts)
    shows template_counts due =
        counts-new template (s Kind) (b Column.Count) (s TemplateCount) h n n refl (r template_counts)
    shows same_objects x' = elim x' [ ]
    shows Rattle.laws.specs.Relation.same_links x'' = elim x'' [ ]
    shows same_kinds x3 = elim x3 [ ]
    shows same_types x4 = elim x4 [ ]
    shows same_makers x5 = elim x5 [ ]
    shows same_finishes x6 = elim x6 [ ]
    shows same_outputs x7 = elim x7 [ ]
    shows Rattle.laws.specs.Relation.same_sources x8 = elim x8 [ ]
    shows Rattle.laws.specs.Relation.same_targets x9 = elim x9 [ ]
    shows Rattle.laws.specs.Relation.same_slots x10 = elim x10 [ ]
    shows slots_agree x11 = elim x11 [ ]
    shows ended_agree x12 = elim x12 [ ]
    shows starts_agree x13 = elim x13 [ ]
    shows tasks_destroyed x14 = elim x14 [ ]
    shows blocks_destroyed x15 = elim x15 [ ]
    shows fired_has x16 = elim x16 [ ]
    shows open_has x17 = elim x17 [ ]
    shows satisfied_agree x18 = elim x18 [ ]
    shows Rattle.laws.specs.Relation.struck_agree x19 = elim x19 [ ]
    shows blank_kinds x20 = elim x20 [ ]
    shows blank_times x21 = elim x21 [ ]
    shows blank_satisfied x22 = elim x22 [ ]
    shows blank_has x23 = elim x23 [ ]
    shows blank_starts x24 = elim x24 [ ]
    shows blank_ended x25 = elim x25 [ ]
    shows blank_destroyed x26 = elim x26 [ ]
    shows Rattle.laws.specs.Relation.blank_struck x27 = elim x27 [ ]

pub related-template : (s : Session) (b : Book) (n : ℕ) → Related s b
    → Related (new_template s n) (enter (enter_object b template) Column.Count (b Column.Objects 0 + 1) n)
unfolding enter_object
related-template s b n r =
    subst (λ (h : ℕ). Related (new_template s n) (enter (entry b h template) Column.Count h n)) (sym (next_handle s b r))
    (template-at s b n r)

-- an event: it is open, and nothing is entered of it yet
fired-new : (h : ℕ) (state payload has : ℕ → ℕ) → FiredHas state payload has → FiredHas (set state h event_open) payload has
fired-new h state payload has x e =
    at_set (λ (v : ℕ). HadFired v → has e ≡ payload e) state h event_open e
    (λ p f. absurd (unfired event_open (omega arith) (omega arith) f)) (λ n. x e)

open_new : (h : ℕ) (state has : ℕ → ℕ) → has h ≡ 0 → OpenHas state has → OpenHas (set state h event_open) has
open_new h state has z x e =
    at_set (λ (v : ℕ). v ≡ event_open → has e ≡ 0) state h event_open e (λ p o. ap has (sym p) ∙ z) (λ n. x e)

satisfied-new : (h ty : ℕ) (type state column : ℕ → ℕ) → column h ≡ 0 → SatisfiedAgree type state column
    → SatisfiedAgree (set type h ty) (set state h event_open) column
satisfied-new h ty type state column z x e = go (places h e)
  where
    Says : ℕ → ℕ → Type 0
    Says t v = Holds (fires_at_first t) → (v ≡ event_open → column e ≡ 0) × (HadFired v → column e ≡ 1)

    go : Places h e → Says (set type h ty e) (set state h event_open e)
    go (one p) =
        rw (set_here state h event_open e p)
        (λ l. (λ o. ap column (sym p) ∙ z, λ f. absurd (unfired event_open (omega arith) (omega arith) f)))
    go (two n) = rw (set_there type h ty e n, set_there state h event_open e n) (x e)

event-at : (s : Session) (b : Book) (ty n : ℕ) → Related s b
    → Related (new_event s (s Objects 0 + 1) ty n) (enter (entry b (s Objects 0 + 1) event) Column.EventType (s Objects 0 + 1) ty)
unfolding new_event new put enter test
event-at s b ty n r =
    related-made event r (outside_put {f = EventCount} (s Objects 0 + 1) n (outside_put {f = EventTally} (s Objects 0 + 1) (choose (ty ≐ Rattle.session.specs.Names.latch) Rattle.session.specs.Names.even_tally 0) (outside_put {f = EventType} (s Objects 0 + 1) ty (outside_put {f = EventState} (s Objects 0 + 1) event_open (outside_same _)))))
    (outside_enter {c = Column.EventType} (s Objects 0 + 1) ty (outside_same _)) shows
  where
    h : ℕ
    h = s Objects 0 + 1

    shows : (c : Clause) → Made event (EventCount ∷ EventTally ∷ EventType ∷ EventState ∷ []) (Column.EventType ∷ []) c
        → says c (new_event s h ty n) (enter (entry b h event) Column.EventType h ty)
    shows same_types due = set_same h ty (r same_types)
    shows fired_has due = fired-new h (s EventState) (s EventPayload) (b Column.Has) (r fired_has)
    shows open_has due = open_new h (s EventState) (b Column.Has) (r blank_has h (omega arith)) (r open_has)
    shows satisfied_agree due =
        satisfied-new h ty (s EventType) (s EventState) (b Column.Satisfied) (r blank_satisfied h (omega arith))
        (r satisfied_agree)
    shows same_objects x' = elim x' [ ]
    shows Rattle.laws.specs.Relation.same_links x'' = elim x'' [ ]
    shows same_kinds x3 = elim x3 [ ]
    shows same_makers x4 = elim x4 [ ]
    shows same_finishes x5 = elim x5 [ ]
    shows same_outputs x6 = elim x6 [ ]
    shows Rattle.laws.specs.Relation.same_sources x7 = elim x7 [ ]
    shows Rattle.laws.specs.Relation.same_targets x8 = elim x8 [ ]
    shows Rattle.laws.specs.Relation.same_slots x9 = elim x9 [ ]
    shows task_counts x10 = elim x10 [ ]
    shows template_counts x11 = elim x11 [ ]
    shows slots_agree x12 = elim x12 [ ]
    shows ended_agree x13 = elim x13 [ ]
    shows starts_agree x14 = elim x14 [ ]
    shows tasks_destroyed x15 = elim x15 [ ]
    shows blocks_destroyed x16 = elim x16 [ ]
    shows Rattle.laws.specs.Relation.struck_agree x17 = elim x17 [ ]
    shows blank_kinds x18 = elim x18 [ ]
    shows blank_times x19 = elim x19 [ ]
    shows blank_satisfied x20 = elim x20 [ ]
    shows blank_has x21 = elim x21 [ ]
    shows blank_starts x22 = elim x22 [ ]
    shows blank_ended x23 = elim x23 [ ]
    shows blank_destroyed x24 = elim x24 [ ]
    shows Rattle.laws.specs.Relation.blank_struck x25 = elim x25 [ ]

pub related-event : (s : Session) (b : Book) (ty n : ℕ) → Related s b
    → Related (new_event s (s Objects 0 + 1) ty n) (enter (enter_object b event) Column.EventType (b Column.Objects 0 + 1) ty)
unfolding enter_object
related-event s b ty n r =
    subst (λ (h : ℕ). Related (new_event s (s Objects 0 + 1) ty n) (enter (entry b h event) Column.EventType h ty))
    (sym (next_handle s b r)) (event-at s b ty n r)

-- a block
blocks-new : (h : ℕ) (kind state column : ℕ → ℕ) → column h ≡ 0 → BlocksDestroyed kind state column
    → BlocksDestroyed (set kind h block) (set state h fresh) column
blocks-new h kind state column z x i = go (places h i)
  where
    go : Places h i → set kind h block i ≡ block → Marks (doomed ≤ set state h fresh i) (column i)
    go (one p) = rw (set_here state h fresh i p) (λ k. (λ l. absurd (omega arith), λ n. ap column (sym p) ∙ z))
    go (two n) = rw (set_there kind h block i n, set_there state h fresh i n) (x i)

block_at : (s : Session) (b : Book) (caller hold : ℕ) → Related s b
    → Related (new_block s caller hold) (entry b (s Objects 0 + 1) block)
unfolding new_block new put enter test
block_at s b caller hold r =
    related-made block r (outside_put {f = BlockHeld} (s Objects 0 + 1) hold (outside_put {f = BlockCreator} (s Objects 0 + 1) caller (outside_put {f = BlockState} (s Objects 0 + 1) fresh (outside_same _)))) (outside_same _) shows
  where
    h : ℕ
    h = s Objects 0 + 1

    shows : (c : Clause) → Made block (BlockHeld ∷ BlockCreator ∷ BlockState ∷ []) [] c
        → says c (new_block s caller hold) (entry b h block)
    shows blocks_destroyed due =
        blocks-new h (s Kind) (s BlockState) (b Column.Destroyed) (r blank_destroyed h (omega arith)) (r blocks_destroyed)
    shows same_objects x' = elim x' [ ]
    shows Rattle.laws.specs.Relation.same_links x'' = elim x'' [ ]
    shows same_kinds x3 = elim x3 [ ]
    shows same_types x4 = elim x4 [ ]
    shows same_makers x5 = elim x5 [ ]
    shows same_finishes x6 = elim x6 [ ]
    shows same_outputs x7 = elim x7 [ ]
    shows Rattle.laws.specs.Relation.same_sources x8 = elim x8 [ ]
    shows Rattle.laws.specs.Relation.same_targets x9 = elim x9 [ ]
    shows Rattle.laws.specs.Relation.same_slots x10 = elim x10 [ ]
    shows task_counts x11 = elim x11 [ ]
    shows template_counts x12 = elim x12 [ ]
    shows slots_agree x13 = elim x13 [ ]
    shows ended_agree x14 = elim x14 [ ]
    shows starts_agree x15 = elim x15 [ ]
    shows tasks_destroyed x16 = elim x16 [ ]
    shows fired_has x17 = elim x17 [ ]
    shows open_has x18 = elim x18 [ ]
    shows satisfied_agree x19 = elim x19 [ ]
    shows Rattle.laws.specs.Relation.struck_agree x20 = elim x20 [ ]
    shows blank_kinds x21 = elim x21 [ ]
    shows blank_times x22 = elim x22 [ ]
    shows blank_satisfied x23 = elim x23 [ ]
    shows blank_has x24 = elim x24 [ ]
    shows blank_starts x25 = elim x25 [ ]
    shows blank_ended x26 = elim x26 [ ]
    shows blank_destroyed x27 = elim x27 [ ]
    shows Rattle.laws.specs.Relation.blank_struck x28 = elim x28 [ ]

pub related-block : (s : Session) (b : Book) (caller hold : ℕ) → Related s b
    → Related (new_block s caller hold) (enter_object b block)
unfolding enter_object
related-block s b caller hold r =
    subst (λ (h : ℕ). Related (new_block s caller hold) (entry b h block)) (sym (next_handle s b r)) (block_at s b caller hold r)

-- a task in a state v, waiting or resolved
module _ (h v : ℕ) (early : v ≤ resolved) (state column : ℕ → ℕ) (z : column h ≡ 0) where
  ended-new : EndedAgree state column → EndedAgree (set state h v) column
  ended-new x i =
      at_set (λ (w : ℕ). Marks (w ≡ ended) (column i)) state h v i
      (λ p. (λ e. absurd (omega arith), λ n. ap column (sym p) ∙ z)) (λ n. x i)

  starts_new : StartsAgree state column → StartsAgree (set state h v) column
  starts_new x i =
      at_set (λ (w : ℕ). Marks ((running ≤ w) × (w ≤ ended)) (column i)) state h v i
      (λ p. (λ e. absurd (omega arith), λ n. ap column (sym p) ∙ z)) (λ n. x i)

  tasks_new : (kind : ℕ → ℕ) → TasksDestroyed kind state column → TasksDestroyed (set kind h task) (set state h v) column
  tasks_new kind x i = go (places h i)
    where
      go : Places h i → set kind h task i ≡ task → Marks (set state h v i ≡ task_destroyed) (column i)
      go (one p) = rw (set_here state h v i p) (λ k. (λ e. absurd (omega arith), λ n. ap column (sym p) ∙ z))
      go (two n) = rw (set_there kind h task i n, set_there state h v i n) (x i)

-- none of its slots is satisfied
slots-new : (n c v : ℕ) (kind state slots mark payload times brought : ℕ → ℕ)
    → ((j : ℕ) → j < c → mark (at (n + 1) j) ≡ 0) → ((j : ℕ) → times (at (n + 1) j) ≡ 0)
    → SlotsAgree n kind state slots mark payload times brought
    → SlotsAgree (n + 1) (set kind (n + 1) task) (set state (n + 1) v) (set slots (n + 1) c) mark payload times brought
slots-new n c v kind state slots mark payload times brought none blank x h l = go (places (n + 1) h)
  where
    Says : ℕ → ℕ → ℕ → Type 0
    Says k w m =
        k ≡ task → (w ≡ task_destroyed → ⊥) → (j : ℕ) → j < m
        → SlotAgrees (mark (at h j)) (payload (at h j)) (times (at h j)) (brought (at h j))

    go : Places (n + 1) h → Says (set kind (n + 1) task h) (set state (n + 1) v h) (set slots (n + 1) c h)
    go (one p) =
        rw (set_here slots (n + 1) c h p)
        (λ k d j m. (λ e. subst (λ (i : ℕ). times (at i j) ≡ 0) p (blank j), λ e. absurd (unmarked j m e)))
      where
        unmarked : (j : ℕ) → j < c → 1 ≤ mark (at h j) → ⊥
        unmarked j m e = let q : mark (at h j) ≡ 0 = subst (λ (i : ℕ). mark (at i j) ≡ 0) p (none j m) in omega arith
    go (two q) =
        rw (set_there kind (n + 1) task h q, set_there state (n + 1) v h q, set_there slots (n + 1) c h q) (x h (omega arith))

-- what the book enters of a task under handle h
abbrev task_at : Book → ℕ → ℕ → ℕ → ℕ → ℕ → Book
task_at b h caller count finish out =
    enter (enter (enter (enter (entry b h task) Column.Maker h caller) Column.Count h count) Column.Finish h finish)
    Column.Output h out

task-at : (s : Session) (b : Book) (caller n count finish out : ℕ) → n ≡ count → n ≤ 16
    → ((j : ℕ) → j < n → s SlotMark (at (s Objects 0 + 1) j) ≡ 0) → Related s b
    → (h : ℕ) → h ≡ s Objects 0 + 1
    → Related (new_task s caller (s Objects 0 + 1) n finish out) (task_at b h caller count finish out)
unfolding new_task new put enter test
task-at s b caller n count finish out same few none r h' p' =
    rw p'
    (related-made task r
    (outside_put {f = TaskOutput} (s Objects 0 + 1) out (outside_put {f = TaskFinish} (s Objects 0 + 1) finish (outside_put {f = TaskSlots} (s Objects 0 + 1) n (outside_put {f = TaskCreator} (s Objects 0 + 1) caller (outside_put {f = TaskState} (s Objects 0 + 1) (choose (n ≐ 0) resolved waiting) (outside_same _))))))
    (outside_enter {c = Column.Output} (s Objects 0 + 1) out (outside_enter {c = Column.Finish} (s Objects 0 + 1) finish (outside_enter {c = Column.Count} (s Objects 0 + 1) count (outside_enter {c = Column.Maker} (s Objects 0 + 1) caller (outside_same _))))) shows)
  where
    h : ℕ
    h = s Objects 0 + 1

    v : ℕ
    v = choose (n ≐ 0) resolved waiting

    early : Case (n ≐ 0) → v ≤ resolved
    early (it_does e) = let q = choose_yes (n ≐ 0) resolved waiting e in omega arith
    early (it_does_not e) = let q = choose_no (n ≐ 0) resolved waiting e in omega arith

    low : v ≤ resolved
    low = early (decide (n ≐ 0))

    shows : (c : Clause)
        → Made task (TaskOutput ∷ TaskFinish ∷ TaskSlots ∷ TaskCreator ∷ TaskState ∷ [])
        (Column.Output ∷ Column.Finish ∷ Column.Count ∷ Column.Maker ∷ []) c
        → says c (new_task s caller h n finish out) (task_at b h caller count finish out)
    shows same_makers due = set_same h caller (r same_makers)
    shows same_finishes due = set_same h finish (r same_finishes)
    shows same_outputs due = set_same h out (r same_outputs)
    shows task_counts due =
        counts-new task (s Kind) (b Column.Count) (s TaskSlots) h count n (sym same) (r task_counts)
    shows template_counts due =
        counts-other task template (s Kind) (b Column.Count) (s TemplateCount) h count (omega arith) (r template_counts)
    shows slots_agree due =
        slots-new (s Objects 0) n v (s Kind) (s TaskState) (s TaskSlots) (s SlotMark) (s SlotPayload) (b Column.Times)
        (b Column.Brought) none (λ j. r blank_times (at h j) (omega arith)) (r slots_agree)
    shows ended_agree due = ended-new h v low (s TaskState) (b Column.Ended) (r blank_ended h (omega arith)) (r ended_agree)
    shows starts_agree due =
        starts_new h v low (s TaskState) (b Column.Starts) (r blank_starts h (omega arith)) (r starts_agree)
    shows tasks_destroyed due =
        tasks_new h v low (s TaskState) (b Column.Destroyed) (r blank_destroyed h (omega arith)) (s Kind) (r tasks_destroyed)
    shows same_objects x' = elim x' [ ]
    shows Rattle.laws.specs.Relation.same_links x'' = elim x'' [ ]
    shows same_kinds x3 = elim x3 [ ]
    shows same_types x4 = elim x4 [ ]
    shows Rattle.laws.specs.Relation.same_sources x5 = elim x5 [ ]
    shows Rattle.laws.specs.Relation.same_targets x6 = elim x6 [ ]
    shows Rattle.laws.specs.Relation.same_slots x7 = elim x7 [ ]
    shows blocks_destroyed x8 = elim x8 [ ]
    shows fired_has x9 = elim x9 [ ]
    shows open_has x10 = elim x10 [ ]
    shows satisfied_agree x11 = elim x11 [ ]
    shows Rattle.laws.specs.Relation.struck_agree x12 = elim x12 [ ]
    shows blank_kinds x13 = elim x13 [ ]
    shows blank_times x14 = elim x14 [ ]
    shows blank_satisfied x15 = elim x15 [ ]
    shows blank_has x16 = elim x16 [ ]
    shows blank_starts x17 = elim x17 [ ]
    shows blank_ended x18 = elim x18 [ ]
    shows blank_destroyed x19 = elim x19 [ ]
    shows Rattle.laws.specs.Relation.blank_struck x20 = elim x20 [ ]

-- the book's task before its output event
abbrev task_entry : Book → ℕ → ℕ → ℕ → ℕ → ℕ → Book
task_entry b caller tm n finish out =
    task_at b (b Column.Objects 0 + 1) caller (choose (n ≐ unknown_count) (b Column.Count tm) n) finish out

module _ (s : Session) (b : Book) (caller tm n finish out : ℕ) (c : Checked (task_checks s caller tm n finish out))
    (k : Holds (kept s)) (r : Related s b) where
  slot-count : ℕ
  slot-count = task_slots s tm n

  few : slot-count ≤ 16
  unfolding slot-count
  few = (c 12).0

  same_count : slot-count ≡ choose (n ≐ unknown_count) (b Column.Count tm) n
  unfolding slot-count
  same_count = ap (λ (m : ℕ). choose (n ≐ unknown_count) m n) (sym (r template_counts tm (c 10)))

  unmarked : (j : ℕ) → j < slot-count → s SlotMark (at (s Objects 0 + 1) j) ≡ 0
  unmarked j l =
      let f = few in
      let room = c 20 in
      (by_name s k free_slots (s Objects 0 + 1) (omega arith) (omega arith) j (omega arith)).1.0

  related-new_task : Related (new_task s caller (s Objects 0 + 1) slot-count finish out) (task_entry b caller tm n finish out)
  unfolding enter_object
  related-new_task =
      task-at s b caller slot-count (choose (n ≐ unknown_count) (b Column.Count tm) n) finish out same_count few unmarked r
      (b Column.Objects 0 + 1) (next_handle s b r)

  pub related-task : Related (make_task s caller (task_slots s tm n) finish out) (enter_task b caller tm n finish out)
  unfolding make_task enter_task new_task new put enter enter_object test slot-count
  related-task = go (decide (out ≐ 1))
    where
      t : Session
      t = new_task s caller (s Objects 0 + 1) (task_slots s tm n) finish out

      e : Book
      e = task_entry b caller tm n finish out

      t' : Session
      t' = new_event t (s Objects 0 + 1 + 1) output 0

      e' : Book
      e' = enter (enter_object e event) Column.EventType (b Column.Objects 0 + 1 + 1) output

      go : Case (out ≐ 1) → Related (choose (out ≐ 1) t' t) (choose (out ≐ 1) e' e)
      go (it_does y) =
          rw (choose_yes (out ≐ 1) t' t y, choose_yes (out ≐ 1) e' e y) (related-event t e output 0 related-new_task)
      go (it_does_not y) = rw (choose_no (out ≐ 1) t' t y, choose_no (out ≐ 1) e' e y) related-new_task
