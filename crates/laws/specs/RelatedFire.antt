-- Events fire: a latch and an output event with what the book has of them already, or has with the end; another with what it
-- is satisfied with.
use Rattle.std.specs.Prelude.{ℕ, ◌+◌, ◌≤◌, ◌≡◌}
use Rattle.std.proofs.Math.Path.{refl, sym}
use Rattle.std.proofs.Common.{ap, subst, ◌∙◌, inl, arith}
use mathlib.Core.List.{[], ◌∷◌}
use Rattle.session.specs.Table.{Session, put, change, at}
use Rattle.session.specs.declared.Field.TheVariants.{Objects, Links, Kind, EventState, EventType, EventPayload}
use Rattle.session.specs.declared.Field.TheVariants.{EventTally, LinkState}
use Rattle.session.specs.Names.{task, event, event_open, fired, latch, output, delivered}
use Rattle.rules.specs.Formula.{Formula, Holds, test, choose, Formula.◌≐◌, not, Formula.◌and◌}
use Rattle.rules.specs.EventTypes.{is_user_type, fires_at_first}
use Rattle.rules.specs.EventTypeLaws.{user_fires, fires_no_latch, fires_no_output}
use Rattle.rules.specs.FormulaLaws.{Case, decide, choose_yes, choose_no, Case.it_does, Case.it_does_not}
use Rattle.rules.specs.Effects.{fire, fire_one, fire_finished, finishes, satisfy_event}
use Rattle.rules.specs.Book.{Book, enter, satisfies, Column}
use Rattle.laws.specs.Outside.{outside_same, outside_put, outside_within}
use Rattle.laws.specs.Writes.{fire_fields, fire-writes, fire_one-writes}
use Rattle.laws.specs.BookEntries.{outside_enter}
use Rattle.laws.specs.Frame.{Shown.due}
use Rattle.laws.specs.Conjuncts.{finishes_by_name}
use Rattle.laws.specs.Firing.{EventAfter, event-after, EventAfter.fires_now, EventAfter.stays}
use Rattle.laws.specs.Firing.{LinkAfter, link_after, LinkAfter.ready_now, LinkAfter.as_was}
use Rattle.laws.specs.SatisfyEvent.{counted, EventSatisfied, event-satisfied, EventSatisfied.latch_counts}
use Rattle.laws.specs.SatisfyEvent.EventSatisfied.{latch_fires, nothing_more_lem, event_fires}
use Rattle.laws.specs.Relation.{Marks, HadFired, FiredHas, OpenHas, SatisfiedAgree, StruckAgree}
use Rattle.laws.specs.Relation.{Clause, says, Related, Due, related_by, related_unread}
use Rattle.laws.specs.Relation.Clause.{same_kinds, same_types, fired_has, open_has, satisfied_agree, struck_agree}
use Rattle.laws.specs.Relation.Clause.{blank_satisfied, blank_has}
use Rattle.laws.specs.Column.{set, set_here, set_there, blank-set, marks-told}

fired_not_open : fired ≡ event_open → ⊥
fired_not_open e = omega arith

-- what is said of events and links after a firing
module _ (s : Session) (fires : ℕ → Formula) (payload : ℕ → ℕ) where
  abbrev after : Session
  after = fire s fires payload

  fire-has : (has has' : ℕ → ℕ) → ((e : ℕ) → Holds (fires e) → has' e ≡ payload e)
      → ((e : ℕ) → (Holds (fires e) → ⊥) → has' e ≡ has e)
      → FiredHas (s EventState) (s EventPayload) has → FiredHas (after EventState) (after EventPayload) has'
  fire-has has has' now else x e h = go (event-after s fires payload e)
    where
      go : EventAfter s fires payload e → has' e ≡ after EventPayload e
      go (fires_now y a c) = now e y ∙ sym c
      go (stays n a c) = else e n ∙ x e (subst HadFired a h) ∙ sym c

  fire_open : (has has' : ℕ → ℕ) → ((e : ℕ) → (Holds (fires e) → ⊥) → has' e ≡ has e) → OpenHas (s EventState) has
      → OpenHas (after EventState) has'
  fire_open has has' else x e h = go (event-after s fires payload e)
    where
      go : EventAfter s fires payload e → has' e ≡ 0
      go (fires_now y a c) = absurd (fired_not_open (sym a ∙ h))
      go (stays n a c) = else e n ∙ x e (sym a ∙ h)

  fire-satisfied : (column column' : ℕ → ℕ)
      → ((e : ℕ) → Holds (fires e) → Holds (fires_at_first (s EventType e)) → column' e ≡ 1)
      → ((e : ℕ) → (Holds (fires e) → ⊥) → column' e ≡ column e)
      → SatisfiedAgree (s EventType) (s EventState) column → SatisfiedAgree (s EventType) (after EventState) column'
  fire-satisfied column column' now else x e l = go (event-after s fires payload e)
    where
      go : EventAfter s fires payload e
          → (after EventState e ≡ event_open → column' e ≡ 0) × (HadFired (after EventState e) → column' e ≡ 1)
      go (fires_now y a c) = (λ o. absurd (fired_not_open (sym a ∙ o)), λ f. now e y l)
      go (stays n a c) = (λ o. else e n ∙ (x e l).0 (sym a ∙ o), λ f. else e n ∙ (x e l).1 (subst HadFired a f))

  fire_struck : (n : ℕ) (column : ℕ → ℕ) → StruckAgree n (s LinkState) column → StruckAgree n (after LinkState) column
  fire_struck n column x l a c = go (link_after s fires payload l) (x l a c)
    where
      go : LinkAfter s fires payload l → Marks (delivered ≤ s LinkState l) (column l)
          → Marks (delivered ≤ after LinkState l) (column l)
      go (ready_now o f e) m = marks-told (λ d. absurd (omega arith)) (λ d. absurd (omega arith)) m
      go (as_was d e) m = rw e m

  -- open events that no satisfaction fires at first (latches, outputs) fire with 0, and the book has nothing to enter
  pub related-fire : (b : Book)
      → ((e : ℕ) → Holds (fires e)
      → (s EventState e ≡ event_open) × (payload e ≡ 0) × (Holds (fires_at_first (s EventType e)) → ⊥))
      → Related s b → Related (fire s fires payload) b
  unfolding fire change
  related-fire b may r = related_by (fire-writes s fires payload) (outside_same b) r shows
    where
      shows : (c : Clause) → Due fire_fields [] c → says c (fire s fires payload) b
      shows fired_has due =
          fire-has (b Column.Has) (b Column.Has) (λ e y. let m = may e y in r open_has e m.0 ∙ sym m.1) (λ e n. refl)
          (r fired_has)
      shows open_has due = fire_open (b Column.Has) (b Column.Has) (λ e n. refl) (r open_has)
      shows satisfied_agree due =
          fire-satisfied (b Column.Satisfied) (b Column.Satisfied)
          (λ e y l. absurd ((may e y).2 l)) (λ e n. refl) (r satisfied_agree)
      shows struck_agree due = fire_struck (s Links 0) (b Column.Struck) (r struck_agree)
      shows Rattle.laws.specs.Relation.same_objects x' = elim x' [ ]
      shows Rattle.laws.specs.Relation.same_links x'' = elim x'' [ ]
      shows same_kinds x3 = elim x3 [ ]
      shows same_types x4 = elim x4 [ ]
      shows Rattle.laws.specs.Relation.same_makers x5 = elim x5 [ ]
      shows Rattle.laws.specs.Relation.same_finishes x6 = elim x6 [ ]
      shows Rattle.laws.specs.Relation.same_outputs x7 = elim x7 [ ]
      shows Rattle.laws.specs.Relation.same_sources x8 = elim x8 [ ]
      shows Rattle.laws.specs.Relation.same_targets x9 = elim x9 [ ]
      shows Rattle.laws.specs.Relation.same_slots x10 = elim x10 [ ]
      shows Rattle.laws.specs.Relation.task_counts x11 = elim x11 [ ]
      shows Rattle.laws.specs.Relation.template_counts x12 = elim x12 [ ]
      shows Rattle.laws.specs.Relation.slots_agree x13 = elim x13 [ ]
      shows Rattle.laws.specs.Relation.ended_agree x14 = elim x14 [ ]
      shows Rattle.laws.specs.Relation.starts_agree x15 = elim x15 [ ]
      shows Rattle.laws.specs.Relation.tasks_destroyed x16 = elim x16 [ ]
      shows Rattle.laws.specs.Relation.blocks_destroyed x17 = elim x17 [ ]
      shows Rattle.laws.specs.Relation.blank_kinds x18 = elim x18 [ ]
      shows Rattle.laws.specs.Relation.blank_times x19 = elim x19 [ ]
      shows blank_satisfied x20 = elim x20 [ ]
      shows blank_has x21 = elim x21 [ ]
      shows Rattle.laws.specs.Relation.blank_starts x22 = elim x22 [ ]
      shows Rattle.laws.specs.Relation.blank_ended x23 = elim x23 [ ]
      shows Rattle.laws.specs.Relation.blank_destroyed x24 = elim x24 [ ]
      shows Rattle.laws.specs.Relation.blank_struck x25 = elim x25 [ ]

-- the finish tasks' output events
pub related-fire_finished : (s : Session) (b : Book) → Related s b → Related (fire_finished s) b
unfolding fire_finished
related-fire_finished s b r =
    related-fire s (finishes s) (λ e. 0) b
    (λ e y. let f = finishes_by_name s e y in (f.unfired, refl, λ g. fires_no_output _ g f.type)) r

-- one event fires with p, which is entered
module _ (s : Session) (b : Book) (e p : ℕ) (r : Related s b) where
  abbrev here : ℕ → Formula
  here k = k ≐ e

  -- what is entered of e is entered of no other
  else : (column : ℕ → ℕ) (v k : ℕ) → (k ≡ e → ⊥) → set column e v k ≡ column k
  else column v k n = set_there column e v k (λ q. n (sym q))

  one_has : FiredHas (fire_one s e p EventState) (fire_one s e p EventPayload) (set (b Column.Has) e p)
  unfolding fire_one
  one_has =
      fire-has s here (λ k. p) (b Column.Has) (set (b Column.Has) e p) (λ k q. set_here (b Column.Has) e p k (sym q))
      (else (b Column.Has) p) (r fired_has)

  one_open : OpenHas (fire_one s e p EventState) (set (b Column.Has) e p)
  unfolding fire_one
  one_open = fire_open s here (λ k. p) (b Column.Has) (set (b Column.Has) e p) (else (b Column.Has) p) (r open_has)

  one_struck : StruckAgree (s Links 0) (fire_one s e p LinkState) (b Column.Struck)
  unfolding fire_one
  one_struck = fire_struck s here (λ k. p) (s Links 0) (b Column.Struck) (r struck_agree)

-- a plain task's output event fires with the end's block
pub related_fire_output : (s : Session) (b : Book) (e p : ℕ) → e ≤ s Objects 0 → s EventType e ≡ output → Related s b
    → Related (fire_one s e p) (enter b Column.Has e p)
unfolding fire_one fire change enter test
related_fire_output s b e p m ty r = related_by (fire_one-writes s e p) (outside_enter {c = Column.Has} e p (outside_same b)) r shows
  where
    shows : (c : Clause) → Due fire_fields (Column.Has ∷ []) c → says c (fire_one s e p) (enter b Column.Has e p)
    shows fired_has due = one_has s b e p r
    shows open_has due = one_open s b e p r
    shows satisfied_agree due =
        fire-satisfied s (here s b e p r) (λ k. p) (b Column.Satisfied) (b Column.Satisfied)
        (λ k q l. absurd (fires_no_output _ l (ap (s EventType) q ∙ ty))) (λ k n. refl) (r satisfied_agree)
    shows struck_agree due = one_struck s b e p r
    shows blank_has due = blank-set e p m (r blank_has)
    shows Rattle.laws.specs.Relation.same_objects x' = elim x' [ ]
    shows Rattle.laws.specs.Relation.same_links x'' = elim x'' [ ]
    shows same_kinds x3 = elim x3 [ ]
    shows same_types x4 = elim x4 [ ]
    shows Rattle.laws.specs.Relation.same_makers x5 = elim x5 [ ]
    shows Rattle.laws.specs.Relation.same_finishes x6 = elim x6 [ ]
    shows Rattle.laws.specs.Relation.same_outputs x7 = elim x7 [ ]
    shows Rattle.laws.specs.Relation.same_sources x8 = elim x8 [ ]
    shows Rattle.laws.specs.Relation.same_targets x9 = elim x9 [ ]
    shows Rattle.laws.specs.Relation.same_slots x10 = elim x10 [ ]
    shows Rattle.laws.specs.Relation.task_counts x11 = elim x11 [ ]
    shows Rattle.laws.specs.Relation.template_counts x12 = elim x12 [ ]
    shows Rattle.laws.specs.Relation.slots_agree x13 = elim x13 [ ]
    shows Rattle.laws.specs.Relation.ended_agree x14 = elim x14 [ ]
    shows Rattle.laws.specs.Relation.starts_agree x15 = elim x15 [ ]
    shows Rattle.laws.specs.Relation.tasks_destroyed x16 = elim x16 [ ]
    shows Rattle.laws.specs.Relation.blocks_destroyed x17 = elim x17 [ ]
    shows Rattle.laws.specs.Relation.blank_kinds x18 = elim x18 [ ]
    shows Rattle.laws.specs.Relation.blank_times x19 = elim x19 [ ]
    shows blank_satisfied x20 = elim x20 [ ]
    shows Rattle.laws.specs.Relation.blank_starts x21 = elim x21 [ ]
    shows Rattle.laws.specs.Relation.blank_ended x22 = elim x22 [ ]
    shows Rattle.laws.specs.Relation.blank_destroyed x23 = elim x23 [ ]
    shows Rattle.laws.specs.Relation.blank_struck x24 = elim x24 [ ]

-- an event fires with what it is satisfied with
pub related_fire_event : (s : Session) (b : Book) (e p : ℕ) → e ≤ s Objects 0 → Related s b
    → Related (fire_one s e p) (enter (enter b Column.Satisfied e 1) Column.Has e p)
unfolding fire_one fire change enter test
related_fire_event s b e p m r =
    related_by (fire_one-writes s e p) (outside_enter {c = Column.Has} e p (outside_enter {c = Column.Satisfied} e 1 (outside_same b))) r shows
  where
    shows : (c : Clause) → Due fire_fields (Column.Has ∷ Column.Satisfied ∷ []) c
        → says c (fire_one s e p) (enter (enter b Column.Satisfied e 1) Column.Has e p)
    shows fired_has due = one_has s b e p r
    shows open_has due = one_open s b e p r
    shows satisfied_agree due =
        fire-satisfied s (here s b e p r) (λ k. p) (b Column.Satisfied) (set (b Column.Satisfied) e 1)
        (λ k q l. set_here (b Column.Satisfied) e 1 k (sym q)) (else s b e p r (b Column.Satisfied) 1) (r satisfied_agree)
    shows struck_agree due = one_struck s b e p r
    shows blank_satisfied due = blank-set e 1 m (r blank_satisfied)
    shows blank_has due = blank-set e p m (r blank_has)
    shows Rattle.laws.specs.Relation.same_objects x' = elim x' [ ]
    shows Rattle.laws.specs.Relation.same_links x'' = elim x'' [ ]
    shows same_kinds x3 = elim x3 [ ]
    shows same_types x4 = elim x4 [ ]
    shows Rattle.laws.specs.Relation.same_makers x5 = elim x5 [ ]
    shows Rattle.laws.specs.Relation.same_finishes x6 = elim x6 [ ]
    shows Rattle.laws.specs.Relation.same_outputs x7 = elim x7 [ ]
    shows Rattle.laws.specs.Relation.same_sources x8 = elim x8 [ ]
    shows Rattle.laws.specs.Relation.same_targets x9 = elim x9 [ ]
    shows Rattle.laws.specs.Relation.same_slots x10 = elim x10 [ ]
    shows Rattle.laws.specs.Relation.task_counts x11 = elim x11 [ ]
    shows Rattle.laws.specs.Relation.template_counts x12 = elim x12 [ ]
    shows Rattle.laws.specs.Relation.slots_agree x13 = elim x13 [ ]
    shows Rattle.laws.specs.Relation.ended_agree x14 = elim x14 [ ]
    shows Rattle.laws.specs.Relation.starts_agree x15 = elim x15 [ ]
    shows Rattle.laws.specs.Relation.tasks_destroyed x16 = elim x16 [ ]
    shows Rattle.laws.specs.Relation.blocks_destroyed x17 = elim x17 [ ]
    shows Rattle.laws.specs.Relation.blank_kinds x18 = elim x18 [ ]
    shows Rattle.laws.specs.Relation.blank_times x19 = elim x19 [ ]
    shows Rattle.laws.specs.Relation.blank_starts x20 = elim x20 [ ]
    shows Rattle.laws.specs.Relation.blank_ended x21 = elim x21 [ ]
    shows Rattle.laws.specs.Relation.blank_destroyed x22 = elim x22 [ ]
    shows Rattle.laws.specs.Relation.blank_struck x23 = elim x23 [ ]

-- a latch counts: the book says nothing of it
related-counted : (s : Session) (b : Book) (e j : ℕ) → Related s b → Related (counted s e j) b
related-counted s b e j r = related_unread (outside_within (outside_put {f = EventTally} _ _ (outside_same s)) refl) r

-- what the book does where an event is satisfied: one that fires at first keeps its first payload
pub data BookSatisfied (b : Book) (d j p : ℕ) : Type 0 where
  nothing_entered : (Holds (fires_at_first (b Column.EventType d)) → b Column.Satisfied d ≡ 1) → satisfies b d j p ≡ b
      → BookSatisfied b d j p
  first_entered : Holds (fires_at_first (b Column.EventType d)) → (b Column.Satisfied d ≡ 1 → ⊥)
      → satisfies b d j p ≡ enter (enter b Column.Satisfied d 1) Column.Has d p → BookSatisfied b d j p

pub book-satisfied : (b : Book) (d j p : ℕ) → (b Column.Kind d ≡ task → ⊥) → BookSatisfied b d j p
unfolding satisfies
book-satisfied b d j p other = go (decide f)
  where
    f : Formula
    f = fires_at_first (b Column.EventType d) and not (b Column.Satisfied d ≐ 1)

    first : Book
    first = enter (enter b Column.Satisfied d 1) Column.Has d p

    slot : Book
    slot = enter (enter b Column.Times (at d j) (b Column.Times (at d j) + 1)) Column.Brought (at d j) p

    before : Case (b Column.Satisfied d ≐ 1) → ((b Column.Satisfied d ≡ 1 → ⊥) → ⊥) → b Column.Satisfied d ≡ 1
    before (it_does y) n = y
    before (it_does_not m) n = absurd (n m)

    go : Case f → BookSatisfied b d j p
    go (it_does x) =
        first_entered x.0 x.1 (choose_no (b Column.Kind d ≐ task) slot (choose f first b) other ∙ choose_yes f first b x)
    go (it_does_not n) =
        nothing_entered (λ y. before (decide (b Column.Satisfied d ≐ 1)) (λ m. n (y, m)))
        (choose_no (b Column.Kind d ≐ task) slot (choose f first b) other ∙ choose_no f first b n)

-- an event that is not gone is satisfied, by a call or by a delivery
module _ (s : Session) (b : Book) (e j p : ℕ) (made : e ≤ s Objects 0) (kind : s Kind e ≡ event)
    (user : Holds (is_user_type (s EventType e))) (is_open : (s EventState e ≡ fired → ⊥) → s EventState e ≡ event_open)
    (latch-open : s EventType e ≡ latch → s EventState e ≡ event_open) (r : Related s b) where
  no_task : b Column.Kind e ≡ task → ⊥
  no_task q = let k = r same_kinds e in omega arith

  type_is : b Column.EventType e ≡ s EventType e
  type_is = r same_types e

  at_first : (s EventType e ≡ latch → ⊥) → Holds (fires_at_first (s EventType e))
  at_first = user_fires (s EventType e) user

  unsatisfied : (s EventType e ≡ latch → ⊥) → (s EventState e ≡ fired → ⊥) → b Column.Satisfied e ≡ 1 → ⊥
  unsatisfied n f q = let z = (r satisfied_agree e (at_first n)).0 (is_open f) in omega arith

  satisfied-once : (s EventType e ≡ latch → ⊥) → s EventState e ≡ fired → b Column.Satisfied e ≡ 1
  satisfied-once n f = (r satisfied_agree e (at_first n)).1 (inl f)

  latched : s EventType e ≡ latch → BookSatisfied b e j p → satisfies b e j p ≡ b
  latched ty (nothing_entered x q) = q
  latched ty (first_entered y m q) = absurd (fires_no_latch _ y (type_is ∙ ty))

  again : (s EventType e ≡ latch → ⊥) → s EventState e ≡ fired → BookSatisfied b e j p → satisfies b e j p ≡ b
  again n f (nothing_entered x q) = q
  again n f (first_entered m k q) = absurd (k (satisfied-once n f))

  first_time : (s EventType e ≡ latch → ⊥) → (s EventState e ≡ fired → ⊥) → BookSatisfied b e j p
      → satisfies b e j p ≡ enter (enter b Column.Satisfied e 1) Column.Has e p
  first_time n f (nothing_entered x q) = absurd (unsatisfied n f (x (rw type_is (at_first n))))
  first_time n f (first_entered m k q) = q

  fires_zero : s EventType e ≡ latch → Related (fire_one (counted s e j) e 0) b
  unfolding fire_one put
  fires_zero ty =
      related-fire (counted s e j) (λ k. k ≐ e) (λ k. 0) b
      (λ k q. (ap (s EventState) q ∙ latch-open ty, refl, λ y. fires_no_latch _ y (ap (s EventType) q ∙ ty)))
      (related-counted s b e j r)

  pub related-satisfy_event : Related (satisfy_event s e j p) (satisfies b e j p)
  related-satisfy_event = go (event-satisfied s e j p) (book-satisfied b e j p no_task)
    where
      go : EventSatisfied s e j p → BookSatisfied b e j p → Related (satisfy_event s e j p) (satisfies b e j p)
      go (latch_counts ty z x) y = rw (x, latched ty y) (related-counted s b e j r)
      go (latch_fires ty z x) y = rw (x, latched ty y) (fires_zero ty)
      go (nothing_more_lem ty f x) y = rw (x, again ty f y) r
      go (event_fires ty f x) y = rw (x, first_time ty f y) (related_fire_event s b e p made r)
