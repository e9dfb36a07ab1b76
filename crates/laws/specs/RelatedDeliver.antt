-- A delivery: the link is struck out, and its destination satisfied with what its event has. What the session drops the book
-- counts, of objects that the relation says nothing of: destroyed tasks, and events destroyed unfired.
use Rattle.std.specs.Prelude.{ℕ, ◌+◌, ◌≤◌, ◌<◌, ◌≡◌, refl, ◌⊎◌, [], ◌∷◌}
use Rattle.std.proofs.Common.{ap, sym, subst, ◌∙◌, inl, inr}
use native.Mathlib.Omega.{arith}
use Rattle.session.specs.Table.{Session, put, at}
use Rattle.session.specs.declared.Field.TheVariants.{Objects, Links, Dropped, Kind, TaskState, TaskSlots, EventState}
use Rattle.session.specs.declared.Field.TheVariants.{EventType, SlotMark, LinkSource, LinkTarget, LinkSlot, LinkState}
use Rattle.session.specs.Names.{task, event, waiting, ended, task_destroyed, event_open, fired, destroyed_unfired}
use Rattle.session.specs.Names.{object_places, destroyed_fired, latch, ready, delivered}
use Rattle.rules.specs.Formula.{Holds, test, Formula.◌≐◌, Formula.◌or◌}
use Rattle.rules.specs.EventTypes.{gone_when_fired}
use Rattle.rules.specs.EventTypeLaws.{fires_no_latch}
use Rattle.rules.specs.FormulaLaws.{Case, decide, Case.it_does, Case.it_does_not}
use Rattle.rules.specs.Reading.{made, is_kind, is_user_event, is_gone, has_slot}
use Rattle.rules.specs.Checks.{deliver_checks}
use Rattle.rules.specs.Effects.{expire, bring, deliver, drops, satisfy_slot, satisfy_event}
use Rattle.rules.specs.Sound.{kept}
use Rattle.rules.specs.Book.{Book, enter, enter_deliver, satisfies, Column}
use Rattle.laws.specs.Met.{Checked}
use Rattle.laws.specs.Outside.{outside_same, outside_put, outside_within}
use Rattle.laws.specs.BookEntries.{outside_enter}
use Rattle.laws.specs.Frame.{AllOf, Shown.due}
use Rattle.laws.specs.Rows.Name.{counts, task_parts, event_parts, slots, links, states, settled}
use Rattle.laws.specs.Keeping.{but, Kept}
use Rattle.laws.specs.ByName.{by_name, kept_of}
use Rattle.laws.specs.Writes.{expire-writes}
use Rattle.laws.specs.Expire.{StateAfter, state-after, source_fired, gone_fired, still-checked, expire_keeps}
use Rattle.laws.specs.Expire.StateAfter.{goes, stays}
use Rattle.laws.specs.Conjuncts.{event_by_name, Event.state_high, task_by_name}
use Rattle.laws.specs.Conjuncts.{Task.state_high as task-high}
use Rattle.laws.specs.Conjuncts.{link_row, state_by_name, State.later_full}
use Rattle.laws.specs.Conjuncts.Linked.{target_made as leads-made, target_kind as leads-kind}
use Rattle.laws.specs.Conjuncts.Linked.{has_slot_lem as leads-slot}
use Rattle.laws.specs.SlotPlaces.{task-slot, low_slot, part-slots}
use Rattle.laws.specs.Standing.{made_low, open_unless, open_latch, waits, slot_of, awaited_mark, link_at_lem}
use Rattle.laws.specs.Holding.{task-gone}
use Rattle.laws.specs.MarkLink.{handed}
use Rattle.laws.specs.Deliver.{brings, thrown, Delivered, delivery}
use Rattle.laws.specs.Deliver.Delivered.{drops_it, fills_task, fills_event}
use Rattle.laws.specs.Relation.{HadFired, Clause, says, Related, Due, related_by, related_unread}
use Rattle.laws.specs.Relation.Clause.{same_kinds, same_types, same_sources, same_targets, same_slots, fired_has}
use Rattle.laws.specs.Relation.Clause.{open_has, satisfied_agree, struck_agree, blank_satisfied, blank_has, blank_struck}
use Rattle.laws.specs.Column.{set_there, blank-set, marks-entered, unfired}
use Rattle.laws.specs.RelatedFire.{related-satisfy_event, BookSatisfied, book-satisfied}
use Rattle.laws.specs.RelatedFire.BookSatisfied.{nothing_entered, first_entered}
use Rattle.laws.specs.RelatedSlot.{related-satisfy_slot, related-dropped}

-- the link is struck out
related-handed : (s : Session) (b : Book) (l : ℕ) → l ≤ s Links 0 → Related s b
    → Related (handed s l) (enter b Column.Struck l 1)
unfolding put enter test
related-handed s b l m r =
    related_by (outside_put {f = LinkState} _ _ (outside_same s)) (outside_enter {c = Column.Struck} l 1 (outside_same b)) r shows
  where
    shows : (c : Clause) → Due (LinkState ∷ []) (Column.Struck ∷ []) c → says c (handed s l) (enter b Column.Struck l 1)
    shows struck_agree due =
        λ i a c. marks-entered (λ (w : ℕ). delivered ≤ w) (s LinkState) (b Column.Struck) l delivered 1 (omega arith) refl
        (r struck_agree i a c)
    shows blank_struck due = blank-set l 1 m (r blank_struck)
    shows Rattle.laws.specs.Relation.same_objects x' = elim x' [ ]
    shows Rattle.laws.specs.Relation.same_links x'' = elim x'' [ ]
    shows same_kinds x3 = elim x3 [ ]
    shows same_types x4 = elim x4 [ ]
    shows Rattle.laws.specs.Relation.same_makers x5 = elim x5 [ ]
    shows Rattle.laws.specs.Relation.same_finishes x6 = elim x6 [ ]
    shows Rattle.laws.specs.Relation.same_outputs x7 = elim x7 [ ]
    shows same_sources x8 = elim x8 [ ]
    shows same_targets x9 = elim x9 [ ]
    shows same_slots x10 = elim x10 [ ]
    shows Rattle.laws.specs.Relation.task_counts x11 = elim x11 [ ]
    shows Rattle.laws.specs.Relation.template_counts x12 = elim x12 [ ]
    shows Rattle.laws.specs.Relation.slots_agree x13 = elim x13 [ ]
    shows Rattle.laws.specs.Relation.ended_agree x14 = elim x14 [ ]
    shows Rattle.laws.specs.Relation.starts_agree x15 = elim x15 [ ]
    shows Rattle.laws.specs.Relation.tasks_destroyed x16 = elim x16 [ ]
    shows Rattle.laws.specs.Relation.blocks_destroyed x17 = elim x17 [ ]
    shows fired_has x18 = elim x18 [ ]
    shows open_has x19 = elim x19 [ ]
    shows satisfied_agree x20 = elim x20 [ ]
    shows Rattle.laws.specs.Relation.blank_kinds x21 = elim x21 [ ]
    shows Rattle.laws.specs.Relation.blank_times x22 = elim x22 [ ]
    shows blank_satisfied x23 = elim x23 [ ]
    shows blank_has x24 = elim x24 [ ]
    shows Rattle.laws.specs.Relation.blank_starts x25 = elim x25 [ ]
    shows Rattle.laws.specs.Relation.blank_ended x26 = elim x26 [ ]
    shows Rattle.laws.specs.Relation.blank_destroyed x27 = elim x27 [ ]

-- the dropped count is no part of the book
related-thrown : (s : Session) (b : Book) (l : ℕ) → Related (handed s l) b → Related (thrown s l) b
related-thrown s b l r = related_unread (outside_within (outside_put {f = Dropped} _ _ (outside_same (handed s l))) refl) r

-- why an event loses a satisfaction: it is a latch, or has fired, or was destroyed unfired
abbrev Loses : Session → ℕ → Type 0
Loses s d = (s EventType d ≡ latch) ⊎ (HadFired (s EventState d) ⊎ (s EventState d ≡ destroyed_unfired))

-- a satisfaction of an event that is lost
module _ (s : Session) (b : Book) (d j p : ℕ) (made : d ≤ s Objects 0) (kind : s Kind d ≡ event) (r : Related s b) where
  -- the book takes a first payload of an event that was destroyed unfired
  related-late : s EventState d ≡ destroyed_unfired → Related s (enter (enter b Column.Satisfied d 1) Column.Has d p)
  unfolding enter test
  related-late gone = related_by (outside_same s) (outside_enter {c = Column.Has} d p (outside_enter {c = Column.Satisfied} d 1 (outside_same b))) r shows
    where
      not_open : (e : ℕ) → s EventState e ≡ event_open → d ≡ e → ⊥
      not_open e o q = let z : s EventState e ≡ destroyed_unfired = rw (← q) gone in omega arith

      not-fired : (e : ℕ) → HadFired (s EventState e) → d ≡ e → ⊥
      not-fired e f q =
          unfired destroyed_unfired (omega arith) (omega arith) (subst HadFired (ap (s EventState) (sym q) ∙ gone) f)

      shows : (c : Clause) → Due [] (Column.Has ∷ Column.Satisfied ∷ []) c
          → says c s (enter (enter b Column.Satisfied d 1) Column.Has d p)
      shows fired_has due = λ e f. set_there (b Column.Has) d p e (not-fired e f) ∙ r fired_has e f
      shows open_has due = λ e o. set_there (b Column.Has) d p e (not_open e o) ∙ r open_has e o
      shows satisfied_agree due =
          λ e l. (
            λ o. set_there (b Column.Satisfied) d 1 e (not_open e o) ∙ (r satisfied_agree e l).0 o,
            λ f. set_there (b Column.Satisfied) d 1 e (not-fired e f) ∙ (r satisfied_agree e l).1 f,
          )
      shows blank_satisfied due = blank-set d 1 made (r blank_satisfied)
      shows blank_has due = blank-set d p made (r blank_has)
      shows Rattle.laws.specs.Relation.same_objects x' = elim x' [ ]
      shows Rattle.laws.specs.Relation.same_links x'' = elim x'' [ ]
      shows same_kinds x3 = elim x3 [ ]
      shows same_types x4 = elim x4 [ ]
      shows Rattle.laws.specs.Relation.same_makers x5 = elim x5 [ ]
      shows Rattle.laws.specs.Relation.same_finishes x6 = elim x6 [ ]
      shows Rattle.laws.specs.Relation.same_outputs x7 = elim x7 [ ]
      shows same_sources x8 = elim x8 [ ]
      shows same_targets x9 = elim x9 [ ]
      shows same_slots x10 = elim x10 [ ]
      shows Rattle.laws.specs.Relation.task_counts x11 = elim x11 [ ]
      shows Rattle.laws.specs.Relation.template_counts x12 = elim x12 [ ]
      shows Rattle.laws.specs.Relation.slots_agree x13 = elim x13 [ ]
      shows Rattle.laws.specs.Relation.ended_agree x14 = elim x14 [ ]
      shows Rattle.laws.specs.Relation.starts_agree x15 = elim x15 [ ]
      shows Rattle.laws.specs.Relation.tasks_destroyed x16 = elim x16 [ ]
      shows Rattle.laws.specs.Relation.blocks_destroyed x17 = elim x17 [ ]
      shows struck_agree x18 = elim x18 [ ]
      shows Rattle.laws.specs.Relation.blank_kinds x19 = elim x19 [ ]
      shows Rattle.laws.specs.Relation.blank_times x20 = elim x20 [ ]
      shows Rattle.laws.specs.Relation.blank_starts x21 = elim x21 [ ]
      shows Rattle.laws.specs.Relation.blank_ended x22 = elim x22 [ ]
      shows Rattle.laws.specs.Relation.blank_destroyed x23 = elim x23 [ ]
      shows blank_struck x24 = elim x24 [ ]

  related_lost : Loses s d → Related s (satisfies b d j p)
  related_lost why = go (book-satisfied b d j p (λ e. let q = r same_kinds d in omega arith)) why
    where
      go : BookSatisfied b d j p → Loses s d → Related s (satisfies b d j p)
      go (nothing_entered x q) w = rw q r
      go (first_entered y m q) (inl ty) = absurd (fires_no_latch _ y (r same_types d ∙ ty))
      go (first_entered y m q) (inr (inl f)) = absurd (m ((r satisfied_agree d (rw (r same_types d) at y)).1 f))
      go (first_entered n m q) (inr (inr g)) = rw q (related-late g)

-- why a delivery to an event is dropped
why_lost : (s : Session) (d j : ℕ) → s Kind d ≡ event → s EventState d ≤ destroyed_fired → Holds (drops s d j) → Loses s d
unfolding drops
why_lost s d j k top (inl (inl x)) = let e = x.0 in absurd (omega arith)
why_lost s d j k top (inl (inr (inl x))) = let e = x.0 in absurd (omega arith)
why_lost s d j k top (inl (inr (inr (inl x)))) = go x.1
  where
    late : Case (s EventState d ≐ destroyed_unfired) → destroyed_unfired ≤ s EventState d → Loses s d
    late (it_does e) l = inr (inr e)
    late (it_does_not n) l = inr (inl (inr (omega arith)))

    go : (destroyed_unfired ≤ s EventState d) ⊎ ((s EventState d ≡ fired) × Holds (gone_when_fired (s EventType d))) → Loses s d
    go (inl l) = late (decide (s EventState d ≐ destroyed_unfired)) l
    go (inr y) = inr (inl (inl y.0))
why_lost s d j k top (inl (inr (inr (inr x)))) = let e = x.0 in absurd (omega arith)
why_lost s d j k top (inr (inl x)) = inr (inl (inl x.1.1))
why_lost s d j k top (inr (inr x)) = inl x.1.0

module _ (s : Session) (b : Book) (l : ℕ) (c : Checked (deliver_checks s l)) (k : Holds (kept s)) (r : Related s b) where
  x : Kept s
  x = by_name s k

  d : ℕ
  d = s LinkTarget l

  j : ℕ
  j = s LinkSlot l

  is : AllOf (link_row l) s
  is = link_at_lem s l (x links) (c 9)

  was : s LinkState l ≡ ready
  was = c 16

  target_made : Holds (made s d)
  unfolding d
  target_made = is leads-made

  target_kind : Holds (is_kind s task d or is_user_event s d)
  unfolding d
  target_kind = is leads-kind

  has_slot_lem : Holds (has_slot s d j)
  unfolding d j
  has_slot_lem = is leads-slot

  target_low : d < s Objects 0 + 1
  target_low = let m = target_made.1 in omega arith

  target_place : d < object_places
  target_place = made_low s d (x counts) target_made

  low : j < 16
  low = low_slot s d j (x task_parts d target_place) has_slot_lem

  -- the source has fired, so the book has its payload
  brought : b Column.Has (b Column.LinkSource l) ≡ brings s l
  brought = ap (b Column.Has) (r same_sources l) ∙ r fired_has (s LinkSource l) (source_fired s l c (but (settled ∷ []) x))

  struck : Book
  struck = enter b Column.Struck l 1

  -- the book after
  abbrev filled : Book
  filled = satisfies struck d j (brings s l)

  entry-is : enter_deliver b l ≡ filled
  unfolding enter_deliver struck d j
  entry-is = rw (r same_targets l, r same_slots l, brought)

  handed-over : Related (handed s l) struck
  unfolding struck
  handed-over = related-handed s b l (c 9).1 r

  -- the slot of a task still waits for the link
  pending : s LinkState l ≡ delivered → ⊥
  pending e = let w = was in omega arith

  task_destroyed_lem : s Kind d ≡ task → Holds (drops s d j) → s TaskState d ≡ task_destroyed
  unfolding drops d j
  task_destroyed_lem t (inr (inl y)) = let e = y.0 in absurd (omega arith)
  task_destroyed_lem t (inr (inr y)) = let e = y.0 in absurd (omega arith)
  task_destroyed_lem t (inl y) = go (task-gone s d t y) (decide (s TaskState d ≐ ended))
    where
      has : j < s TaskSlots d
      has = task-slot s d j t has_slot_lem

      full-slot : s TaskState d ≡ ended → 1 ≤ s SlotMark (at d j)
      full-slot e = state_by_name d s (x states d target_low t) later_full (omega arith, omega arith) j has

      high : s TaskState d ≤ task_destroyed
      high = task_by_name d s t (x task_parts d target_place) task-high

      go : ended ≤ s TaskState d → Case (s TaskState d ≐ ended) → s TaskState d ≡ task_destroyed
      go m (it_does e) =
          absurd (x settled d target_low j has (full-slot e) (l, omega (arith, (c 9).1), ((refl, refl), pending)))
      go m (it_does_not n) = let q = high in omega arith

  drops-task : s Kind d ≡ task → Holds (drops s d j) → Related (handed s l) filled
  unfolding put
  drops-task t y =
      let n = x counts in
      related-dropped (handed s l) struck d j (brings s l) target_made.1 low handed-over t (task_destroyed_lem t y)
      (λ h l. part-slots s h (x task_parts h (omega arith)))

  drops-event : Holds (is_user_event s d) → Holds (drops s d j) → Related (handed s l) filled
  unfolding put
  drops-event u y =
      related_lost (handed s l) struck d j (brings s l) target_made.1 u.0 handed-over
      (why_lost s d j u.0 (event_by_name d s u.0 (x event_parts d target_place) state_high) y)

  dropped : Holds (drops s d j) → Holds (is_kind s task d or is_user_event s d) → Related (handed s l) filled
  dropped y (inl t) = drops-task t y
  dropped y (inr u) = drops-event u y

  there : (Holds (drops s d j) → ⊥) → Holds (is_gone s d) → ⊥
  unfolding drops
  there n g = n (inl g)

  fills_slot : (Holds (drops s d j) → ⊥) → s Kind d ≡ task → Related (satisfy_slot (handed s l) d j (brings s l)) filled
  unfolding put d j
  fills_slot n t =
      let has : j < s TaskSlots d = task-slot s d j t has_slot_lem in
      let here = slot_of s d j (x counts) (x task_parts) (x slots) target_made has_slot_lem in
      let empty : s SlotMark (at d j) ≡ 0 =
      awaited_mark s d j l here t (there n) (omega (arith, (c 9).1)) (refl, refl) pending in
      let w : s TaskState d ≡ waiting = waits s d j (x counts) (x task_parts) (x states) target_made t (there n) has empty in
      related-satisfy_slot (handed s l) struck d j (brings s l) target_made.1 low handed-over t has (omega arith) empty

  fills_user : (Holds (drops s d j) → ⊥) → Holds (is_user_event s d)
      → Related (satisfy_event (handed s l) d j (brings s l)) filled
  unfolding put
  fills_user n u =
      related-satisfy_event (handed s l) struck d j (brings s l) target_made.1 u.0 u.1
      (open_unless s d (x counts) (x event_parts) target_made u.0 (there n))
      (λ ty. open_latch s d (x counts) (x event_parts) target_made u.0 ty (there n)) handed-over

  is_user : (s Kind d ≡ task → ⊥) → Holds (is_kind s task d or is_user_event s d) → Holds (is_user_event s d)
  is_user n (inl t) = absurd (n t)
  is_user n (inr u) = u

  related_brought : Related (bring s l) (enter_deliver b l)
  unfolding d j
  related_brought = go (delivery s l)
    where
      go : Delivered s l → Related (bring s l) (enter_deliver b l)
      go (drops_it y q) = rw (q, entry-is) (related-thrown s filled l (dropped y target_kind))
      go (fills_task n t q) = rw (q, entry-is) (fills_slot n t)
      go (fills_event n t q) = rw (q, entry-is) (fills_user n (is_user t target_kind))

-- A counted event that goes with the last of its links had fired: the book has it satisfied, with the same payload.
related-expire : (s : Session) (b : Book) (l : ℕ) → Checked (deliver_checks s l) → Kept s → Related s b → Related (expire s l) b
unfolding expire put
related-expire s b l c x r = related_by (expire-writes s l) (outside_same b) r shows
  where
    -- what was open, or had fired, before
    still_open : (e : ℕ) → StateAfter s l e → expire s l EventState e ≡ event_open → s EventState e ≡ event_open
    still_open e (stays q) o = sym q ∙ o
    still_open e (goes p y q) o = absurd (omega arith)

    had_fired_lem : (e : ℕ) → StateAfter s l e → HadFired (expire s l EventState e) → HadFired (s EventState e)
    had_fired_lem e (stays q) f = rw q at f
    had_fired_lem e (goes p y q) f = gone_fired s l c (but (settled ∷ []) x) e p

    shows : (k : Clause) → Due (EventState ∷ []) [] k → says k (expire s l) b
    shows fired_has due = λ e f. r fired_has e (had_fired_lem e (state-after s l e) f)
    shows open_has due = λ e o. r open_has e (still_open e (state-after s l e) o)
    shows satisfied_agree due =
        λ e t. let y = r satisfied_agree e t in
        (λ o. y.0 (still_open e (state-after s l e) o), λ f. y.1 (had_fired_lem e (state-after s l e) f))
    shows Rattle.laws.specs.Relation.same_objects x'' = elim x'' [ ]
    shows Rattle.laws.specs.Relation.same_links x3 = elim x3 [ ]
    shows same_kinds x4 = elim x4 [ ]
    shows same_types x5 = elim x5 [ ]
    shows Rattle.laws.specs.Relation.same_makers x6 = elim x6 [ ]
    shows Rattle.laws.specs.Relation.same_finishes x7 = elim x7 [ ]
    shows Rattle.laws.specs.Relation.same_outputs x8 = elim x8 [ ]
    shows same_sources x9 = elim x9 [ ]
    shows same_targets x10 = elim x10 [ ]
    shows same_slots x11 = elim x11 [ ]
    shows Rattle.laws.specs.Relation.task_counts x12 = elim x12 [ ]
    shows Rattle.laws.specs.Relation.template_counts x13 = elim x13 [ ]
    shows Rattle.laws.specs.Relation.slots_agree x14 = elim x14 [ ]
    shows Rattle.laws.specs.Relation.ended_agree x15 = elim x15 [ ]
    shows Rattle.laws.specs.Relation.starts_agree x16 = elim x16 [ ]
    shows Rattle.laws.specs.Relation.tasks_destroyed x17 = elim x17 [ ]
    shows Rattle.laws.specs.Relation.blocks_destroyed x18 = elim x18 [ ]
    shows struck_agree x19 = elim x19 [ ]
    shows Rattle.laws.specs.Relation.blank_kinds x20 = elim x20 [ ]
    shows Rattle.laws.specs.Relation.blank_times x21 = elim x21 [ ]
    shows blank_satisfied x22 = elim x22 [ ]
    shows blank_has x23 = elim x23 [ ]
    shows Rattle.laws.specs.Relation.blank_starts x24 = elim x24 [ ]
    shows Rattle.laws.specs.Relation.blank_ended x25 = elim x25 [ ]
    shows Rattle.laws.specs.Relation.blank_destroyed x26 = elim x26 [ ]
    shows blank_struck x27 = elim x27 [ ]

pub related_delivery : (s : Session) (b : Book) (l : ℕ) → Checked (deliver_checks s l) → Holds (kept s) → Related s b
    → Related (deliver s l) (enter_deliver b l)
unfolding deliver
related_delivery s b l c k r =
    related_brought (expire s l) b l (still-checked s l c) (kept_of (expire s l) (expire_keeps s l c (by_name s k)))
    (related-expire s b l c (by_name s k) r)
