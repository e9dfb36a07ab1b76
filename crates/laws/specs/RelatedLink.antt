-- A dependence: a link is entered under the same number, or its slot is satisfied now. A satisfaction of an event by a call.
use Rattle.std.specs.Prelude.{ℕ, ◌+◌, ◌≤◌, ◌<◌, ◌≡◌, refl, [], ◌∷◌}
use Rattle.std.proofs.Common.{ap, sym, ◌∙◌, inl, inr, arith}
use Rattle.session.specs.Table.{Session, put, at}
use Rattle.session.specs.declared.Field.TheVariants.{Links, Kind, TaskState, EventState, SlotMode, SlotMark, LinkState}
use Rattle.session.specs.Names.{task, event, waiting, fired, link_open, ready, delivered}
use Rattle.rules.specs.Formula.{Formula, Holds, test, choose, Formula.◌≐◌, Formula.◌or◌}
use Rattle.rules.specs.FormulaLaws.{Case, decide, choose_yes, choose_no, Case.it_does, Case.it_does_not}
use Rattle.rules.specs.Reading.{made, is_kind, is_user_event, is_gone, has_slot}
use Rattle.rules.specs.Checks.{dependence_checks, satisfy_checks}
use Rattle.rules.specs.Effects.{new_link, depend, satisfy_event, satisfy_slot}
use Rattle.rules.specs.Sound.{kept}
use Rattle.rules.specs.Book.{Book, enter, enter_link, satisfies, Column}
use Rattle.laws.specs.Met.{Checked}
use Rattle.laws.specs.Rows.Name.{counts, task_parts, event_parts, slots, states}
use Rattle.laws.specs.Keeping.{Kept}
use Rattle.laws.specs.ByName.{by_name}
use Rattle.laws.specs.SlotPlaces.{task-slot, low_slot}
use Rattle.laws.specs.Standing.{made_low, open_unless, open_latch, waits, slot_of, unclaimed-mark}
use Rattle.laws.specs.Dependence.{claimed_for, Depended, depended}
use Rattle.laws.specs.Dependence.Depended.{links_task, links_event, fills_task, fills_event}
use Rattle.laws.specs.Outside.{outside_same, outside_put, outside_within}
use Rattle.laws.specs.Writes.{link_fields, new_link-writes}
use Rattle.laws.specs.BookEntries.{outside_enter}
use Rattle.laws.specs.Frame.{Shown.due}
use Rattle.laws.specs.Relation.{Marks, StruckAgree, Clause, says, Related, Due, related_by, related_unread}
use Rattle.laws.specs.Relation.Clause.{same_links, same_kinds, same_sources, same_targets, same_slots, struck_agree}
use Rattle.laws.specs.Relation.Clause.{blank_struck}
use Rattle.laws.specs.Places.{Places, places, Places.one, Places.two}
use Rattle.laws.specs.Column.{set, set_here, set_there, set_same, blank-more}
use Rattle.laws.specs.RelatedFire.{related-satisfy_event}
use Rattle.laws.specs.RelatedSlot.{related-satisfy_slot}

-- modes are no part of the book
related-claim : (s : Session) (b : Book) (t j mode : ℕ) → Related s b → Related (claimed_for s t j mode) b
related-claim s b t j mode r = related_unread (outside_within (outside_put {f = SlotMode} _ _ (outside_same s)) refl) r

-- a new link is not struck out
struck_new : (n v : ℕ) (state column : ℕ → ℕ) → v ≤ ready → column (n + 1) ≡ 0 → StruckAgree n state column
    → StruckAgree (n + 1) (set state (n + 1) v) column
struck_new n v state column low z x l a c = go (places (n + 1) l)
  where
    go : Places (n + 1) l → Marks (delivered ≤ set state (n + 1) v l) (column l)
    go (one e) = rw (set_here state (n + 1) v l e) (λ d. absurd (omega arith), λ d. ap column (sym e) ∙ z)
    go (two d) = rw (set_there state (n + 1) v l d) (x l a (omega arith))

-- what the book enters of link l
abbrev link_at : Book → ℕ → ℕ → ℕ → ℕ → Book
link_at b l source d j =
    enter (enter (enter (enter b Column.Links 0 l) Column.LinkSource l source) Column.LinkTarget l d) Column.LinkSlot l j

link_at_lem : (s : Session) (b : Book) (source d j : ℕ) → Related s b → (l : ℕ) → l ≡ s Links 0 + 1
    → Related (new_link s source d j) (link_at b l source d j)
unfolding new_link put enter test
link_at_lem s b source d j r l' p =
    rw p
    (related_by (new_link-writes s source d j)
    (outside_enter {c = Column.LinkSlot} (s Links 0 + 1) j (outside_enter {c = Column.LinkTarget} (s Links 0 + 1) d (outside_enter {c = Column.LinkSource} (s Links 0 + 1) source (outside_enter {c = Column.Links} 0 (s Links 0 + 1) (outside_same b))))) r shows)
  where
    l : ℕ
    l = s Links 0 + 1

    f : Formula
    f = s EventState source ≐ fired

    v : ℕ
    v = choose f ready link_open

    low : Case f → v ≤ ready
    low (it_does y) = let e = choose_yes f ready link_open y in omega arith
    low (it_does_not n) = let e = choose_no f ready link_open n in omega arith

    shows : (c : Clause)
        → Due link_fields (Column.LinkSlot ∷ Column.LinkTarget ∷ Column.LinkSource ∷ Column.Links ∷ []) c
        → says c (new_link s source d j) (link_at b l source d j)
    shows same_links due = refl
    shows same_sources due = set_same l source (r same_sources)
    shows same_targets due = set_same l d (r same_targets)
    shows same_slots due = set_same l j (r same_slots)
    shows struck_agree due =
        struck_new (s Links 0) v (s LinkState) (b Column.Struck) (low (decide f)) (r blank_struck l (omega arith))
        (r struck_agree)
    shows blank_struck due = blank-more (omega arith) (r blank_struck)
    shows Rattle.laws.specs.Relation.same_objects x' = elim x' [ ]
    shows same_kinds x'' = elim x'' [ ]
    shows Rattle.laws.specs.Relation.same_types x3 = elim x3 [ ]
    shows Rattle.laws.specs.Relation.same_makers x4 = elim x4 [ ]
    shows Rattle.laws.specs.Relation.same_finishes x5 = elim x5 [ ]
    shows Rattle.laws.specs.Relation.same_outputs x6 = elim x6 [ ]
    shows Rattle.laws.specs.Relation.task_counts x7 = elim x7 [ ]
    shows Rattle.laws.specs.Relation.template_counts x8 = elim x8 [ ]
    shows Rattle.laws.specs.Relation.slots_agree x9 = elim x9 [ ]
    shows Rattle.laws.specs.Relation.ended_agree x10 = elim x10 [ ]
    shows Rattle.laws.specs.Relation.starts_agree x11 = elim x11 [ ]
    shows Rattle.laws.specs.Relation.tasks_destroyed x12 = elim x12 [ ]
    shows Rattle.laws.specs.Relation.blocks_destroyed x13 = elim x13 [ ]
    shows Rattle.laws.specs.Relation.fired_has x14 = elim x14 [ ]
    shows Rattle.laws.specs.Relation.open_has x15 = elim x15 [ ]
    shows Rattle.laws.specs.Relation.satisfied_agree x16 = elim x16 [ ]
    shows Rattle.laws.specs.Relation.blank_kinds x17 = elim x17 [ ]
    shows Rattle.laws.specs.Relation.blank_times x18 = elim x18 [ ]
    shows Rattle.laws.specs.Relation.blank_satisfied x19 = elim x19 [ ]
    shows Rattle.laws.specs.Relation.blank_has x20 = elim x20 [ ]
    shows Rattle.laws.specs.Relation.blank_starts x21 = elim x21 [ ]
    shows Rattle.laws.specs.Relation.blank_ended x22 = elim x22 [ ]
    shows Rattle.laws.specs.Relation.blank_destroyed x23 = elim x23 [ ]

pub related-new_link : (s : Session) (b : Book) (source d j : ℕ) → Related s b
    → Related (new_link s source d j) (enter_link b source d j)
unfolding enter_link
related-new_link s b source d j r =
    link_at_lem s b source d j r (b Column.Links 0 + 1) (ap (λ (n : ℕ). n + 1) (r same_links))

-- an event that is not gone is satisfied
related_user : (s : Session) (b : Book) (e j p : ℕ) → Kept s → Holds (made s e) → Holds (is_user_event s e)
    → (Holds (is_gone s e) → ⊥) → Related s b → Related (satisfy_event s e j p) (satisfies b e j p)
related_user s b e j p x m user there r =
    related-satisfy_event s b e j p m.1 user.0 user.1 (open_unless s e (x counts) (x event_parts) m user.0 there)
    (λ ty. open_latch s e (x counts) (x event_parts) m user.0 ty there) r

pub related_satisfaction : (s : Session) (b : Book) (caller e p j : ℕ) → Checked (satisfy_checks s caller e p j)
    → Holds (kept s) → Related s b → Related (satisfy_event s e j p) (satisfies b e j p)
related_satisfaction s b caller e p j c k r = related_user s b e j p (by_name s k) (c 9).0 (c 10).0 (c 11).0 r

-- what the book enters of a dependence
abbrev pub dependence_entry : Book → ℕ → ℕ → ℕ → Book
dependence_entry b source d j = choose (b Column.Kind source ≐ event) (enter_link b source d j) (satisfies b d j source)

module _ (s : Session) (b : Book) (caller source d j mode : ℕ) (c : Checked (dependence_checks s caller source d j mode))
    (k : Holds (kept s)) (r : Related s b) where
  x : Kept s
  x = by_name s k

  target_made : Holds (made s d)
  target_made = (c 9).1

  target_kind : Holds (is_kind s task d or is_user_event s d)
  target_kind = (c 10).1

  target_there : Holds (is_gone s d) → ⊥
  target_there = (c 11).1

  has_slot_lem : Holds (has_slot s d j)
  has_slot_lem = c 12

  unclaimed : s Kind d ≡ task → s SlotMode (at d j) ≡ 0
  unclaimed = c 13

  empty : s Kind d ≡ task → s SlotMark (at d j) ≡ 0
  empty t = unclaimed-mark s d j (slot_of s d j (x counts) (x task_parts) (x slots) target_made has_slot_lem) (unclaimed t)

  low : j < 16
  low = low_slot s d j (x task_parts d (made_low s d (x counts) target_made)) has_slot_lem

  is_user : (s Kind d ≡ task → ⊥) → Holds (is_kind s task d or is_user_event s d) → Holds (is_user_event s d)
  is_user n (inl t) = absurd (n t)
  is_user n (inr u) = u

  enters_link : s Kind source ≡ event → dependence_entry b source d j ≡ enter_link b source d j
  enters_link e =
      choose_yes (b Column.Kind source ≐ event) (enter_link b source d j) (satisfies b d j source) (r same_kinds source ∙ e)

  enters_slot : (s Kind source ≡ event → ⊥) → dependence_entry b source d j ≡ satisfies b d j source
  enters_slot n =
      choose_no (b Column.Kind source ≐ event) (enter_link b source d j) (satisfies b d j source)
      (λ e. n (sym (r same_kinds source) ∙ e))

  fills : s Kind d ≡ task → Related (satisfy_slot (claimed_for s d j mode) d j source) (satisfies b d j source)
  unfolding put
  fills t =
      let has = task-slot s d j t has_slot_lem in
      let w : s TaskState d ≡ waiting =
      waits s d j (x counts) (x task_parts) (x states) target_made t target_there has (empty t) in
      related-satisfy_slot (claimed_for s d j mode) b d j source target_made.1 low (related-claim s b d j mode r) t has
      (omega arith) (empty t)

  pub related-dependence : Related (depend s source d j mode) (dependence_entry b source d j)
  related-dependence = go (depended s source d j mode)
    where
      go : Depended s source d j mode → Related (depend s source d j mode) (dependence_entry b source d j)
      go (links_task e t q) =
          rw (q, enters_link e) (related-new_link (claimed_for s d j mode) b source d j (related-claim s b d j mode r))
      go (links_event e t q) = rw (q, enters_link e) (related-new_link s b source d j r)
      go (fills_task e t q) = rw (q, enters_slot e) (fills t)
      go (fills_event e t q) =
          rw (q, enters_slot e) (related_user s b d j source x target_made (is_user t target_kind) target_there r)
