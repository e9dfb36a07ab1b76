-- A delivery (operation 9) keeps a session kept: a counted event goes with the last of its links (Expire); the link is marked, and its
-- slot satisfied or the delivery dropped.
use Prim.Native.Nat.{ℕ, ◌+◌, ◌≤◌, ◌<◌}
use Rattle.std.specs.Prelude.{◌≡◌, refl, ◌⊎◌}
use Rattle.std.proofs.Math.Path.{ap}
use Rattle.std.proofs.Common.{sym, ◌∙◌, inl, inr, arith}
use mathlib.Core.List.{[], ◌∷◌}
use Rattle.std.proofs.Math.Decide.{dec_lt}
use Rattle.session.specs.Table.{Session, put}
use Rattle.session.specs.declared.Field.TheVariants.{Links, Dropped, Kind, TaskState, TaskSlots, EventPayload, SlotMark}
use Rattle.session.specs.declared.Field.TheVariants.{LinkSource, LinkTarget, LinkSlot, LinkState}
use Rattle.rules.specs.Formula.{Holds, Formula.◌≐◌, Formula.◌≼◌, Formula.◌or◌}
use Rattle.rules.specs.FormulaLaws.{Case, decide, choose_yes, choose_no, Case.it_does, Case.it_does_not}
use Rattle.session.specs.Names.{template, task, event, block, ended, task_destroyed, ready, delivered}
use Rattle.rules.specs.Reading.{at, is_kind, is_gone, is_user_event}
use Rattle.rules.specs.Checks.{deliver_checks}
use Rattle.rules.specs.Effects.{satisfy, satisfy_slot, satisfy_event, drops, expire, bring, deliver}
use Rattle.rules.specs.Sound.{is_payload, task_part, slot, leads_to, unclaimed, claimed}
use Rattle.laws.specs.Places.{put-here}
use Rattle.laws.specs.Met.{Checked}
use Rattle.laws.specs.Outside.{outside_same, outside_put}
use Rattle.laws.specs.Frame.{AllOf, DueOf, Shown.due}
use Rattle.laws.specs.Rows.{Name, says}
use Rattle.laws.specs.Rows.Name.{counts, task_parts, event_parts, slots, links, one_link, states, dropped, settled}
use Rattle.laws.specs.Keeping.{Due, kept_by, Kept}
use Rattle.laws.specs.Conjuncts.{claimed_says, claimed_row, claimed_by_name, claimed_lasts, event_by_name, link_row}
use Rattle.laws.specs.Conjuncts.{unclaimed_by_name, Claimed, Claimed.mode_low, Claimed.mode_high, Claimed.waits}
use Rattle.laws.specs.Conjuncts.{Claimed.brought, Event.has_payload}
use Rattle.laws.specs.Conjuncts.Linked.{source_made, source_event, target_made, target_kind, has_slot_lem}
use Rattle.laws.specs.SlotPlaces.{task-slot}
use Rattle.laws.specs.Apart.{whole}
use Rattle.laws.specs.Standing.{made_low, slot_of, link_at_lem, waits as must-wait}
use Rattle.laws.specs.FillSlot.{Vacant, fill_keeps}
use Rattle.laws.specs.MarkLink.{handed, Expired, mark_apart, mark_dropped_more}
use Rattle.laws.specs.Expire.{expired, expire_keeps, still-checked}
use Rattle.laws.specs.SatisfyEvent.{satisfy_event_keeps}

-- what a link brings
abbrev pub brings : Session → ℕ → ℕ
brings s l = s EventPayload (s LinkSource l)

-- the session with link l delivered and dropped
abbrev pub thrown : Session → ℕ → Session
thrown s l = put (handed s l) Dropped 0 (s Dropped 0 + 1)

-- the three things that a delivery can do
pub data Delivered (s : Session) (l : ℕ) : Type 0 where
  drops_it : Holds (drops s (s LinkTarget l) (s LinkSlot l)) → bring s l ≡ thrown s l → Delivered s l
  fills_task : (Holds (drops s (s LinkTarget l) (s LinkSlot l)) → ⊥) → s Kind (s LinkTarget l) ≡ task
      → bring s l ≡ satisfy_slot (handed s l) (s LinkTarget l) (s LinkSlot l) (brings s l) → Delivered s l
  fills_event : (Holds (drops s (s LinkTarget l) (s LinkSlot l)) → ⊥) → (s Kind (s LinkTarget l) ≡ task → ⊥)
      → bring s l ≡ satisfy_event (handed s l) (s LinkTarget l) (s LinkSlot l) (brings s l) → Delivered s l

pub delivery : (s : Session) (l : ℕ) → Delivered s l
unfolding bring satisfy put
delivery s l = go (decide (drops s d j)) (decide (is_kind s task d))
  where
    d : ℕ
    d = s LinkTarget l

    j : ℕ
    j = s LinkSlot l

    slot-filled : Session
    slot-filled = satisfy_slot (handed s l) d j (brings s l)

    event-filled : Session
    event-filled = satisfy_event (handed s l) d j (brings s l)

    taken : (Holds (drops s d j) → ⊥) → bring s l ≡ satisfy (handed s l) d j (brings s l)
    taken n = choose_no (drops s d j) (thrown s l) (satisfy (handed s l) d j (brings s l)) n

    go : Case (drops s d j) → Case (is_kind s task d) → Delivered s l
    go (it_does x) k = drops_it x (choose_yes (drops s d j) (thrown s l) (satisfy (handed s l) d j (brings s l)) x)
    go (it_does_not n) (it_does k) = fills_task n k (taken n ∙ choose_yes (is_kind s task d) slot-filled event-filled k)
    go (it_does_not n) (it_does_not k) = fills_event n k (taken n ∙ choose_no (is_kind s task d) slot-filled event-filled k)

module _ (s : Session) (l : ℕ) (low : 1 ≤ l) (high : l ≤ s Links 0) (was : s LinkState l ≡ ready) (last : Expired s l)
    (r : Kept s) where
  link : AllOf (link_row l) s
  link = link_at_lem s l (r links) (low, high)

  slot-was : Holds (slot s (s LinkTarget l) (s LinkSlot l))
  slot-was =
      slot_of s (s LinkTarget l) (s LinkSlot l) (r counts) (r task_parts) (r slots) (link target_made) (link has_slot_lem)

  -- what it brings is a payload
  payload : Holds (is_payload s (brings s l))
  payload =
      let e = s LinkSource l in
      event_by_name e s (link source_event) (r event_parts e (made_low s e (r counts) (link source_made))) has_payload

  -- the slot of a task that the link leads to
  module _ (k : s Kind (s LinkTarget l) ≡ task) where
    is_slot : s LinkSlot l < s TaskSlots (s LinkTarget l)
    is_slot = task-slot s (s LinkTarget l) (s LinkSlot l) k (link has_slot_lem)

    -- it is unsatisfied, as the link is not delivered
    empty : s SlotMark (at (s LinkTarget l) (s LinkSlot l)) ≡ 0
    empty = go (decide (1 ≼ s SlotMark (at (s LinkTarget l) (s LinkSlot l))))
      where
        go : Case (1 ≼ s SlotMark (at (s LinkTarget l) (s LinkSlot l))) → s SlotMark (at (s LinkTarget l) (s LinkSlot l)) ≡ 0
        go (it_does m) =
            let t = link target_made in
            let o = r settled (s LinkTarget l) (omega arith) (s LinkSlot l) is_slot m in
            absurd (o (l, omega arith, ((refl, refl), λ e. omega arith)))
        go (it_does_not n) = omega arith

    -- and claimed
    is-claimed : Holds (claimed s (s LinkTarget l) (s LinkSlot l))
    is-claimed = go slot-was
      where
        either : Holds (unclaimed s (s LinkTarget l) (s LinkSlot l)) ⊎ Holds (claimed s (s LinkTarget l) (s LinkSlot l))
            → Holds (claimed s (s LinkTarget l) (s LinkSlot l))
        either (inl x) = absurd ((unclaimed_by_name s _ _ x).none_leads l (omega arith) (refl, refl))
        either (inr x) = x

        go : Holds (slot s (s LinkTarget l) (s LinkSlot l)) → Holds (claimed s (s LinkTarget l) (s LinkSlot l))
        go (inl x) = either x.1.1
        go (inr x) = let b = x.0 k in let i = is_slot in absurd (omega arith)

    -- no other link leads to it
    only : (i : ℕ) → i < s Links 0 + 1 → Holds (leads_to s (s LinkTarget l) (s LinkSlot l) i) → l ≡ i
    only i b x = go (dec_lt i l) (dec_lt l i)
      where
        go : Dec (i < l) → Dec (l < i) → l ≡ i
        go (yes m) n = absurd (r one_link l (omega arith) i m k x)
        go (no m) (yes n) = absurd (r one_link i b l n (rw x.0 k) (sym x.0, sym x.1))
        go (no m) (no n) = omega arith

    vacant : (Holds (is_gone s (s LinkTarget l)) → ⊥) → Vacant (handed s l) (s LinkTarget l) (s LinkSlot l) (brings s l)
    unfolding put
    vacant remains =
        record {
          is_made = link target_made;
          is_task = k;
          is_slot = is_slot;
          is_waiting =
              must-wait s (s LinkTarget l) (s LinkSlot l) (r counts) (r task_parts) (r states) (link target_made) k remains is_slot
              empty;
          has_mode = claimed_by_name (s LinkTarget l) (s LinkSlot l) s is-claimed mode_low;
          has_range = claimed_by_name (s LinkTarget l) (s LinkSlot l) s is-claimed mode_high;
          empty = empty;
          payload = payload;
          no_more = λ i b x. put-here s LinkState l i delivered (only i b x);
          brought = λ i b x. ap (brings s) (only i b x);
        }

    -- a task whose deliveries are dropped is destroyed
    gone_destroyed : Holds (drops s (s LinkTarget l) (s LinkSlot l)) → s TaskState (s LinkTarget l) ≡ task_destroyed
    unfolding drops
    gone_destroyed x = go x (r task_parts (s LinkTarget l) (made_low s (s LinkTarget l) (r counts) (link target_made)))
      where
        other : {A : Type 0} (n : ℕ) → (task ≡ n → ⊥) → s Kind (s LinkTarget l) ≡ n → A
        other n d e = absurd (d (sym k ∙ e))

        over : Holds (task_part s (s LinkTarget l)) → ended ≤ s TaskState (s LinkTarget l)
            → Case (s TaskState (s LinkTarget l) ≐ ended) → s TaskState (s LinkTarget l) ≡ task_destroyed
        over (inr y) e c = absurd (y.0 k)
        over (inl y) e (it_does_not n) = omega arith
        over (inl y) e (it_does z) =
            let m = link target_made in
            let full = (r states (s LinkTarget l) (omega arith) k).1.0 (omega arith) in
            let f : 1 ≤ s SlotMark (at (s LinkTarget l) (s LinkSlot l)) = full (s LinkSlot l) is_slot in
            let g = empty in
            absurd (omega arith)

        go : Holds (drops s (s LinkTarget l) (s LinkSlot l)) → Holds (task_part s (s LinkTarget l))
            → s TaskState (s LinkTarget l) ≡ task_destroyed
        go (inl (inl y)) p = other template (λ e. omega arith) y.0
        go (inl (inr (inl y))) p = over p y.1 (decide (s TaskState (s LinkTarget l) ≐ ended))
        go (inl (inr (inr (inl y)))) p = other event (λ e. omega arith) y.0
        go (inl (inr (inr (inr y)))) p = other block (λ e. omega arith) y.0
        go (inr (inl y)) p = other event (λ e. omega arith) y.0
        go (inr (inr y)) p = other event (λ e. omega arith) y.0

  -- where the link leads to an event or to a destroyed task, its slot stays in order as it is marked
  mark-slot : (s Kind (s LinkTarget l) ≡ task → s TaskState (s LinkTarget l) ≡ task_destroyed)
      → Holds (slot (handed s l) (s LinkTarget l) (s LinkSlot l))
  unfolding put
  mark-slot over = go slot-was
    where
      d : ℕ
      d = s LinkTarget l

      j : ℕ
      j = s LinkSlot l

      go : Holds (slot s (s LinkTarget l) (s LinkSlot l)) → Holds (slot (handed s l) (s LinkTarget l) (s LinkSlot l))
      go (inr x) = inr x
      go (inl x) =
          inl (x.0, (x.1.0, inr (claimed_lasts d j (outside_put {f = LinkState} l delivered (outside_same s)) (is-claimed x.0) shows)))
        where
          shows : (n : Claimed) → DueOf (claimed_row d j) (LinkState ∷ []) n → Holds (claimed_says d j n (handed s l))
          shows waits due = inl (over x.0)
          shows brought due = λ m. let z = empty x.0 in absurd (omega arith)
          shows mode_low x3 = elim x3 [ ]
          shows mode_high x4 = elim x4 [ ]
          shows Rattle.laws.specs.Conjuncts.mark_high x5 = elim x5 [ ]
          shows Rattle.laws.specs.Conjuncts.payload x6 = elim x6 [ ]
          shows Rattle.laws.specs.Conjuncts.empty x7 = elim x7 [ ]

  mark_keeps : (s Kind (s LinkTarget l) ≡ task → s TaskState (s LinkTarget l) ≡ task_destroyed) → Kept (handed s l)
  mark_keeps over = whole (handed s l) (s LinkTarget l) (s LinkSlot l) (mark_apart s l low high was last r) (mark-slot over)

  drops_keeps : Holds (drops s (s LinkTarget l) (s LinkSlot l)) → Kept (thrown s l)
  unfolding put
  drops_keeps x =
      kept_by [] (outside_put {f = Dropped} 0 (s Dropped 0 + 1) (outside_same (handed s l))) (mark_keeps (λ k. gone_destroyed k x)) shows
    where
      shows : (n : Name) → Due (Dropped ∷ []) [] n → Holds (says n (thrown s l))
      shows dropped due = mark_dropped_more s l low high was last r
      shows counts x'' = elim x'' [ ]
      shows Rattle.laws.specs.Rows.kinds x3 = elim x3 [ ]
      shows Rattle.laws.specs.Rows.template_parts x4 = elim x4 [ ]
      shows task_parts x5 = elim x5 [ ]
      shows event_parts x6 = elim x6 [ ]
      shows Rattle.laws.specs.Rows.block_parts x7 = elim x7 [ ]
      shows Rattle.laws.specs.Rows.roots x8 = elim x8 [ ]
      shows Rattle.laws.specs.Rows.creators x9 = elim x9 [ ]
      shows Rattle.laws.specs.Rows.outputs x10 = elim x10 [ ]
      shows slots x11 = elim x11 [ ]
      shows links x12 = elim x12 [ ]
      shows one_link x13 = elim x13 [ ]
      shows states x14 = elim x14 [ ]
      shows Rattle.laws.specs.Rows.blocks x15 = elim x15 [ ]
      shows Rattle.laws.specs.Rows.compatible x16 = elim x16 [ ]
      shows Rattle.laws.specs.Rows.latches x17 = elim x17 [ ]
      shows Rattle.laws.specs.Rows.counted_events x18 = elim x18 [ ]
      shows Rattle.laws.specs.Rows.free_slots x19 = elim x19 [ ]
      shows Rattle.laws.specs.Rows.free_links x20 = elim x20 [ ]
      shows settled x21 = elim x21 [ ]

  fills_task_keeps : (Holds (drops s (s LinkTarget l) (s LinkSlot l)) → ⊥) → s Kind (s LinkTarget l) ≡ task
      → Kept (satisfy_slot (handed s l) (s LinkTarget l) (s LinkSlot l) (brings s l))
  unfolding put drops
  fills_task_keeps n k =
      fill_keeps (handed s l) (s LinkTarget l) (s LinkSlot l) (brings s l) (vacant k (λ g. n (inl g)))
      (mark_apart s l low high was last r)

  fills_event_keeps : (Holds (drops s (s LinkTarget l) (s LinkSlot l)) → ⊥) → (s Kind (s LinkTarget l) ≡ task → ⊥)
      → Kept (satisfy_event (handed s l) (s LinkTarget l) (s LinkSlot l) (brings s l))
  unfolding put drops
  fills_event_keeps n k =
      satisfy_event_keeps (handed s l) (s LinkTarget l) (s LinkSlot l) (brings s l) (link target_made) (user (link target_kind))
      (λ g. n (inl g)) (link has_slot_lem) (λ g. n (inr (inr g))) payload (mark_keeps (λ t. absurd (k t)))
    where
      user : Holds (is_kind s task (s LinkTarget l) or is_user_event s (s LinkTarget l)) → Holds (is_user_event s (s LinkTarget l))
      user (inl t) = absurd (k t)
      user (inr x) = x

bring_keeps : (s : Session) (l : ℕ) → Checked (deliver_checks s l) → Expired s l → Kept s → Kept (bring s l)
bring_keeps s l m x r = go (delivery s l)
  where
    go : Delivered s l → Kept (bring s l)
    go (drops_it y e) = rw e (drops_keeps s l (m 9).0 (m 9).1 (m 16) x r y)
    go (fills_task n k e) = rw e (fills_task_keeps s l (m 9).0 (m 9).1 (m 16) x r n k)
    go (fills_event n k e) = rw e (fills_event_keeps s l (m 9).0 (m 9).1 (m 16) x r n k)

pub deliver_keeps : (s : Session) (l : ℕ) → Checked (deliver_checks s l) → Kept s → Kept (deliver s l)
unfolding deliver
deliver_keeps s l m r = bring_keeps (expire s l) l (still-checked s l m) (expired s l) (expire_keeps s l m r)
