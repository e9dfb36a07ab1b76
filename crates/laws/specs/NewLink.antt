-- A link is made from an event that is open or fired, to a slot of an event, or to a slot of a task that was claimed for it: the
-- slot set apart comes in order, and so all rules hold. The count of the links is written, and the four fields of the new one.
use Prim.Native.Nat.{ℕ, ◌+◌, ◌≤◌, ◌<◌}
use Rattle.std.specs.Prelude.{◌≡◌, refl, ◌⊎◌, [], ◌∷◌}
use Rattle.std.proofs.Common.{ap, ◌∙◌}
use Rattle.std.proofs.Math.Path.{sym, subst}
use Rattle.std.proofs.Math.Logic.{inl, inr}
use native.Mathlib.Omega.{arith}
use Rattle.session.specs.Table.{Session, put}
use Rattle.session.specs.declared.Field.TheVariants.{Links, Dropped, Kind, TaskSlots, EventState, EventPayload, EventCount, SlotMode}
use Rattle.session.specs.declared.Field.TheVariants.{SlotMark, SlotPayload, LinkSource, LinkTarget, LinkSlot, LinkState}
use Rattle.session.specs.Names.{task, event, event_open, fired, link_open, ready, delivered, most_links}
use Rattle.rules.specs.Formula.{Formula, Holds, choose, count, Formula.◌≐◌, Formula.◌≼◌, Formula.◌or◌}
use Rattle.rules.specs.FormulaLaws.{Case, decide, choose_yes, choose_no, Case.it_does, Case.it_does_not}
use Rattle.rules.specs.Reading.{made, at, is_kind, is_user_event, has_slot, is_counted, leads_from, served_from, links_from, delivered_from}
use Rattle.rules.specs.Reading.{has_its_count}
use Rattle.rules.specs.Effects.{new_link}
use Rattle.rules.specs.Sound.{slot, leads_to, no_slot, unclaimed, claimed, is_link, no_link, pending, agrees}
use Rattle.laws.specs.Outside.{Outside}
use Rattle.laws.specs.Writes.{new_link-writes, link_fields}
use Rattle.laws.specs.Frame.{AllOf, DueOf, Shown.due}
use Rattle.laws.specs.Rows.{Name, says}
use Rattle.laws.specs.Rows.Name.{counts, slots, links, one_link, counted_events, dropped, free_links, settled}
use Rattle.laws.specs.Keeping.{Due, kept_by, Kept}
use Rattle.laws.specs.Conjuncts.{Claimed, claimed_says, claimed_row, claimed_by_name, claimed_of, claimed_lasts}
use Rattle.laws.specs.Conjuncts.Claimed.{mode_low, mode_high, mark_high, payload, empty, waits, brought}
use Rattle.laws.specs.Conjuncts.{link_row, link_of, open_with}
use Rattle.laws.specs.Conjuncts.Linked.{source_made, source_event, target_made, target_kind, has_slot_lem, agreeing}
use Rattle.laws.specs.Apart.{Apart, whole}
use Rattle.laws.specs.Places.{Places, places, put-here, put_there, Places.one, Places.two}
use Rattle.laws.specs.Counting.{count_same, count_next_yes, count_next_no}

-- the state that a new link has by its source
abbrev first : Session → ℕ → ℕ
first s source = choose (s EventState source ≐ fired) ready link_open

-- a link's fields: new at the next link, as they were elsewhere
data LinkAfter (s : Session) (source d j i : ℕ) : Type 0 where
  is_new : s Links 0 + 1 ≡ i → new_link s source d j LinkSource i ≡ source → new_link s source d j LinkTarget i ≡ d
      → new_link s source d j LinkSlot i ≡ j → new_link s source d j LinkState i ≡ first s source → LinkAfter s source d j i
  is_old : (s Links 0 + 1 ≡ i → ⊥) → new_link s source d j LinkSource i ≡ s LinkSource i
      → new_link s source d j LinkTarget i ≡ s LinkTarget i → new_link s source d j LinkSlot i ≡ s LinkSlot i
      → new_link s source d j LinkState i ≡ s LinkState i → LinkAfter s source d j i

link_after : (s : Session) (source d j i : ℕ) → LinkAfter s source d j i
unfolding new_link put
link_after s source d j i = go (places l i)
  where
    l : ℕ
    l = s Links 0 + 1

    go : Places l i → LinkAfter s source d j i
    go (one e) =
        is_new e (put-here s LinkSource l i source e) (put-here s LinkTarget l i d e) (put-here s LinkSlot l i j e)
        (put-here s LinkState l i (first s source) e)
    go (two n) =
        is_old n (put_there s LinkSource l i source n) (put_there s LinkTarget l i d n) (put_there s LinkSlot l i j n)
        (put_there s LinkState l i (first s source) n)

-- what the new link needs: room, an event that is open or fired and has not its count of links, and a slot
pub record Linkable (s : Session) (source d j : ℕ) : Type 0 where
  pub room : s Links 0 + 1 ≤ most_links
  pub source_made : Holds (made s source)
  pub source_event : s Kind source ≡ event
  pub source_state : s EventState source ≡ event_open ⊎ s EventState source ≡ fired
  pub source_spare : Holds (has_its_count s source) → ⊥
  pub target_made : Holds (made s d)
  pub target_kind : Holds (is_kind s task d or is_user_event s d)
  pub has_slot_lem : Holds (has_slot s d j)

-- the slot that it leads to: a task's, claimed and without a link, or an event's
pub data Spot (s : Session) (d j : ℕ) : Type 0 where
  of_a_task : s Kind d ≡ task → j < s TaskSlots d → 1 ≤ s SlotMode (at d j) → s SlotMode (at d j) ≤ 4 → s SlotMark (at d j) ≡ 0
      → s SlotPayload (at d j) ≡ 0 → ((l : ℕ) → l < s Links 0 + 1 → Holds (leads_to s d j l) → ⊥) → Spot s d j
  of_an_event : (s Kind d ≡ task → ⊥) → Holds (no_slot s (at d j)) → Spot s d j

-- it has no mark, and no link leads to a task's
spot_empty : (s : Session) (d j : ℕ) → Spot s d j → s SlotMark (at d j) ≡ 0
spot_empty s d j (of_a_task _ _ _ _ z _ _) = z
spot_empty s d j (of_an_event _ x) = x.1.0

spot_free : (s : Session) (d j : ℕ) → Spot s d j → s Kind d ≡ task → (l : ℕ) → l < s Links 0 + 1 → Holds (leads_to s d j l) → ⊥
spot_free s d j (of_a_task _ _ _ _ _ _ n) k = n
spot_free s d j (of_an_event n _) k = absurd (n k)

module _ (s : Session) (source d j : ℕ) (c : Linkable s source d j) (p : Spot s d j) (a : Apart s d j) where
  abbrev after : Session
  after = new_link s source d j

  writes : Outside s after link_fields
  writes = new_link-writes s source d j

  -- the new link's state is its source's
  first-agrees : Holds (agrees (first s source) (s EventState source))
  first-agrees = go c.source_state
    where
      go : s EventState source ≡ event_open ⊎ s EventState source ≡ fired
          → Holds (agrees (first s source) (s EventState source))
      go (inl o) =
          rw (choose_no (s EventState source ≐ fired) ready link_open (λ f. omega arith)) (
            omega arith,
            (omega arith, ((λ e. o, λ e. refl), (λ e. absurd (omega arith), λ e. absurd (omega arith)))),
          )
      go (inr o) =
          rw (choose_yes (s EventState source ≐ fired) ready link_open o) (
            omega arith,
            (
              omega arith,
              (
                (λ e. absurd (omega arith), λ e. absurd (omega arith)),
                (λ e. absurd (omega arith), λ e. absurd (omega arith)),
              ),
            ),
          )

  -- it is not delivered
  undelivered : first s source ≡ delivered → ⊥
  undelivered e = go c.source_state
    where
      go : s EventState source ≡ event_open ⊎ s EventState source ≡ fired → ⊥
      go (inl o) = let x = (open_with (first s source) (s EventState source) first-agrees).1 o in omega arith
      go (inr o) = let x = choose_yes (s EventState source ≐ fired) ready link_open o in omega arith

  new_link_lem : (i : ℕ) → (i < s Links 0 + 1 → i ≡ 0 ⊎ Holds (is_link s i)) → i < s Links 0 + 1 + 1
      → i ≡ 0 ⊎ Holds (is_link after i)
  unfolding new_link put
  new_link_lem i was l = go (link_after s source d j i)
    where
      go : LinkAfter s source d j i → i ≡ 0 ⊎ Holds (is_link after i)
      go (is_new e a b x y) = inr (link_of i after shows)
        where
          shows : AllOf (link_row i) after
          shows source_made = rw a c.source_made
          shows source_event = rw a c.source_event
          shows target_made = rw b c.target_made
          shows target_kind = rw b c.target_kind
          shows has_slot_lem = rw (b, x) c.has_slot_lem
          shows agreeing = rw (a, y) first-agrees
      go (is_old n a b x y) = rw (a, b, x, y) (was (omega arith))

  -- a link to another slot was there, and with the same source and state
  record Led (h k i : ℕ) : Type 0 where
    below : i < s Links 0 + 1
    leads : Holds (leads_to s h k i)
    source_same : after LinkSource i ≡ s LinkSource i
    state-same : after LinkState i ≡ s LinkState i

  was_led : (h k i : ℕ) → (d ≡ h → j ≡ k → ⊥) → i < s Links 0 + 1 + 1 → Holds (leads_to after h k i) → Led h k i
  was_led h k i n l x = go (link_after s source d j i)
    where
      go : LinkAfter s source d j i → Led h k i
      go (is_new _ _ b y _) = absurd (n (sym b ∙ x.0) (sym y ∙ x.1))
      go (is_old m a b y z) =
          record { below = omega arith; leads = (sym b ∙ x.0, sym y ∙ x.1); source_same = a; state-same = z }

  -- and a link that was there leads where it led
  still_led : (h k i : ℕ) → i < s Links 0 + 1 → Holds (leads_to s h k i)
      → Holds (leads_to after h k i) × (after LinkState i ≡ s LinkState i)
  still_led h k i l x = go (link_after s source d j i)
    where
      go : LinkAfter s source d j i → Holds (leads_to after h k i) × (after LinkState i ≡ s LinkState i)
      go (is_new e _ _ _ _) = absurd (omega arith)
      go (is_old _ _ b y z) = ((b ∙ x.0, y ∙ x.1), z)

  -- another slot is in order as it was
  module _ (h k : ℕ) (n : d ≡ h → j ≡ k → ⊥) where
    was-pending : Holds (pending after h k) → Holds (pending s h k)
    unfolding new_link put
    was-pending (i, l, (x, o)) =
        let w = was_led h k i n l x in
        (i, w.below, (w.leads, λ e. o (w.state-same ∙ e)))

    still-pending : Holds (pending s h k) → Holds (pending after h k)
    unfolding new_link put
    still-pending (i, l, (x, o)) = let w = still_led h k i l x in (i, omega arith, (w.0, λ e. o (sym w.1 ∙ e)))

    new-claimed : Holds (claimed s h k) → Holds (claimed after h k)
    unfolding new_link put
    new-claimed x = claimed_lasts h k writes x shows
      where
        waiting : Holds (claimed_says h k waits s) → Holds (claimed_says h k waits after)
        waiting (inl e) = inl e
        waiting (inr z) = inr (λ e. still-pending (z.0 e), λ o. z.1 (was-pending o))

        shows : (m : Claimed) → DueOf (claimed_row h k) link_fields m → Holds (claimed_says h k m after)
        shows waits due = waiting (claimed_by_name h k s x waits)
        shows brought due = λ m i l o.
            let w = was_led h k i n l o.0 in
            claimed_by_name h k s x brought m i w.below (w.leads, sym w.state-same ∙ o.1)
            ∙ ap (s EventPayload) (sym w.source_same)
        shows mode_low x'' = elim x'' [ ]
        shows mode_high x3 = elim x3 [ ]
        shows mark_high x4 = elim x4 [ ]
        shows payload x5 = elim x5 [ ]
        shows empty x6 = elim x6 [ ]

    new-unclaimed : Holds (unclaimed s h k) → Holds (unclaimed after h k)
    unfolding new_link put
    new-unclaimed (m, (z, (none, free))) =
        (m, (z, (none, λ y. let w = was_led h k y.0 n y.1 y.2 in free (y.0, w.below, w.leads))))

    new_elsewhere : Holds (slot s h k) → Holds (slot after h k)
    unfolding new_link put
    new_elsewhere (inr x) = inr x
    new_elsewhere (inl (t, (m, inr x))) = inl (t, (m, inr (new-claimed x)))
    new_elsewhere (inl (t, (m, inl x))) = inl (t, (m, inl (new-unclaimed x)))

  -- the slot that it leads to
  new-here : Spot s d j → Holds (slot after d j)
  unfolding new_link put
  new-here (of_an_event n x) = inr (λ k. absurd (n k), x)
  new-here (of_a_task k m low high zero none free) = inl (k, (m, inr (claimed_of d j after shows)))
    where
      l : ℕ
      l = s Links 0 + 1

      leads : LinkAfter s source d j l → Holds (leads_to after d j l) × (after LinkState l ≡ delivered → ⊥)
      leads (is_new _ _ b y z) = ((b, y), λ e. undelivered (sym z ∙ e))
      leads (is_old n _ _ _ _) = absurd (n refl)

      shows : AllOf (claimed_row d j) after
      shows mode_low = low
      shows mode_high = high
      shows mark_high = rw zero (omega arith)
      shows payload = inl none
      shows empty = λ e. none
      shows waits = inr (λ e. (l, omega arith, leads (link_after s source d j l)), λ o. zero)
      shows brought = λ b. absurd (omega arith)

  new-one_link : Holds (says one_link after)
  unfolding new_link put
  new-one_link i l k m t x = go (link_after s source d j i) (link_after s source d j k)
    where
      high : i < s Links 0 + 1 + 1
      high = l

      go : LinkAfter s source d j i → LinkAfter s source d j k → ⊥
      go (is_new e _ b y _) (is_new q _ _ _ _) = omega arith
      go (is_old e _ b y _) (is_new q _ _ _ _) = omega arith
      go (is_new e _ b y _) (is_old q _ f z _) =
          spot_free s d j p (ap (s Kind) (sym b) ∙ t) k (omega arith) (sym f ∙ x.0 ∙ b, sym z ∙ x.1 ∙ y)
      go (is_old e _ b y _) (is_old q _ f z _) =
          a.others one_link i (omega arith) k m (ap (s Kind) (sym b) ∙ t) (sym f ∙ x.0 ∙ b, sym z ∙ x.1 ∙ y)

  new-settled : Holds (says settled after)
  unfolding new_link put
  new-settled t l k m y (i, high, (x, o)) = go (link_after s source d j i)
    where
      marked : 1 ≤ s SlotMark (at t k)
      marked = y

      below : i < s Links 0 + 1 + 1
      below = high

      go : LinkAfter s source d j i → ⊥
      go (is_new _ _ b z _) =
          let q : at d j ≡ at t k = rw (sym b ∙ x.0, sym z ∙ x.1) in
          let zero : s SlotMark (at t k) ≡ 0 = rw (← q) (spot_empty s d j p) in
          omega arith
      go (is_old n _ b z e) =
          a.others settled t l k m y (i, omega arith, ((sym b ∙ x.0, sym z ∙ x.1), λ q. o (e ∙ q)))

  -- the sources and states of the links that were there, and of the new one
  old_source : (i : ℕ) → i < s Links 0 + 1 → after LinkSource i ≡ s LinkSource i
  old_source i b = go (link_after s source d j i)
    where
      go : LinkAfter s source d j i → after LinkSource i ≡ s LinkSource i
      go (is_new q _ _ _ _) = absurd (omega arith)
      go (is_old _ a _ _ _) = a

  old_state : (i : ℕ) → i < s Links 0 + 1 → after LinkState i ≡ s LinkState i
  old_state i b = (still_led (s LinkTarget i) (s LinkSlot i) i b (refl, refl)).1

  new_source : after LinkSource (s Links 0 + 1) ≡ source
  new_source = go (link_after s source d j (s Links 0 + 1))
    where
      go : LinkAfter s source d j (s Links 0 + 1) → after LinkSource (s Links 0 + 1) ≡ source
      go (is_new _ a _ _ _) = a
      go (is_old m _ _ _ _) = absurd (m refl)

  new-state : after LinkState (s Links 0 + 1) ≡ delivered → ⊥
  new-state q = go (link_after s source d j (s Links 0 + 1))
    where
      go : LinkAfter s source d j (s Links 0 + 1) → ⊥
      go (is_new _ _ _ _ z) = undelivered (sym z ∙ q)
      go (is_old m _ _ _ _) = m refl

  -- the new link is not delivered, and the states of the others are as they were
  new-dropped : Holds (says dropped after)
  unfolding new_link put
  new-dropped = subst (λ (n : ℕ). s Dropped 0 ≤ n) (same_count ∙ sym (count_next_no l now new-state)) (a.others dropped)
    where
      l : ℕ
      l = s Links 0 + 1

      before : ℕ → Formula
      before i = s LinkState i ≐ delivered

      now : ℕ → Formula
      now i = after LinkState i ≐ delivered

      same_count : count l before ≡ count l now
      same_count = count_same l before now (λ i b e. old_state i b ∙ e) (λ i b e. sym (old_state i b) ∙ e)

  -- a counted event has one link more if it is the source, and as many delivered as before
  module _ (e : ℕ) where
    old_links : count (s Links 0 + 1) (leads_from after e) ≡ links_from s e
    old_links =
        count_same (s Links 0 + 1) (leads_from after e) (leads_from s e)
        (λ i b x. sym (old_source i b) ∙ x) (λ i b x. old_source i b ∙ x)

    same_served : count (s Links 0 + 1 + 1) (served_from after e) ≡ delivered_from s e
    same_served =
        count_next_no (s Links 0 + 1) (served_from after e) (λ x. new-state x.1)
        ∙ count_same (s Links 0 + 1) (served_from after e) (served_from s e)
        (λ i b x. (sym (old_source i b) ∙ x.0, sym (old_state i b) ∙ x.1))
        (λ i b x. (old_source i b ∙ x.0, old_state i b ∙ x.1))

    has_spare : Holds (is_counted s e) → source ≡ e → links_from s e + 1 ≤ s EventCount e
    has_spare x q = go (decide (s EventCount e ≼ links_from s e))
      where
        go : Case (s EventCount e ≼ links_from s e) → links_from s e + 1 ≤ s EventCount e
        go (it_does l) = absurd (c.source_spare (subst (λ (k : ℕ). Holds (has_its_count s k)) (sym q) (x, l)))
        go (it_does_not m) = omega arith

    within_count : Holds (is_counted s e) → links_from s e ≤ s EventCount e
        → count (s Links 0 + 1 + 1) (leads_from after e) ≤ s EventCount e
    within_count x l = go (decide (source ≐ e))
      where
        go : Case (source ≐ e) → count (s Links 0 + 1 + 1) (leads_from after e) ≤ s EventCount e
        go (it_does q) =
            let one_more = count_next_yes (s Links 0 + 1) (leads_from after e) (new_source ∙ q) in
            let as_before = old_links in
            let spare = has_spare x q in
            omega arith
        go (it_does_not n) =
            let no_more = count_next_no (s Links 0 + 1) (leads_from after e) (λ z. n (sym new_source ∙ z)) in
            let as_before = old_links in
            omega arith

  new-no_link : (i : ℕ) → (s Links 0 + 1 ≡ i → ⊥) → Holds (no_link s i) → Holds (no_link after i)
  new-no_link i n x = go (link_after s source d j i)
    where
      go : LinkAfter s source d j i → Holds (no_link after i)
      go (is_new e _ _ _ _) = absurd (n e)
      go (is_old _ a b y z) = rw (a, b, y, z) x

  shows : (n : Name) → Due link_fields (slots ∷ []) n → Holds (says n after)
  unfolding new_link put
  shows counts due = let h = a.others counts in (h.0, (h.1.0, c.room))
  shows links due = λ i l. new_link_lem i (a.others links i) l
  shows one_link due = new-one_link
  shows counted_events due =
      λ e b x.
      let y = a.others counted_events e b x in
      (within_count e x y.0, λ z. y.1 (sym (same_served e) ∙ z))
  shows dropped due = new-dropped
  shows free_links due =
      let h = a.others free_links in
      (new-no_link 0 (λ e. omega arith) h.0, λ i l m. new-no_link i (λ e. omega arith) (h.1 i l (omega arith)))
  shows settled due = new-settled
  shows Rattle.laws.specs.Rows.kinds x' = elim x' [ ]
  shows Rattle.laws.specs.Rows.template_parts x'' = elim x'' [ ]
  shows Rattle.laws.specs.Rows.task_parts x3 = elim x3 [ ]
  shows Rattle.laws.specs.Rows.event_parts x4 = elim x4 [ ]
  shows Rattle.laws.specs.Rows.block_parts x5 = elim x5 [ ]
  shows Rattle.laws.specs.Rows.roots x6 = elim x6 [ ]
  shows Rattle.laws.specs.Rows.creators x7 = elim x7 [ ]
  shows Rattle.laws.specs.Rows.outputs x8 = elim x8 [ ]
  shows slots x9 = elim x9 [ ]
  shows Rattle.laws.specs.Rows.states x10 = elim x10 [ ]
  shows Rattle.laws.specs.Rows.blocks x11 = elim x11 [ ]
  shows Rattle.laws.specs.Rows.compatible x12 = elim x12 [ ]
  shows Rattle.laws.specs.Rows.latches x13 = elim x13 [ ]
  shows Rattle.laws.specs.Rows.free_slots x14 = elim x14 [ ]

  -- all rules hold again
  pub new_link_keeps : Kept after
  unfolding new_link put
  new_link_keeps = whole after d j apart_yet (new-here p)
    where
      apart_yet : Apart after d j
      apart_yet =
          record {
            others = kept_by (slots ∷ []) writes a.others shows;
            elsewhere = λ h l k b n. new_elsewhere h k n (a.elsewhere h l k b n);
          }
