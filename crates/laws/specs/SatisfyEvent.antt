-- An event that is satisfied: a latch counts and fires when it comes to 0, another fires if it has not. All rules are kept.
use Rattle.std.specs.Prelude.{ℕ, ◌+◌, ◌-◌, ◌≤◌, ◌<◌, ◌≡◌, refl, ◌⊎◌, [], ◌∷◌}
use Rattle.std.proofs.Common.{sym, ◌∙◌, inr, arith}
use Rattle.std.proofs.Math.Logic.{inl}
use Rattle.session.specs.Table.{Session, put}
use Rattle.session.specs.declared.Field.TheVariants.{Kind, EventState, EventType, EventTally}
use Rattle.session.specs.Names.{task, event, event_open, fired, destroyed_fired, latch, output, even_tally, top_tally, object_places}
use Rattle.rules.specs.Formula.{Holds, choose, Formula.◌≐◌}
use Rattle.rules.specs.EventTypes.{has_type_slot}
use Rattle.rules.specs.EventTypeLaws.{user_no_output}
use Rattle.rules.specs.FormulaLaws.{Case, decide, choose_yes, choose_no, Case.it_does, Case.it_does_not}
use Rattle.rules.specs.Reading.{made, is_kind, is_user_event, is_gone, has_slot, overflows}
use Rattle.rules.specs.Effects.{fire_one, tally, satisfy_event}
use Rattle.rules.specs.Sound.{is_payload, event_part}
use Rattle.laws.specs.Outside.{Outside, outside_same, outside_put}
use Rattle.laws.specs.Frame.{DueOf, Shown.due}
use Rattle.laws.specs.Rows.{Name, says}
use Rattle.laws.specs.Rows.Name.{counts, event_parts, outputs, latches}
use Rattle.laws.specs.Keeping.{But, but, all, Due, Excepted, kept_by, Kept}
use Rattle.laws.specs.Conjuncts.{Event, event_says, event_row, event_by_name, event_lasts}
use Rattle.laws.specs.Conjuncts.Event.{tally_high, tally_kind}
use Rattle.laws.specs.Places.{Places, places, Places.one, Places.two, put-here, put_there}
use Rattle.laws.specs.Standing.{open_unless, open_latch}
use Rattle.laws.specs.Firing.{fire-rest, fire_outputs_beside}

-- one open event may fire
pub fire_one-rest : (s : Session) (e p : ℕ) → But (outputs ∷ []) s → Holds (is_kind s event e) → s EventState e ≡ event_open
    → Holds (is_payload s p) → (s EventType e ≡ latch → s EventTally e ≡ even_tally) → But (outputs ∷ []) (fire_one s e p)
unfolding fire_one
fire_one-rest s e p h k o q t = fire-rest s (λ i. i ≐ e) (λ i. p) h (λ i x. rw x (k, o, q, t))

-- and where it is no output, all rules last
pub fire_one_keeps : (s : Session) (e p : ℕ) → Kept s → Holds (is_kind s event e) → s EventState e ≡ event_open
    → Holds (is_payload s p) → (s EventType e ≡ latch → s EventTally e ≡ even_tally) → (s EventType e ≡ output → ⊥)
    → Kept (fire_one s e p)
unfolding fire_one
fire_one_keeps s e p h k o q t n = all (outputs ∷ []) (fire_one-rest s e p (but (outputs ∷ []) h) k o q t) again
  where
    again : (m : Name) → Excepted (outputs ∷ []) m → Holds (says m (fire_one s e p))
    again outputs due = fire_outputs_beside s (λ i. i ≐ e) (λ i. p) (λ i x. rw x n) (h outputs)
    again counts x' = elim x' [ ]
    again Rattle.laws.specs.Rows.kinds x'' = elim x'' [ ]
    again Rattle.laws.specs.Rows.template_parts x3 = elim x3 [ ]
    again Rattle.laws.specs.Rows.task_parts x4 = elim x4 [ ]
    again event_parts x5 = elim x5 [ ]
    again Rattle.laws.specs.Rows.block_parts x6 = elim x6 [ ]
    again Rattle.laws.specs.Rows.roots x7 = elim x7 [ ]
    again Rattle.laws.specs.Rows.creators x8 = elim x8 [ ]
    again Rattle.laws.specs.Rows.slots x9 = elim x9 [ ]
    again Rattle.laws.specs.Rows.links x10 = elim x10 [ ]
    again Rattle.laws.specs.Rows.one_link x11 = elim x11 [ ]
    again Rattle.laws.specs.Rows.states x12 = elim x12 [ ]
    again Rattle.laws.specs.Rows.blocks x13 = elim x13 [ ]
    again Rattle.laws.specs.Rows.compatible x14 = elim x14 [ ]
    again latches x15 = elim x15 [ ]
    again Rattle.laws.specs.Rows.counted_events x16 = elim x16 [ ]
    again Rattle.laws.specs.Rows.dropped x17 = elim x17 [ ]
    again Rattle.laws.specs.Rows.free_slots x18 = elim x18 [ ]
    again Rattle.laws.specs.Rows.free_links x19 = elim x19 [ ]
    again Rattle.laws.specs.Rows.settled x20 = elim x20 [ ]

-- an open latch with another count
module _ (s : Session) (e n : ℕ) (h : Kept s) (kind : s Kind e ≡ event) (type : s EventType e ≡ latch)
    (open-yet : s EventState e ≡ event_open) (fits : n ≤ top_tally) where
  writes : Outside s (put s EventTally e n) (EventTally ∷ [])
  writes = outside_put e n (outside_same s)

  tally-part : (i : ℕ) → Holds (event_part s i) → Holds (event_part (put s EventTally e n) i)
  unfolding put
  tally-part i x = go (places e i)
    where
      go : Places e i → Holds (event_part (put s EventTally e n) i)
      go (two d) = rw (put_there s EventTally e i n d) x
      go (one q) = event_lasts i writes (rw (← q) kind) x shows
        where
          shows : (m : Event) → DueOf (event_row i) (EventTally ∷ []) m → Holds (event_says i m (put s EventTally e n))
          shows tally_high due = rw (put-here s EventTally e i n q) fits
          shows tally_kind due = inl (rw (← q) type)
          shows Rattle.laws.specs.Conjuncts.is_event x3 = elim x3 [ ]
          shows Rattle.laws.specs.Conjuncts.state_low x4 = elim x4 [ ]
          shows Rattle.laws.specs.Conjuncts.state_high x5 = elim x5 [ ]
          shows Rattle.laws.specs.Conjuncts.type_known x6 = elim x6 [ ]
          shows Rattle.laws.specs.Conjuncts.has_payload x7 = elim x7 [ ]
          shows Rattle.laws.specs.Conjuncts.paid x8 = elim x8 [ ]
          shows Rattle.laws.specs.Conjuncts.count_fits x9 = elim x9 [ ]

  -- a latch that has fired is another
  late : (i : ℕ) → s EventTally i ≡ even_tally → s EventState i ≡ fired ⊎ s EventState i ≡ destroyed_fired
      → put s EventTally e n EventTally i ≡ even_tally
  late i t f = go (places e i) f
    where
      no : (v : ℕ) → (event_open ≡ v → ⊥) → e ≡ i → s EventState i ≡ v → ⊥
      no v d q f = d (sym open-yet ∙ rw q f)

      go : Places e i → s EventState i ≡ fired ⊎ s EventState i ≡ destroyed_fired → put s EventTally e n EventTally i ≡ even_tally
      go (two d) f = put_there s EventTally e i n d ∙ t
      go (one q) (inl f) = absurd (no fired (λ z. omega arith) q f)
      go (one q) (inr f) = absurd (no destroyed_fired (λ z. omega arith) q f)

  shows : (m : Name) → Due (EventTally ∷ []) [] m → Holds (says m (put s EventTally e n))
  unfolding put
  shows event_parts due = λ i l. tally-part i (h event_parts i l)
  shows latches due = λ i l x. late i (h latches i l x) x.1.1
  shows counts x' = elim x' [ ]
  shows Rattle.laws.specs.Rows.kinds x'' = elim x'' [ ]
  shows Rattle.laws.specs.Rows.template_parts x3 = elim x3 [ ]
  shows Rattle.laws.specs.Rows.task_parts x4 = elim x4 [ ]
  shows Rattle.laws.specs.Rows.block_parts x5 = elim x5 [ ]
  shows Rattle.laws.specs.Rows.roots x6 = elim x6 [ ]
  shows Rattle.laws.specs.Rows.creators x7 = elim x7 [ ]
  shows outputs x8 = elim x8 [ ]
  shows Rattle.laws.specs.Rows.slots x9 = elim x9 [ ]
  shows Rattle.laws.specs.Rows.links x10 = elim x10 [ ]
  shows Rattle.laws.specs.Rows.one_link x11 = elim x11 [ ]
  shows Rattle.laws.specs.Rows.states x12 = elim x12 [ ]
  shows Rattle.laws.specs.Rows.blocks x13 = elim x13 [ ]
  shows Rattle.laws.specs.Rows.compatible x14 = elim x14 [ ]
  shows Rattle.laws.specs.Rows.counted_events x15 = elim x15 [ ]
  shows Rattle.laws.specs.Rows.dropped x16 = elim x16 [ ]
  shows Rattle.laws.specs.Rows.free_slots x17 = elim x17 [ ]
  shows Rattle.laws.specs.Rows.free_links x18 = elim x18 [ ]
  shows Rattle.laws.specs.Rows.settled x19 = elim x19 [ ]

  tally_keeps : Kept (put s EventTally e n)
  tally_keeps = kept_by [] writes h shows

-- the count that a satisfaction of slot j leaves
abbrev pub next_tally : Session → ℕ → ℕ → ℕ
next_tally s e j = choose (j ≐ 0) (s EventTally e - 1) (s EventTally e + 1)

abbrev pub counted : Session → ℕ → ℕ → Session
counted s e j = put s EventTally e (next_tally s e j)

-- the next count of a latch is in range
next_fits : (s : Session) (e j : ℕ) → Kept s → Holds (made s e) → s Kind e ≡ event → s EventType e ≡ latch
    → Holds (has_slot s e j) → (Holds (overflows s e j) → ⊥) → next_tally s e j ≤ top_tally
next_fits s e j h m k ty slot n = go (decide (j ≐ 0)) slot (event_by_name e s k (h event_parts e low) tally_high)
  where
    low : e < object_places
    low = let c = h counts in omega arith

    other : task ≡ event → ⊥
    other q = omega arith

    go : Case (j ≐ 0) → Holds (has_slot s e j) → s EventTally e ≤ top_tally → next_tally s e j ≤ top_tally
    go c (inl x) top = absurd (other (sym x.0 ∙ k))
    go (it_does z) (inr x) top = rw (choose_yes (j ≐ 0) (s EventTally e - 1) (s EventTally e + 1) z) (omega arith)
    go (it_does_not z) (inr x) top = rw (choose_no (j ≐ 0) (s EventTally e - 1) (s EventTally e + 1) z) (up x.1)
      where
        up : Holds (has_type_slot (s EventType e) j) → s EventTally e + 1 ≤ top_tally
        up (inl y) = absurd (z y.0)
        up (inr y) = let below : s EventTally e ≡ top_tally → ⊥ = λ q. n (k, (ty, inr (y.0, q))) in omega arith

-- the four things that a satisfaction of an event can do
pub data EventSatisfied (s : Session) (e j p : ℕ) : Type 0 where
  latch_counts : s EventType e ≡ latch → (next_tally s e j ≡ even_tally → ⊥) → satisfy_event s e j p ≡ counted s e j
      → EventSatisfied s e j p
  latch_fires : s EventType e ≡ latch → next_tally s e j ≡ even_tally → satisfy_event s e j p ≡ fire_one (counted s e j) e 0
      → EventSatisfied s e j p
  nothing_more_lem : (s EventType e ≡ latch → ⊥) → s EventState e ≡ fired → satisfy_event s e j p ≡ s → EventSatisfied s e j p
  event_fires : (s EventType e ≡ latch → ⊥) → (s EventState e ≡ fired → ⊥) → satisfy_event s e j p ≡ fire_one s e p
      → EventSatisfied s e j p

pub event-satisfied : (s : Session) (e j p : ℕ) → EventSatisfied s e j p
unfolding satisfy_event tally
event-satisfied s e j p =
    go (decide (s EventType e ≐ latch)) (decide (next_tally s e j ≐ even_tally)) (decide (s EventState e ≐ fired))
  where
    plain : Session
    plain = choose (s EventState e ≐ fired) s (fire_one s e p)

    fires : Session
    fires = fire_one (counted s e j) e 0

    latched : s EventType e ≡ latch → satisfy_event s e j p ≡ tally s e j
    latched y = choose_yes (s EventType e ≐ latch) (tally s e j) plain y

    other : (s EventType e ≡ latch → ⊥) → satisfy_event s e j p ≡ plain
    other y = choose_no (s EventType e ≐ latch) (tally s e j) plain y

    go : Case (s EventType e ≐ latch) → Case (next_tally s e j ≐ even_tally) → Case (s EventState e ≐ fired)
        → EventSatisfied s e j p
    go (it_does y) (it_does z) f =
        latch_fires y z (latched y ∙ choose_yes (next_tally s e j ≐ even_tally) fires (counted s e j) z)
    go (it_does y) (it_does_not z) f =
        latch_counts y z (latched y ∙ choose_no (next_tally s e j ≐ even_tally) fires (counted s e j) z)
    go (it_does_not y) z (it_does f) = nothing_more_lem y f (other y ∙ choose_yes (s EventState e ≐ fired) s (fire_one s e p) f)
    go (it_does_not y) z (it_does_not f) = event_fires y f (other y ∙ choose_no (s EventState e ≐ fired) s (fire_one s e p) f)

-- all rules are kept
pub satisfy_event_keeps : (s : Session) (e j p : ℕ) → Holds (made s e) → Holds (is_user_event s e) → (Holds (is_gone s e) → ⊥)
    → Holds (has_slot s e j) → (Holds (overflows s e j) → ⊥) → Holds (is_payload s p) → Kept s → Kept (satisfy_event s e j p)
unfolding put
satisfy_event_keeps s e j p m user there slot n q h = go (event-satisfied s e j p)
  where
    no_output : s EventType e ≡ output → ⊥
    no_output = user_no_output (s EventType e) user.1

    is_open : s EventType e ≡ latch → s EventState e ≡ event_open
    is_open ty = open_latch s e (h counts) (h event_parts) m user.0 ty there

    counted_keeps : s EventType e ≡ latch → Kept (counted s e j)
    counted_keeps ty = tally_keeps s e (next_tally s e j) h user.0 ty (is_open ty) (next_fits s e j h m user.0 ty slot n)

    go : EventSatisfied s e j p → Kept (satisfy_event s e j p)
    go (latch_counts ty z x) = rw x (counted_keeps ty)
    go (latch_fires ty z x) =
        let even = put-here s EventTally e e (next_tally s e j) refl ∙ z in
        rw x (fire_one_keeps (counted s e j) e 0 (counted_keeps ty) user.0 (is_open ty) (inl refl) (λ y. even) no_output)
    go (nothing_more_lem ty f x) = rw x h
    go (event_fires ty f x) =
        let o = open_unless s e (h counts) (h event_parts) m user.0 there f in
        rw x (fire_one_keeps s e p h user.0 o q (λ y. absurd (ty y)) no_output)
