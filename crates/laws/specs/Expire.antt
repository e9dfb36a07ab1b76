-- A counted event goes with the delivery of the last of its links: it has fired, and is destroyed with that mark. A session stays
-- kept by it, and the delivery may follow. One field is written, the events' states.
use Rattle.std.specs.Prelude.{ℕ, ◌+◌, ◌≤◌, ◌≡◌, refl, ◌⊎◌, [], ◌∷◌}
use Rattle.std.proofs.Math.Path.{ap}
use Rattle.std.proofs.Common.{sym, subst, ◌∙◌, arith}
use Rattle.std.proofs.Math.Logic.{inl, inr}
use Rattle.session.specs.Table.{Session, put}
use Rattle.session.specs.declared.Field.TheVariants.{Kind, EventState, EventType, LinkSource, LinkState}
use Rattle.session.specs.Names.{event, event_open, fired, destroyed_unfired, destroyed_fired, counted}
use Rattle.rules.specs.Formula.{Holds, choose, Formula.◌≐◌, Formula.◌or◌}
use Rattle.rules.specs.FormulaLaws.{Case, decide, choose_case, choose_yes, choose_no, Case.it_does, Case.it_does_not}
use Rattle.rules.specs.Reading.{serves_last}
use Rattle.rules.specs.Checks.{deliver_checks}
use Rattle.rules.specs.Effects.{expire}
use Rattle.rules.specs.Sound.{event_part, is_link, output_of, agrees}
use Rattle.laws.specs.Met.{Checked}
use Rattle.laws.specs.Writes.{expire-writes}
use Rattle.laws.specs.Frame.{AllOf, DueOf, Shown.due}
use Rattle.laws.specs.Rows.{Name, says}
use Rattle.laws.specs.Rows.Name.{counts, event_parts, outputs, links, latches, counted_events, settled}
use Rattle.laws.specs.Keeping.{Due, kept_by, but, all, Excepted, Kept, Sound}
use Rattle.laws.specs.Conjuncts.{Event, event_says, event_row, event_by_name, event_lasts, open_with, cut_with}
use Rattle.laws.specs.Conjuncts.Event.{state_low, state_high, paid}
use Rattle.laws.specs.Conjuncts.{Linked, link_says, link_row, link_by_name, link_lasts, output_by_name, Output.output_type}
use Rattle.laws.specs.Conjuncts.Linked.{source_made, source_event, agreeing}
use Rattle.laws.specs.Standing.{made_low, link_at_lem}
use Rattle.laws.specs.Places.{Places, places, put-here, put_there, Places.one, Places.two}
use Rattle.laws.specs.MarkLink.{Expired}
use Rattle.laws.specs.Lasting.{HadFired, Lasts, Later, later_same, later_put}

-- an event's state after
pub data StateAfter (s : Session) (l i : ℕ) : Type 0 where
  goes : s LinkSource l ≡ i → Holds (serves_last s l) → expire s l EventState i ≡ destroyed_fired → StateAfter s l i
  stays : expire s l EventState i ≡ s EventState i → StateAfter s l i

pub state-after : (s : Session) (l i : ℕ) → StateAfter s l i
unfolding expire
state-after s l i = go (places e i) (decide (serves_last s l))
  where
    e : ℕ
    e = s LinkSource l

    mark : ℕ
    mark = choose (serves_last s l) destroyed_fired (s EventState e)

    go : Places e i → Case (serves_last s l) → StateAfter s l i
    go (two n) c = stays (put_there s EventState e i mark n)
    go (one p) (it_does x) =
        goes p x (put-here s EventState e i mark p ∙ choose_yes (serves_last s l) destroyed_fired (s EventState e) x)
    go (one p) (it_does_not n) =
        stays (put-here s EventState e i mark p ∙ choose_no (serves_last s l) destroyed_fired (s EventState e) n ∙ ap (s EventState) p)

-- then its last delivery may follow
pub expired : (s : Session) (l : ℕ) → Expired (expire s l) l
unfolding expire put
expired s l x = go (state-after s l (s LinkSource l))
  where
    go : StateAfter s l (s LinkSource l) → destroyed_unfired ≤ expire s l EventState (s LinkSource l)
    go (goes p y q) = rw q (omega arith)
    go (stays q) =
        let now = put-here s EventState (s LinkSource l) (s LinkSource l) _ refl
        ∙ choose_yes (serves_last s l) destroyed_fired (s EventState (s LinkSource l)) x in
        rw now (omega arith)

-- the source of a ready link has fired
module _ (s : Session) (l : ℕ) (m : Checked (deliver_checks s l)) (r : Sound s) where
  link : AllOf (link_row l) s
  link = link_at_lem s l (r links) (m 9)

  part : Holds (event_part s (s LinkSource l))
  part = r event_parts (s LinkSource l) (made_low s (s LinkSource l) (r counts) (link source_made))

  pub source_fired : HadFired (s EventState (s LinkSource l))
  source_fired =
      let e = s LinkSource l in
      let range = event_by_name e s (link source_event) part in
      let not_open = (open_with (s LinkState l) (s EventState e) (link agreeing)).1 in
      let not-cut = (cut_with (s LinkState l) (s EventState e) (link agreeing)).1 in
      let was = m 16 in
      go (s EventState e) (decide (s EventState e ≐ fired)) (range state_low) (range state_high)
      (λ o. let z = not_open o in omega arith) (λ o. let z = not-cut o in omega arith)
    where
      go : (e : ℕ) → Case (e ≐ fired) → 1 ≤ e → e ≤ destroyed_fired → (e ≡ event_open → ⊥) → (e ≡ destroyed_unfired → ⊥) → HadFired e
      go e (it_does f) a c m n = inl f
      go e (it_does_not f) a c m n = inr (omega arith)

  -- and so has one that goes
  pub gone_fired : (i : ℕ) → s LinkSource l ≡ i → HadFired (s EventState i)
  gone_fired i p = subst (λ (k : ℕ). HadFired (s EventState k)) p source_fired

  gone-event : (i : ℕ) → s LinkSource l ≡ i → s Kind i ≡ event
  gone-event i p = ap (s Kind) (sym p) ∙ link source_event

  goes_part : (i : ℕ) → Holds (event_part s i) → Holds (event_part (expire s l) i)
  unfolding expire put
  goes_part i x = go (state-after s l i)
    where
      go : StateAfter s l i → Holds (event_part (expire s l) i)
      go (stays q) = rw q x
      go (goes p y q) = event_lasts i (expire-writes s l) (gone-event i p) x shows
        where
          shows : (n : Event) → DueOf (event_row i) (EventState ∷ []) n → Holds (event_says i n (expire s l))
          shows state_low due = rw q (omega arith)
          shows state_high due = rw q (omega arith)
          shows paid due = inr (inl q)
          shows Rattle.laws.specs.Conjuncts.is_event x3 = elim x3 [ ]
          shows Rattle.laws.specs.Conjuncts.type_known x4 = elim x4 [ ]
          shows Rattle.laws.specs.Conjuncts.has_payload x5 = elim x5 [ ]
          shows Rattle.laws.specs.Conjuncts.tally_high x6 = elim x6 [ ]
          shows Rattle.laws.specs.Conjuncts.tally_kind x7 = elim x7 [ ]
          shows Rattle.laws.specs.Conjuncts.count_fits x8 = elim x8 [ ]

  -- it is no output event
  goes_outputs : Holds (says outputs s) → Holds (says outputs (expire s l))
  unfolding expire put
  goes_outputs h i b = (λ x. go ((h i b).0 x) (state-after s l (i + 1)), (h i b).1)
    where
      go : Holds (output_of s i) → StateAfter s l (i + 1) → Holds (output_of (expire s l) i)
      go x (stays q) = rw q x
      go x (goes p y q) =
          let ty = output_by_name i s x output_type in
          let c : s EventType (i + 1) ≡ counted = ap (s EventType) (sym p) ∙ y.0 in
          absurd (omega arith)

  -- a link from an event that has fired agrees with it, destroyed or not
  still-agrees : (link state : ℕ) → HadFired state → Holds (agrees link state) → Holds (agrees link destroyed_fired)
  still-agrees k state f x = (
    x.0,
    (
      x.1.0,
      (
        (λ o. absurd (neither f (inl ((open_with k state x).0 o))), λ o. absurd (omega arith)),
        (λ c. absurd (neither f (inr ((cut_with k state x).0 c))), λ o. absurd (omega arith)),
      ),
    ),
  )
    where
      neither : HadFired state → (state ≡ event_open) ⊎ (state ≡ destroyed_unfired) → ⊥
      neither (inl a) (inl b) = omega arith
      neither (inl a) (inr b) = omega arith
      neither (inr a) (inl b) = omega arith
      neither (inr a) (inr b) = omega arith

  goes_link : (k : ℕ) → k ≡ 0 ⊎ Holds (is_link s k) → k ≡ 0 ⊎ Holds (is_link (expire s l) k)
  unfolding expire put
  goes_link k (inl z) = inl z
  goes_link k (inr x) = inr (link_lasts k (expire-writes s l) x shows)
    where
      agreed : StateAfter s l (s LinkSource k) → Holds (agrees (s LinkState k) (expire s l EventState (s LinkSource k)))
      agreed (stays q) = rw q (link_by_name k s x agreeing)
      agreed (goes p y q) = rw q (still-agrees _ _ (gone_fired _ p) (link_by_name k s x agreeing))

      shows : (n : Linked) → DueOf (link_row k) (EventState ∷ []) n → Holds (link_says k n (expire s l))
      shows agreeing due = agreed (state-after s l (s LinkSource k))
      shows source_made x3 = elim x3 [ ]
      shows source_event x4 = elim x4 [ ]
      shows Rattle.laws.specs.Conjuncts.target_made x5 = elim x5 [ ]
      shows Rattle.laws.specs.Conjuncts.target_kind x6 = elim x6 [ ]
      shows Rattle.laws.specs.Conjuncts.has_slot_lem x7 = elim x7 [ ]

  had_fired_lem : (i : ℕ) → StateAfter s l i → Holds (expire s l EventState i ≐ fired or expire s l EventState i ≐ destroyed_fired)
      → Holds (s EventState i ≐ fired or s EventState i ≐ destroyed_fired)
  had_fired_lem i (stays q) y = rw q at y
  had_fired_lem i (goes p z q) y = gone_fired i p

  still-gone : (i : ℕ) → StateAfter s l i → destroyed_unfired ≤ s EventState i → destroyed_unfired ≤ expire s l EventState i
  still-gone i (stays q) y = rw q y
  still-gone i (goes p z q) y = rw q (omega arith)

pub expire-sound : (s : Session) (l : ℕ) → Checked (deliver_checks s l) → Sound s → Sound (expire s l)
unfolding expire put
expire-sound s l m r = kept_by (settled ∷ []) (expire-writes s l) r shows
  where
    shows : (n : Name) → Due (EventState ∷ []) (settled ∷ []) n → Holds (says n (expire s l))
    shows event_parts due = λ i b. goes_part s l m r i (r event_parts i b)
    shows outputs due = goes_outputs s l m r (r outputs)
    shows links due = λ k b. goes_link s l m r k (r links k b)
    shows latches due = λ i b x. r latches i b (x.0, (x.1.0, had_fired_lem s l m r i (state-after s l i) x.1.1))
    shows counted_events due =
        λ i b x. let y = r counted_events i b x in (y.0, λ q. still-gone s l m r i (state-after s l i) (y.1 q))
    shows counts x' = elim x' [ ]
    shows Rattle.laws.specs.Rows.kinds x'' = elim x'' [ ]
    shows Rattle.laws.specs.Rows.template_parts x3 = elim x3 [ ]
    shows Rattle.laws.specs.Rows.task_parts x4 = elim x4 [ ]
    shows Rattle.laws.specs.Rows.block_parts x5 = elim x5 [ ]
    shows Rattle.laws.specs.Rows.roots x6 = elim x6 [ ]
    shows Rattle.laws.specs.Rows.creators x7 = elim x7 [ ]
    shows Rattle.laws.specs.Rows.slots x8 = elim x8 [ ]
    shows Rattle.laws.specs.Rows.one_link x9 = elim x9 [ ]
    shows Rattle.laws.specs.Rows.states x10 = elim x10 [ ]
    shows Rattle.laws.specs.Rows.blocks x11 = elim x11 [ ]
    shows Rattle.laws.specs.Rows.compatible x12 = elim x12 [ ]
    shows Rattle.laws.specs.Rows.dropped x13 = elim x13 [ ]
    shows Rattle.laws.specs.Rows.free_slots x14 = elim x14 [ ]
    shows Rattle.laws.specs.Rows.free_links x15 = elim x15 [ ]
    shows settled x16 = elim x16 [ ]

pub expire_keeps : (s : Session) (l : ℕ) → Checked (deliver_checks s l) → Kept s → Kept (expire s l)
unfolding expire put
expire_keeps s l m h = all (settled ∷ []) (expire-sound s l m (but (settled ∷ []) h)) again
  where
    again : (n : Name) → Excepted (settled ∷ []) n → Holds (says n (expire s l))
    again settled due = h settled
    again counts x' = elim x' [ ]
    again Rattle.laws.specs.Rows.kinds x'' = elim x'' [ ]
    again Rattle.laws.specs.Rows.template_parts x3 = elim x3 [ ]
    again Rattle.laws.specs.Rows.task_parts x4 = elim x4 [ ]
    again event_parts x5 = elim x5 [ ]
    again Rattle.laws.specs.Rows.block_parts x6 = elim x6 [ ]
    again Rattle.laws.specs.Rows.roots x7 = elim x7 [ ]
    again Rattle.laws.specs.Rows.creators x8 = elim x8 [ ]
    again outputs x9 = elim x9 [ ]
    again Rattle.laws.specs.Rows.slots x10 = elim x10 [ ]
    again links x11 = elim x11 [ ]
    again Rattle.laws.specs.Rows.one_link x12 = elim x12 [ ]
    again Rattle.laws.specs.Rows.states x13 = elim x13 [ ]
    again Rattle.laws.specs.Rows.blocks x14 = elim x14 [ ]
    again Rattle.laws.specs.Rows.compatible x15 = elim x15 [ ]
    again latches x16 = elim x16 [ ]
    again counted_events x17 = elim x17 [ ]
    again Rattle.laws.specs.Rows.dropped x18 = elim x18 [ ]
    again Rattle.laws.specs.Rows.free_slots x19 = elim x19 [ ]
    again Rattle.laws.specs.Rows.free_links x20 = elim x20 [ ]

-- what a delivery asks of a session, it asks of one in which the link's source has gone
pub still-checked : (s : Session) (l : ℕ) → Checked (deliver_checks s l) → Checked (deliver_checks (expire s l) l)
unfolding expire put
still-checked s l m = m

-- it undoes nothing
pub later_expire : (s : Session) → Sound s → (l : ℕ) → Checked (deliver_checks s l) → Later s (expire s l)
unfolding expire
later_expire s r l m = later_put EventState e _ (later_same s) (choose_case Goes (serves_last s l) _ _ (λ x. last) (λ x. same))
  where
    e : ℕ
    e = s LinkSource l

    Goes : ℕ → Type 0
    Goes v = Lasts s EventState e (s EventState e) v

    last : Goes destroyed_fired
    last k = (λ f. inr refl, λ d. absurd (no (source_fired s l m r) d))
      where
        no : HadFired (s EventState e) → s EventState e ≡ destroyed_unfired → ⊥
        no (inl f) d = omega arith
        no (inr f) d = omega arith

    same : Goes (s EventState e)
    same k = (λ f. f, λ d. d)
