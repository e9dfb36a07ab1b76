-- The destroying of an event that is open or fired: its state says whether it had fired, and its open links are cut. All
-- rules but that of the outputs survive it; that one too where the event is no output event.
use Rattle.std.specs.Prelude.{ℕ, ◌+◌, ◌≤◌, ◌<◌, ◌≡◌, refl, [], ◌∷◌}
use Rattle.std.proofs.Math.Path.{ap}
use Rattle.std.proofs.Common.{sym, ◌∙◌, inl, inr, arith}
use Rattle.session.specs.Table.{Session, put, change}
use Rattle.session.specs.declared.Field.TheVariants.{Kind, EventState, EventType, EventPayload, EventTally, LinkSource}
use Rattle.session.specs.declared.Field.TheVariants.{LinkState}
use Rattle.rules.specs.Formula.{Formula, Holds, choose, Formula.◌≐◌, Formula.◌and◌}
use Rattle.rules.specs.EventTypeLaws.{user_no_output}
use Rattle.rules.specs.FormulaLaws.{Case, decide, choose_yes, choose_no, Case.it_does, Case.it_does_not}
use Rattle.session.specs.Names.{event, event_open, fired, destroyed_unfired, destroyed_fired, link_open, delivered, cut, latch}
use Rattle.session.specs.Names.{object_places}
use Rattle.session.specs.Names.{output, even_tally}
use Rattle.rules.specs.Reading.{made, is_kind, is_user_event}
use Rattle.rules.specs.Effects.{destroy_event}
use Rattle.rules.specs.Sound.{event_part, output_of, agrees}
use Rattle.laws.specs.Outside.{outside_within}
use Rattle.laws.specs.Writes.{destroy_event-writes}
use Rattle.laws.specs.Frame.{DueOf, Shown.due}
use Rattle.laws.specs.Rows.{Name, says}
use Rattle.laws.specs.Rows.Name.{counts, event_parts, outputs}
use Rattle.laws.specs.Keeping.{But, but, all, Excepted, Kept}
use Rattle.laws.specs.Conjuncts.{Event, event_says, event_row, event_by_name, event_lasts, open_with, cut_with}
use Rattle.laws.specs.Conjuncts.{output_by_name, Output.output_type}
use Rattle.laws.specs.Conjuncts.Event.{state_low, state_high, paid}
use Rattle.laws.specs.Places.{Places, places, put-here, put_there, Places.one, Places.two}
use Rattle.laws.specs.Renewing.{Renewal, had_fired, renewed-rest, renewed-is}

-- an event's state after e was destroyed
pub data EventAfter (s : Session) (e i : ℕ) : Type 0 where
  gone_fired : e ≡ i → s EventState i ≡ fired → destroy_event s e EventState i ≡ destroyed_fired → EventAfter s e i
  gone_unfired : e ≡ i → (s EventState i ≡ fired → ⊥) → destroy_event s e EventState i ≡ destroyed_unfired → EventAfter s e i
  stays : (e ≡ i → ⊥) → destroy_event s e EventState i ≡ s EventState i → EventAfter s e i

pub event-after : (s : Session) (e i : ℕ) → EventAfter s e i
unfolding destroy_event change
event-after s e i = go (places e i) (decide (s EventState e ≐ fired))
  where
    mark : ℕ
    mark = choose (s EventState e ≐ fired) destroyed_fired destroyed_unfired

    go : Places e i → Case (s EventState e ≐ fired) → EventAfter s e i
    go (two n) c = stays n (put_there s EventState e i mark n)
    go (one p) (it_does h) =
        let now = put-here s EventState e i mark p ∙ choose_yes (s EventState e ≐ fired) destroyed_fired destroyed_unfired h in
        gone_fired p (ap (s EventState) (sym p) ∙ h) now
    go (one p) (it_does_not n) =
        let now = put-here s EventState e i mark p ∙ choose_no (s EventState e ≐ fired) destroyed_fired destroyed_unfired n in
        gone_unfired p (λ f. n (ap (s EventState) p ∙ f)) now

-- a link's
pub data LinkAfter (s : Session) (e l : ℕ) : Type 0 where
  cut_now : s LinkSource l ≡ e → s LinkState l ≡ link_open → destroy_event s e LinkState l ≡ cut → LinkAfter s e l
  as_was : (s LinkSource l ≡ e → s LinkState l ≡ link_open → ⊥) → destroy_event s e LinkState l ≡ s LinkState l → LinkAfter s e l

pub link_after : (s : Session) (e l : ℕ) → LinkAfter s e l
unfolding destroy_event change
link_after s e l = go (decide picked)
  where
    picked : Formula
    picked = (s LinkSource l ≐ e) and (s LinkState l ≐ link_open)

    go : Case picked → LinkAfter s e l
    go (it_does h) = cut_now h.0 h.1 (choose_yes picked cut (s LinkState l) h)
    go (it_does_not n) = as_was (λ a b. n (a, b)) (choose_no picked cut (s LinkState l) n)

-- a link is delivered exactly if it was
still_delivered : (s : Session) (e l : ℕ) → s LinkState l ≡ delivered → destroy_event s e LinkState l ≡ delivered
still_delivered s e l d = go (link_after s e l)
  where
    no : link_open ≡ delivered → ⊥
    no q = omega arith

    go : LinkAfter s e l → destroy_event s e LinkState l ≡ delivered
    go (cut_now p o q) = absurd (no (sym o ∙ d))
    go (as_was n q) = q ∙ d

was_delivered : (s : Session) (e l : ℕ) → destroy_event s e LinkState l ≡ delivered → s LinkState l ≡ delivered
was_delivered s e l d = go (link_after s e l)
  where
    no : cut ≡ delivered → ⊥
    no q = omega arith

    go : LinkAfter s e l → s LinkState l ≡ delivered
    go (cut_now p o q) = absurd (no (sym q ∙ d))
    go (as_was n q) = sym q ∙ d

module _ (s : Session) (e : ℕ) (kind : Holds (is_kind s event e)) (low : 1 ≤ s EventState e) (was : s EventState e ≤ fired) where
  keeps_event_part : (i : ℕ) → Holds (event_part s i) → Holds (event_part (destroy_event s e) i)
  unfolding destroy_event put change
  keeps_event_part i x = go (event-after s e i)
    where
      kind_at : e ≡ i → s Kind i ≡ event
      kind_at p = ap (s Kind) (sym p) ∙ kind

      gone : (v : ℕ) → destroy_event s e EventState i ≡ v → e ≡ i → 1 ≤ v → v ≤ destroyed_fired
          → Holds (event_says i paid (destroy_event s e)) → Holds (event_part (destroy_event s e) i)
      gone v q p lo hi pays = event_lasts i (destroy_event-writes s e) (kind_at p) x shows
        where
          shows : (n : Event) → DueOf (event_row i) (LinkState ∷ EventState ∷ []) n → Holds (event_says i n (destroy_event s e))
          shows state_low due = rw q lo
          shows state_high due = rw q hi
          shows paid due = pays
          shows Rattle.laws.specs.Conjuncts.is_event x'' = elim x'' [ ]
          shows Rattle.laws.specs.Conjuncts.type_known x3 = elim x3 [ ]
          shows Rattle.laws.specs.Conjuncts.has_payload x4 = elim x4 [ ]
          shows Rattle.laws.specs.Conjuncts.tally_high x5 = elim x5 [ ]
          shows Rattle.laws.specs.Conjuncts.tally_kind x6 = elim x6 [ ]
          shows Rattle.laws.specs.Conjuncts.count_fits x7 = elim x7 [ ]

      -- what had not fired has no payload
      unpaid : e ≡ i → (s EventState i ≡ fired → ⊥) → Holds (event_says i paid s) → s EventPayload i ≡ 0
      unpaid p n (inl f) = absurd (n f)
      unpaid p n (inr (inl d)) = let early : s EventState i ≤ fired = rw p at was in absurd (omega arith)
      unpaid p n (inr (inr z)) = z

      go : EventAfter s e i → Holds (event_part (destroy_event s e) i)
      go (stays n q) = rw q x
      go (gone_fired p f q) = gone destroyed_fired q p (omega arith) (omega arith) (inr (inl q))
      go (gone_unfired p f q) =
          let z = unpaid p f (event_by_name i s (kind_at p) x paid) in
          gone destroyed_unfired q p (omega arith) (omega arith) (inr (inr z))

  keeps_latch : (i : ℕ) → s EventType i ≡ latch → (Holds (had_fired (s EventState i)) → s EventTally i ≡ even_tally)
      → Holds (had_fired (destroy_event s e EventState i)) → s EventTally i ≡ even_tally
  keeps_latch i ty h x = h (had_fired_lem (event-after s e i) x)
    where
      had_fired_lem : EventAfter s e i → Holds (had_fired (destroy_event s e EventState i)) → Holds (had_fired (s EventState i))
      had_fired_lem (stays n q) y = rw q at y
      had_fired_lem (gone_fired p f q) y = inl f
      had_fired_lem (gone_unfired p f q) (inl a) = absurd (omega arith)
      had_fired_lem (gone_unfired p f q) (inr a) = absurd (omega arith)

  keeps_gone : (i : ℕ) → destroyed_unfired ≤ s EventState i → destroyed_unfired ≤ destroy_event s e EventState i
  keeps_gone i l = go (event-after s e i)
    where
      go : EventAfter s e i → destroyed_unfired ≤ destroy_event s e EventState i
      go (stays n q) = rw q l
      go (gone_fired p f q) = rw q (omega arith)
      go (gone_unfired p f q) = rw q (omega arith)

  -- unless it had fired it was open
  was_open : (i : ℕ) → e ≡ i → (s EventState i ≡ fired → ⊥) → s EventState i ≡ event_open
  was_open i p n =
      let lo : 1 ≤ s EventState i = rw p at low in
      let hi : s EventState i ≤ fired = rw p at was in
      omega arith

  -- link l agrees with its source after
  abbrev agrees_after : ℕ → Formula
  agrees_after l = agrees (destroy_event s e LinkState l) (destroy_event s e EventState (s LinkSource l))

  keeps_link : (l : ℕ) → Holds (agrees (s LinkState l) (s EventState (s LinkSource l))) → Holds (agrees_after l)
  keeps_link l x = go (event-after s e (s LinkSource l)) (link_after s e l)
    where
      opens : (s LinkState l ≡ link_open → s EventState (s LinkSource l) ≡ event_open)
          × (s EventState (s LinkSource l) ≡ event_open → s LinkState l ≡ link_open)
      opens = open_with (s LinkState l) (s EventState (s LinkSource l)) x

      cuts : s LinkState l ≡ cut → s EventState (s LinkSource l) ≡ destroyed_unfired
      cuts = (cut_with (s LinkState l) (s EventState (s LinkSource l)) x).0

      clash : {A : Type 0} {a b c : ℕ} → a ≡ b → a ≡ c → (b ≡ c → ⊥) → A
      clash p q n = absurd (n (sym p ∙ q))

      go : EventAfter s e (s LinkSource l) → LinkAfter s e l → Holds (agrees_after l)
      go (stays n q) (as_was m r) = rw (q, r) x
      go (stays n q) (cut_now p o r) = absurd (n (sym p))
      go (gone_fired p f q) (as_was m r) =
          rw (q, r) (
            x.0,
            (
              x.1.0,
              (
                (λ o. clash f (opens.0 o) (λ z. omega arith), λ o. absurd (omega arith)),
                (λ c. clash f (cuts c) (λ z. omega arith), λ o. absurd (omega arith)),
              ),
            ),
          )
      go (gone_fired p f q) (cut_now p' o r) = clash f (opens.0 o) (λ z. omega arith)
      go (gone_unfired p f q) (cut_now p' o r) =
          rw (q, r)
          (omega arith, (omega arith, ((λ o. absurd (omega arith), λ o. absurd (omega arith)), (λ c. refl, λ c. refl))))
      go (gone_unfired p f q) (as_was m r) = absurd (m (sym p) (opens.1 (was_open (s LinkSource l) p f)))

  keeps_no_link : (l : ℕ) → s LinkState l ≡ 0 → destroy_event s e LinkState l ≡ 0
  keeps_no_link l z = go (link_after s e l)
    where
      go : LinkAfter s e l → destroy_event s e LinkState l ≡ 0
      go (as_was m r) = r ∙ z
      go (cut_now p o r) = absurd (omega arith)

  destroy_event_renewal : Renewal s (destroy_event s e EventState) (s EventPayload) (destroy_event s e LinkState)
  unfolding destroy_event put change
  destroy_event_renewal =
      record {
        part = keeps_event_part;
        latch = keeps_latch;
        stays_gone = keeps_gone;
        still_delivered = still_delivered s e;
        was_delivered = was_delivered s e;
        payload = λ l b d. refl;
        link = keeps_link;
        no_link_lem = keeps_no_link;
      }

  -- all rules but that of the outputs
  pub destroy_event-rest : But (outputs ∷ []) s → But (outputs ∷ []) (destroy_event s e)
  unfolding destroy_event put change
  destroy_event-rest h =
      let q = destroy_event s e in
      rw (← renewed-is (outside_within (destroy_event-writes s e) refl))
      (renewed-rest s (q EventState) (q EventPayload) (q LinkState) destroy_event_renewal h)

  -- that one too where it is no task's output
  keeps_outputs : (s EventType e ≡ output → ⊥) → Holds (says outputs s) → Holds (says outputs (destroy_event s e))
  unfolding destroy_event put change
  keeps_outputs user h i l = (λ x. go ((h i l).0 x) (event-after s e (i + 1)), (h i l).1)
    where
      other : Holds (output_of s i) → e ≡ i + 1 → ⊥
      other x p = user (ap (s EventType) p ∙ output_by_name i s x output_type)

      go : Holds (output_of s i) → EventAfter s e (i + 1) → Holds (output_of (destroy_event s e) i)
      go x (stays n q) = rw q x
      go x (gone_fired p f q) = absurd (other x p)
      go x (gone_unfired p f q) = absurd (other x p)

-- an event of type 1 to 4 that is not gone
pub destroy_event_keeps : (s : Session) (e : ℕ) → Holds (made s e) → Holds (is_user_event s e) → s EventState e ≤ fired
    → Kept s → Kept (destroy_event s e)
destroy_event_keeps s e is user was h =
    all (outputs ∷ []) (destroy_event-rest s e user.0 low was (but (outputs ∷ []) h)) again
  where
    below : e < object_places
    below = let c = h counts in omega arith

    low : 1 ≤ s EventState e
    low = event_by_name e s user.0 (h event_parts e below) state_low

    again : (n : Name) → Excepted (outputs ∷ []) n → Holds (says n (destroy_event s e))
    again outputs due = keeps_outputs s e user.0 low was (user_no_output (s EventType e) user.1) (h outputs)
    again counts x' = elim x' [ ]
    again Rattle.laws.specs.Rows.kinds x'' = elim x'' [ ]
    again Rattle.laws.specs.Rows.template_parts x3 = elim x3 [ ]
    again Rattle.laws.specs.Rows.task_parts x4 = elim x4 [ ]
    again event_parts x5 = elim x5 [ ]
    again Rattle.laws.specs.Rows.block_parts x6 = elim x6 [ ]
    again Rattle.laws.specs.Rows.roots x7 = elim x7 [ ]
    again Rattle.laws.specs.Rows.creators x8 = elim x8 [ ]
    again Rattle.laws.specs.Rows.slots x9 = elim x9 [ ]
    again Rattle.laws.specs.Rows.links x10 = elim x10 [ ]
    again Rattle.laws.specs.Rows.one_link x11 = elim x11 [ ]
    again Rattle.laws.specs.Rows.states x12 = elim x12 [ ]
    again Rattle.laws.specs.Rows.blocks x13 = elim x13 [ ]
    again Rattle.laws.specs.Rows.compatible x14 = elim x14 [ ]
    again Rattle.laws.specs.Rows.latches x15 = elim x15 [ ]
    again Rattle.laws.specs.Rows.counted_events x16 = elim x16 [ ]
    again Rattle.laws.specs.Rows.dropped x17 = elim x17 [ ]
    again Rattle.laws.specs.Rows.free_slots x18 = elim x18 [ ]
    again Rattle.laws.specs.Rows.free_links x19 = elim x19 [ ]
    again Rattle.laws.specs.Rows.settled x20 = elim x20 [ ]
