-- A firing of open events: their states and payloads change, and their open links become ready. All rules but that of the
-- outputs survive it; that one too where no output event fires.
use Rattle.std.specs.Prelude.{ℕ, ◌+◌, ◌≤◌, ◌<◌, ◌≡◌, ◌⊎◌, [], ◌∷◌}
use Rattle.std.proofs.Common.{sym, ◌∙◌, inr}
use Rattle.std.proofs.Math.Logic.{inl}
use native.Mathlib.Omega.{arith}
use Rattle.session.specs.Table.{Session, change}
use Rattle.session.specs.declared.Field.TheVariants.{Links, EventState, EventType, EventPayload, EventTally, LinkSource}
use Rattle.session.specs.declared.Field.TheVariants.{LinkState}
use Rattle.rules.specs.Formula.{Formula, Holds, Formula.◌≐◌, Formula.◌and◌}
use Rattle.rules.specs.FormulaLaws.{Case, decide, choose_yes, choose_no, Case.it_does, Case.it_does_not}
use Rattle.session.specs.Names.{event, event_open, fired, destroyed_unfired, link_open, ready, delivered, latch, output, even_tally}
use Rattle.rules.specs.Reading.{is_kind}
use Rattle.rules.specs.Effects.{fire}
use Rattle.rules.specs.Sound.{is_payload, event_part, is_link, output_of, agrees}
use Rattle.laws.specs.Writes.{fire_fields, fire-writes}
use Rattle.laws.specs.Frame.{DueOf, Shown.due}
use Rattle.laws.specs.Rows.{says}
use Rattle.laws.specs.Rows.Name.{outputs, links, free_links}
use Rattle.laws.specs.Keeping.{But}
use Rattle.laws.specs.Conjuncts.{Event, event_says, event_row, event_lasts, open_with, no_link_lem, link_by_name}
use Rattle.laws.specs.Conjuncts.{output_by_name, Output.output_type}
use Rattle.laws.specs.Conjuncts.Linked.{agreeing}
use Rattle.laws.specs.Conjuncts.Event.{state_low, state_high, has_payload, paid}
use Rattle.laws.specs.Renewing.{Renewal, had_fired, renewed-rest}

-- an event's state and payload after a firing
pub data EventAfter (s : Session) (fires : ℕ → Formula) (payload : ℕ → ℕ) (e : ℕ) : Type 0 where
  fires_now : Holds (fires e) → fire s fires payload EventState e ≡ fired → fire s fires payload EventPayload e ≡ payload e
      → EventAfter s fires payload e
  stays : (Holds (fires e) → ⊥) → fire s fires payload EventState e ≡ s EventState e
      → fire s fires payload EventPayload e ≡ s EventPayload e → EventAfter s fires payload e

pub event-after : (s : Session) (fires : ℕ → Formula) (payload : ℕ → ℕ) (e : ℕ) → EventAfter s fires payload e
unfolding fire change
event-after s fires payload e = go (decide (fires e))
  where
    go : Case (fires e) → EventAfter s fires payload e
    go (it_does h) =
        fires_now h (choose_yes (fires e) fired (s EventState e) h) (choose_yes (fires e) (payload e) (s EventPayload e) h)
    go (it_does_not n) =
        stays n (choose_no (fires e) fired (s EventState e) n) (choose_no (fires e) (payload e) (s EventPayload e) n)

-- a link's state after a firing
pub data LinkAfter (s : Session) (fires : ℕ → Formula) (payload : ℕ → ℕ) (l : ℕ) : Type 0 where
  ready_now : s LinkState l ≡ link_open → Holds (fires (s LinkSource l)) → fire s fires payload LinkState l ≡ ready
      → LinkAfter s fires payload l
  as_was : (s LinkState l ≡ link_open → Holds (fires (s LinkSource l)) → ⊥) → fire s fires payload LinkState l ≡ s LinkState l
      → LinkAfter s fires payload l

abbrev picked : Session → (ℕ → Formula) → ℕ → Formula
picked s fires l = (s LinkState l ≐ link_open) and fires (s LinkSource l)

pub link_after : (s : Session) (fires : ℕ → Formula) (payload : ℕ → ℕ) (l : ℕ) → LinkAfter s fires payload l
unfolding fire change
link_after s fires payload l = go (decide (picked s fires l))
  where
    go : Case (picked s fires l) → LinkAfter s fires payload l
    go (it_does h) = ready_now h.0 h.1 (choose_yes (picked s fires l) ready (s LinkState l) h)
    go (it_does_not n) = as_was (λ o f. n (o, f)) (choose_no (picked s fires l) ready (s LinkState l) n)

-- what may fire: an open event, with a payload, and a latch at the count 0
abbrev pub MayFire : Session → (ℕ → Formula) → (ℕ → ℕ) → Type 0
MayFire s fires payload =
    (e : ℕ) → Holds (fires e) → Holds (is_kind s event e) × (s EventState e ≡ event_open)
    × Holds (is_payload s (payload e)) × (s EventType e ≡ latch → s EventTally e ≡ even_tally)

-- a link is delivered after a firing exactly if it was
pub still_delivered : (s : Session) (fires : ℕ → Formula) (payload : ℕ → ℕ) (l : ℕ) → s LinkState l ≡ delivered
    → fire s fires payload LinkState l ≡ delivered
still_delivered s fires payload l d = go (link_after s fires payload l)
  where
    go : LinkAfter s fires payload l → fire s fires payload LinkState l ≡ delivered
    go (ready_now o f e) = absurd (omega arith)
    go (as_was n e) = e ∙ d

pub was_delivered : (s : Session) (fires : ℕ → Formula) (payload : ℕ → ℕ) (l : ℕ) → fire s fires payload LinkState l ≡ delivered
    → s LinkState l ≡ delivered
was_delivered s fires payload l d = go (link_after s fires payload l)
  where
    go : LinkAfter s fires payload l → s LinkState l ≡ delivered
    go (ready_now o f e) = absurd (omega arith)
    go (as_was n e) = sym e ∙ d

module _ (s : Session) (fires : ℕ → Formula) (payload : ℕ → ℕ) (may : MayFire s fires payload) (r : But (outputs ∷ []) s) where
  -- the source of a delivered link does not fire
  delivered_source : (l : ℕ) → l < s Links 0 + 1 → s LinkState l ≡ delivered → Holds (fires (s LinkSource l)) → ⊥
  delivered_source l m d f = go (r links l m)
    where
      go : (l ≡ 0) ⊎ Holds (is_link s l) → ⊥
      go (inl z) = let e : s LinkState l ≡ 0 = rw z (no_link_lem s 0 (r free_links).0).no_state in omega arith
      go (inr x) =
          let with-source = open_with (s LinkState l) (s EventState (s LinkSource l)) (link_by_name l s x agreeing) in
          let e : s LinkState l ≡ link_open = with-source.1 (may (s LinkSource l) f).1 in
          omega arith

  delivered_payload : (l : ℕ) → l < s Links 0 + 1 → s LinkState l ≡ delivered
      → fire s fires payload EventPayload (s LinkSource l) ≡ s EventPayload (s LinkSource l)
  delivered_payload l m d = go (event-after s fires payload (s LinkSource l))
    where
      go : EventAfter s fires payload (s LinkSource l)
          → fire s fires payload EventPayload (s LinkSource l) ≡ s EventPayload (s LinkSource l)
      go (fires_now f e p) = absurd (delivered_source l m d f)
      go (stays n e p) = p

  event-part : (h : ℕ) → Holds (event_part s h) → Holds (event_part (fire s fires payload) h)
  unfolding fire change
  event-part h x = go (event-after s fires payload h)
    where
      go : EventAfter s fires payload h → Holds (event_part (fire s fires payload) h)
      go (stays n e p) = rw (e, p) x
      go (fires_now f e p) = event_lasts h (fire-writes s fires payload) (may h f).0 x shows
        where
          shows : (n : Event) → DueOf (event_row h) fire_fields n → Holds (event_says h n (fire s fires payload))
          shows state_low due = omega arith
          shows state_high due = omega arith
          shows has_payload due = rw p (may h f).2
          shows paid due = inl e
          shows Rattle.laws.specs.Conjuncts.is_event x3 = elim x3 [ ]
          shows Rattle.laws.specs.Conjuncts.type_known x4 = elim x4 [ ]
          shows Rattle.laws.specs.Conjuncts.tally_high x5 = elim x5 [ ]
          shows Rattle.laws.specs.Conjuncts.tally_kind x6 = elim x6 [ ]
          shows Rattle.laws.specs.Conjuncts.count_fits x7 = elim x7 [ ]

  fire-latch : (e : ℕ) → s EventType e ≡ latch → (Holds (had_fired (s EventState e)) → s EventTally e ≡ even_tally)
      → Holds (had_fired (fire s fires payload EventState e)) → s EventTally e ≡ even_tally
  fire-latch e ty h x = go (event-after s fires payload e)
    where
      go : EventAfter s fires payload e → s EventTally e ≡ even_tally
      go (fires_now f q p) = (may e f).3 ty
      go (stays n q p) = h (rw q at x)

  fire-gone : (e : ℕ) → destroyed_unfired ≤ s EventState e → destroyed_unfired ≤ fire s fires payload EventState e
  fire-gone e l = go (event-after s fires payload e)
    where
      go : EventAfter s fires payload e → destroyed_unfired ≤ fire s fires payload EventState e
      go (fires_now f q p) = let o = (may e f).1 in absurd (omega arith)
      go (stays n q p) = rw q l

  fire_link : (l : ℕ) → Holds (agrees (s LinkState l) (s EventState (s LinkSource l)))
      → Holds (agrees (fire s fires payload LinkState l) (fire s fires payload EventState (s LinkSource l)))
  fire_link l x = go (link_after s fires payload l) (event-after s fires payload (s LinkSource l))
    where
      go : LinkAfter s fires payload l → EventAfter s fires payload (s LinkSource l)
          → Holds (agrees (fire s fires payload LinkState l) (fire s fires payload EventState (s LinkSource l)))
      go (ready_now o f e) (stays n e' p) = absurd (n f)
      go (ready_now o f e) (fires_now f' e' p) =
          rw (e, e') (omega arith, (omega arith, ((λ q. omega arith, λ q. omega arith), (λ q. omega arith, λ q. omega arith))))
      go (as_was n e) (stays n' e' p) = rw (e, e') x
      go (as_was n e) (fires_now f e' p) =
          absurd (n ((open_with (s LinkState l) (s EventState (s LinkSource l)) x).1 (may (s LinkSource l) f).1) f)

  fire-no_link : (l : ℕ) → s LinkState l ≡ 0 → fire s fires payload LinkState l ≡ 0
  fire-no_link l z = go (link_after s fires payload l)
    where
      go : LinkAfter s fires payload l → fire s fires payload LinkState l ≡ 0
      go (ready_now o f e) = omega arith
      go (as_was n e) = e ∙ z

  fire_renewal : Renewal s (fire s fires payload EventState) (fire s fires payload EventPayload) (fire s fires payload LinkState)
  unfolding fire change
  fire_renewal =
      record {
        part = event-part;
        latch = fire-latch;
        stays_gone = fire-gone;
        still_delivered = still_delivered s fires payload;
        was_delivered = was_delivered s fires payload;
        payload = delivered_payload;
        link = fire_link;
        no_link_lem = fire-no_link;
      }

-- all rules but that of the outputs survive a firing of any set of open events
pub fire-rest : (s : Session) (fires : ℕ → Formula) (payload : ℕ → ℕ) → But (outputs ∷ []) s → MayFire s fires payload
    → But (outputs ∷ []) (fire s fires payload)
unfolding fire change
fire-rest s fires payload r may =
    let q = fire s fires payload in
    renewed-rest s (q EventState) (q EventPayload) (q LinkState) (fire_renewal s fires payload may r) r

-- and that one too where no output event fires
pub fire_outputs_beside : (s : Session) (fires : ℕ → Formula) (payload : ℕ → ℕ)
    → ((e : ℕ) → Holds (fires e) → s EventType e ≡ output → ⊥)
    → Holds (says outputs s) → Holds (says outputs (fire s fires payload))
unfolding fire change
fire_outputs_beside s fires payload beside h i l = (λ x. go (event-after s fires payload (i + 1)) ((h i l).0 x), (h i l).1)
  where
    go : EventAfter s fires payload (i + 1) → Holds (output_of s i) → Holds (output_of (fire s fires payload) i)
    go (fires_now f e p) x = absurd (beside (i + 1) f (output_by_name i s x output_type))
    go (stays n e p) x = rw e x
