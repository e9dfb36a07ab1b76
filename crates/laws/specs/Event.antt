-- Making an event keeps the rules: three are about events, their part of the objects, the tallies of latches that have fired, and the
-- links of counted ones. An output event is made in the same way, and its rule is shown with its task.
use Rattle.std.specs.Prelude.{ℕ, ◌+◌, ◌≤◌, ◌<◌, ◌≡◌, [], ◌∷◌}
use Rattle.std.proofs.Math.Path.{refl}
use Rattle.std.proofs.Common.{sym, ◌∙◌, inl, inr, eq-eqb}
use native.Mathlib.Omega.{arith}
use Rattle.session.specs.Table.{Session, put}
use Rattle.session.specs.declared.Field.TheVariants.{Kind, EventState, EventType, EventPayload, EventTally, EventCount, Links}
use Rattle.session.specs.declared.Field.TheVariants.{LinkSource}
use Rattle.rules.specs.Formula.{Holds, choose, Formula.◌≐◌, Formula.◌≼◌, Formula.◌and◌, Formula.◌or◌}
use Rattle.rules.specs.EventTypes.{is_event_type}
use Rattle.rules.specs.EventTypeLaws.{offered_known, offered_no_output, offered_no_counted, counted_known}
use Rattle.rules.specs.FormulaLaws.{Case, decide, choose_yes, choose_no, Case.it_does, Case.it_does_not}
use Rattle.session.specs.Names.{event, event_open, fired, destroyed_fired, latch, output, counted, even_tally, top_tally, most_objects}
use Rattle.rules.specs.Reading.{leads_from, served_from, links_from, delivered_from}
use Rattle.rules.specs.Checks.{event_checks, counted_checks}
use Rattle.rules.specs.Sound.{is_fitting_count, counted_at}
use Rattle.rules.specs.Effects.{new, new_event}
use Rattle.laws.specs.Met.{Checked}
use Rattle.laws.specs.Outside.{outside_within}
use Rattle.laws.specs.Writes.{event-writes}
use Rattle.laws.specs.Shape.Sort.{an_event}
use Rattle.laws.specs.Frame.{Shown.due}
use Rattle.laws.specs.Rows.{Name}
use Rattle.laws.specs.Rows.Name.{event_parts, latches, counted_events, outputs}
use Rattle.laws.specs.Keeping.{But, but, Kept}
use Rattle.laws.specs.Conjuncts.{Event, event_says, event_of}
use Rattle.laws.specs.Conjuncts.Event.{is_event, state_low, state_high, type_known, has_payload, paid, tally_high}
use Rattle.laws.specs.Conjuncts.Event.{tally_kind, count_fits}
use Rattle.laws.specs.Counting.{count_none}
use Rattle.laws.specs.Grown.{next, Built, Built.counted as from-count, Built.written}
use Rattle.laws.specs.Born.{Born, nothing}
use Rattle.laws.specs.Making.{New, says_of, ends_old}
use Rattle.laws.specs.MakingOutputs.{plain_keeps}

-- a new latch's tally is that of the count 0, and no other event has one
abbrev tally : ℕ → ℕ
tally ty = choose (ty ≐ latch) even_tally 0

tally-fits : (ty : ℕ) → Holds (tally ty ≼ top_tally and (ty ≐ latch or tally ty ≐ 0))
tally-fits ty = go (decide (ty ≐ latch))
  where
    go : Case (ty ≐ latch) → Holds (tally ty ≼ top_tally and (ty ≐ latch or tally ty ≐ 0))
    go (it_does x) = let e = choose_yes (ty ≐ latch) even_tally 0 x in (omega arith, inl x)
    go (it_does_not n) = let e = choose_no (ty ≐ latch) even_tally 0 n in (omega arith, inr e)

module _ (s : Session) (ty count : ℕ) where
  abbrev after : Session
  after = new_event s (next s) ty count

  built : Built s (next s) after
  unfolding new_event new
  built =
      written _ EventCount count refl (written _ EventTally (tally ty) refl
      (written _ EventType ty refl (written _ EventState event_open refl (written _ Kind event refl from-count))))

  pub event_kind : after Kind (next s) ≡ event
  unfolding new_event new put
  event_kind = rw (eq-eqb (next s) (next s) refl) refl

  pub event_open_lem : after EventState (next s) ≡ event_open
  unfolding new_event new put
  event_open_lem = rw (eq-eqb (next s) (next s) refl) refl

  pub event_type : after EventType (next s) ≡ ty
  unfolding new_event new put
  event_type = rw (eq-eqb (next s) (next s) refl) refl

  event-tally : after EventTally (next s) ≡ tally ty
  unfolding new_event new put
  event-tally = rw (eq-eqb (next s) (next s) refl) refl

  event-count : after EventCount (next s) ≡ count
  unfolding new_event new put
  event-count = rw (eq-eqb (next s) (next s) refl) refl

  pub event_born : next s ≤ most_objects → Born s after an_event
  event_born l = record { room = l; built = built; writes = outside_within (event-writes s (next s) ty count) refl; kind = event_kind }

  module _ (known : Holds (is_event_type ty)) (fits : Holds (is_fitting_count ty count)) (room : next s ≤ most_objects)
      (h : But (outputs ∷ []) s) where
    unpaid : after EventPayload (next s) ≡ 0
    unfolding new_event new put
    unpaid = (nothing (event_born room) h).fields an_event EventPayload refl

    conjuncts : (n : Event) → Holds (event_says (next s) n after)
    conjuncts is_event = event_kind
    conjuncts state_low = let e = event_open_lem in omega arith
    conjuncts state_high = let e = event_open_lem in omega arith
    conjuncts type_known = rw event_type known
    conjuncts has_payload = inl unpaid
    conjuncts paid = inr (inr unpaid)
    conjuncts tally_high = rw event-tally (tally-fits ty).0
    conjuncts tally_kind = rw (event_type, event-tally) (tally-fits ty).1
    conjuncts count_fits = rw (event_type, event-count) fits

    unfired : Holds (after EventState (next s) ≐ fired or after EventState (next s) ≐ destroyed_fired) → ⊥
    unfired (inl x) = let e = event_open_lem in omega arith
    unfired (inr x) = let e = event_open_lem in omega arith

    -- no link leads from it
    none_from : (l : ℕ) → l < s Links 0 + 1 → s LinkSource l ≡ next s → ⊥
    none_from l m e = let a = (ends_old (event_born room) h l m).0 in omega arith

    none_made : links_from s (next s) ≡ 0
    none_made = count_none (s Links 0 + 1) (leads_from s (next s)) none_from

    none_served : delivered_from s (next s) ≡ 0
    none_served = count_none (s Links 0 + 1) (served_from s (next s)) (λ l m x. none_from l m x.0)

    unserved : ty ≡ counted → 0 ≡ count → ⊥
    unserved e z = go fits
      where
        go : Holds (is_fitting_count ty count) → ⊥
        go (inl x) = let l = x.1.0 in omega arith
        go (inr x) = x.0 e

    counts_none : Holds (counted_at after (next s))
    unfolding new_event new put
    counts_none x =
        rw (none_made, none_served, event-count)
        (omega arith, λ z. absurd (unserved (sym event_type ∙ x) z))

    pub event_shows : (n : Name) → New an_event n → Holds (says_of n after (next s))
    event_shows event_parts due = event_of (next s) after conjuncts
    event_shows latches due = λ x. absurd (unfired x.1.1)
    event_shows counted_events due = counts_none
    event_shows Rattle.laws.specs.Rows.counts x' = elim x' [ ]
    event_shows Rattle.laws.specs.Rows.kinds x'' = elim x'' [ ]
    event_shows Rattle.laws.specs.Rows.template_parts x3 = elim x3 [ ]
    event_shows Rattle.laws.specs.Rows.task_parts x4 = elim x4 [ ]
    event_shows Rattle.laws.specs.Rows.block_parts x5 = elim x5 [ ]
    event_shows Rattle.laws.specs.Rows.roots x6 = elim x6 [ ]
    event_shows Rattle.laws.specs.Rows.creators x7 = elim x7 [ ]
    event_shows outputs x8 = elim x8 [ ]
    event_shows Rattle.laws.specs.Rows.slots x9 = elim x9 [ ]
    event_shows Rattle.laws.specs.Rows.links x10 = elim x10 [ ]
    event_shows Rattle.laws.specs.Rows.one_link x11 = elim x11 [ ]
    event_shows Rattle.laws.specs.Rows.states x12 = elim x12 [ ]
    event_shows Rattle.laws.specs.Rows.blocks x13 = elim x13 [ ]
    event_shows Rattle.laws.specs.Rows.compatible x14 = elim x14 [ ]
    event_shows Rattle.laws.specs.Rows.dropped x15 = elim x15 [ ]
    event_shows Rattle.laws.specs.Rows.free_slots x16 = elim x16 [ ]
    event_shows Rattle.laws.specs.Rows.free_links x17 = elim x17 [ ]
    event_shows Rattle.laws.specs.Rows.settled x18 = elim x18 [ ]

-- an event that is no task's output
made-event : (s : Session) (ty n : ℕ) → Holds (is_event_type ty) → Holds (is_fitting_count ty n) → (ty ≡ output → ⊥)
    → next s ≤ most_objects → Kept s → Kept (new_event s (next s) ty n)
made-event s ty n known fits user l r =
    let k = event_kind s ty n in
    plain_keeps (event_born s ty n l) (λ e. omega arith) (λ _ e. user (sym (event_type s ty n) ∙ e))
    (event_shows s ty n known fits l (but (outputs ∷ []) r)) r

pub event_keeps : (s : Session) (caller ty : ℕ) → Checked (event_checks s caller ty) → Kept s → Kept (new_event s (next s) ty 0)
event_keeps s caller ty m r =
    made-event s ty 0 (offered_known ty (m 7)) (inr (offered_no_counted ty (m 7), refl)) (offered_no_output ty (m 7)) (m 20) r

pub counted_keeps : (s : Session) (caller n : ℕ) → Checked (counted_checks s caller n) → Kept s
    → Kept (new_event s (next s) counted n)
counted_keeps s caller n m r = made-event s counted n counted_known (inl (refl, m 7)) (λ e. omega arith) (m 20) r
