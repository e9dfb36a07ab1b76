-- What the functions that satisfy ask of a session (all of it follows from a sound one and the checks, see Bounds), and what
-- a satisfied pre-slot or event leaves.
use Rattle.std.specs.Prelude.{ℕ, ◌+◌, ◌-◌, ◌≤◌, ◌<◌, ◌≡◌, Bool, true, false}
use Rattle.std.proofs.Common.{ap, sym, ◌∙◌}
use Rattle.session.specs.Table.{Session, put, pick, at}
use Rattle.session.specs.declared.Field.TheVariants.{Links, Kind, TaskState, TaskSlots, EventState, EventType, EventTally}
use Rattle.session.specs.declared.Field.TheVariants.{SlotMark, SlotPayload}
use Rattle.session.specs.Names.{most_objects, most_links, task, latch, top_tally, fired, satisfied, resolved}
use Rattle.rules.specs.Formula.{choose, test, Formula.◌≐◌}
use Rattle.rules.specs.FormulaLaws.{choose_yes, choose_no}
use Rattle.rules.specs.Sound.{full}
use Rattle.rules.specs.Effects.{fire_one, satisfy_slot, tally, satisfy_event}
use Rattle.laws.specs.Puts.{put_same}
use Rattle.effects.specs.OpenLinks.{NoMoreLinks}

-- event e has a place, and so have the links
pub record Firable (s : Session) (e : ℕ) : Type 0 where
  pub handle : e ≤ most_objects
  pub links : s Links 0 ≤ most_links
  pub no_more : NoMoreLinks s

-- a satisfaction of slot j leaves latch e in its range
pub record Countable (s : Session) (e j : ℕ) : Type 0 where
  pub top : s EventTally e ≤ top_tally
  pub low : j ≡ 0 → 1 ≤ s EventTally e

-- task t has few slots, and j may be one of them
pub record Fillable (s : Session) (t j : ℕ) : Type 0 where
  pub slot : j < 16
  pub count : s TaskSlots t ≤ 16

-- event e can be satisfied at slot j
pub record Triggerable (s : Session) (e j : ℕ) : Type 0 where
  pub fires : Firable s e
  pub counts : s EventType e ≡ latch → Countable s e j

-- task or event d can be satisfied at slot j
pub record Satisfiable (s : Session) (d j : ℕ) : Type 0 where
  pub fires : Firable s d
  pub fills : s Kind d ≡ task → Fillable s d j
  pub counts : (s Kind d ≡ task → ⊥) → s EventType d ≡ latch → Countable s d j

-- a latch's tally n once its slot j was satisfied
unfoldable pub next_tally : ℕ → ℕ → ℕ
next_tally n j = choose (j ≐ 0) (n - 1) (n + 1)

-- slot j of task t satisfied with p, the task's state as it was
abbrev pub filled : Session → ℕ → ℕ → ℕ → Session
filled s t j p = put (put s SlotMark (at t j) satisfied) SlotPayload (at t j) p

abbrev with_state : Session → ℕ → ℕ → ℕ → Bool → Session
with_state s t j p b = put (filled s t j p) TaskState t (pick b resolved (s TaskState t))

-- the last slot, and another
pub filled_last : (s : Session) (t j p : ℕ) → test (full (filled s t j p) t) ≡ true
    → put (filled s t j p) TaskState t resolved ≡ satisfy_slot s t j p
unfolding satisfy_slot put
filled_last s t j p e = ap (with_state s t j p) (sym e)

pub filled-one : (s : Session) (t j p : ℕ) → test (full (filled s t j p) t) ≡ false → filled s t j p ≡ satisfy_slot s t j p
unfolding satisfy_slot put
filled-one s t j p e = sym (put_same (filled s t j p) TaskState t) ∙ ap (with_state s t j p) (sym e)

-- an event by its type and state: a latch counts, one that has fired stays, another fires
pub event-counts : (s : Session) (e j p : ℕ) → s EventType e ≡ latch → satisfy_event s e j p ≡ tally s e j
unfolding satisfy_event
event-counts s e j p t = choose_yes (s EventType e ≐ latch) (tally s e j) (choose (s EventState e ≐ fired) s (fire_one s e p)) t

pub event_stays : (s : Session) (e j p : ℕ) → (s EventType e ≡ latch → ⊥) → s EventState e ≡ fired → satisfy_event s e j p ≡ s
unfolding satisfy_event
event_stays s e j p t f =
    choose_no (s EventType e ≐ latch) (tally s e j) (choose (s EventState e ≐ fired) s (fire_one s e p)) t ∙ choose_yes
    (s EventState e ≐ fired) s (fire_one s e p) f

pub event_fires : (s : Session) (e j p : ℕ) → (s EventType e ≡ latch → ⊥) → (s EventState e ≡ fired → ⊥)
    → satisfy_event s e j p ≡ fire_one s e p
unfolding satisfy_event
event_fires s e j p t f =
    choose_no (s EventType e ≐ latch) (tally s e j) (choose (s EventState e ≐ fired) s (fire_one s e p)) t ∙ choose_no
    (s EventState e ≐ fired) s (fire_one s e p) f
