-- How an object that an operation may use stands in a sound session: an event open, a task waiting, its slot unsatisfied. Read of
-- the rules of the counts, of the objects of its kind, and of the outputs, the states or the slots.
use Rattle.std.specs.Prelude.{ℕ, ◌+◌, ◌≤◌, ◌<◌, ◌≡◌, ◌⊎◌}
use Rattle.std.proofs.Common.{inl, inr, arith}
use Rattle.session.specs.Table.{Session}
use Rattle.session.specs.declared.Field.TheVariants.{Links, Kind, TaskState, TaskSlots, TaskOutput, EventState, EventType}
use Rattle.session.specs.declared.Field.TheVariants.{BlockState, SlotMode, SlotMark, LinkState}
use Rattle.session.specs.Names.{task, event, waiting, resolved, running, ended, task_destroyed, event_open, fired, destroyed_unfired}
use Rattle.session.specs.Names.{most_objects, object_places}
use Rattle.session.specs.Names.{destroyed_fired, doomed, delivered, latch}
use Rattle.rules.specs.Formula.{Holds, Formula.◌≼◌}
use Rattle.rules.specs.EventTypeLaws.{latch-gone}
use Rattle.rules.specs.FormulaLaws.{Case, decide, Case.it_does, Case.it_does_not}
use Rattle.rules.specs.Reading.{at, made, is_gone, has_slot}
use Rattle.rules.specs.Checks.{or_null}
use Rattle.rules.specs.Sound.{block_part, slot, no_slot, claimed, leads_to, is_link}
use Rattle.laws.specs.Frame.{AllOf}
use Rattle.laws.specs.Rows.{says}
use Rattle.laws.specs.Keeping.{Sound}
use Rattle.laws.specs.Rows.Name.{counts, task_parts, event_parts, block_parts, outputs, slots, links, states}
use Rattle.laws.specs.Conjuncts.{claimed_says, claimed_by_name, Claimed.mode_low, Claimed.waits as awaits}
use Rattle.laws.specs.Conjuncts.{slot-place, link_row, link_by_name}
use Rattle.laws.specs.Conjuncts.{event_row, event_by_name, Event.state_low, Event.state_high}
use Rattle.laws.specs.Conjuncts.{task_by_name, Task.state_low as task_low, state_by_name, State.later_full}
use Rattle.laws.specs.Conjuncts.{output_row, output_by_name}
use Rattle.laws.specs.Conjuncts.Output.{output_made, output_event, fires_with, goes_with, stands}
use Rattle.laws.specs.SlotPlaces.{low_slot}

-- an object has a place
pub made_low : (s : Session) (h : ℕ) → Holds (says counts s) → Holds (made s h) → h < object_places
made_low s h c m = omega arith

-- so no handle that was made, or null, is past the largest
pub handle_made : (s : Session) (h : ℕ) → Sound s → Holds (made s h) → h ≤ most_objects
handle_made s h g m = let l = made_low s h (g counts) m in omega arith

pub handle_or_null : (s : Session) (h : ℕ) → Sound s → Holds (or_null s (made s) h) → h ≤ most_objects
handle_or_null s h g (inl z) = omega arith
handle_or_null s h g (inr m) = handle_made s h g m

-- an event that is not gone and has not fired is open
pub open_unless : (s : Session) (e : ℕ) → Holds (says counts s) → Holds (says event_parts s) → Holds (made s e)
    → s Kind e ≡ event → (Holds (is_gone s e) → ⊥) → (s EventState e ≡ fired → ⊥) → s EventState e ≡ event_open
open_unless s e c p m k there n = go (decide (destroyed_unfired ≼ s EventState e))
  where
    low : 1 ≤ s EventState e
    low = event_by_name e s k (p e (made_low s e c m)) state_low

    go : Case (destroyed_unfired ≼ s EventState e) → s EventState e ≡ event_open
    go (it_does h) = absurd (there (inr (inr (inl (k, inl h)))))
    go (it_does_not h) = let l = low in omega arith

-- a latch that is not gone is open
pub open_latch : (s : Session) (e : ℕ) → Holds (says counts s) → Holds (says event_parts s) → Holds (made s e)
    → s Kind e ≡ event → s EventType e ≡ latch → (Holds (is_gone s e) → ⊥) → s EventState e ≡ event_open
open_latch s e c p m k ty there =
    open_unless s e c p m k there (λ f. there (inr (inr (inl (k, inr (f, rw ty latch-gone))))))

-- what the rule of the outputs says of a task with an output event
pub output-at : (s : Session) (t : ℕ) → Holds (says outputs s) → Holds (made s t) → s Kind t ≡ task → s TaskOutput t ≡ 1
    → AllOf (output_row t) s
output-at s t out m k w = output_by_name t s ((out t (omega arith)).0 (k, w))

-- the output event of a live task is open
pub open_output : (s : Session) (t : ℕ) → Holds (says counts s) → Holds (says event_parts s) → Holds (says outputs s)
    → Holds (made s t) → s Kind t ≡ task → s TaskOutput t ≡ 1 → s TaskState t ≤ running → s EventState (t + 1) ≡ event_open
open_output s t c p out m k w q =
    let low = v state_low in
    let high = v state_high in
    let not-fired : s EventState (t + 1) ≡ fired → ⊥ = λ f. no_end ((x fires_with).0 f).0 in
    let not-cut : s EventState (t + 1) ≡ destroyed_unfired → ⊥ = λ f. no_destroyed ((x goes_with).0 f) in
    let not-both : s EventState (t + 1) ≡ destroyed_fired → ⊥ = x stands in
    omega arith
  where
    x : AllOf (output_row t) s
    x = output-at s t out m k w

    v : AllOf (event_row (t + 1)) s
    v = event_by_name (t + 1) s (x output_event) (p (t + 1) (made_low s (t + 1) c (x output_made)))

    no_end : s TaskState t ≡ ended → ⊥
    no_end e = omega arith

    no_destroyed : s TaskState t ≡ task_destroyed → ⊥
    no_destroyed e = omega arith

-- the output event of a task was never destroyed after it had fired
pub output_stands : (s : Session) (t : ℕ) → Holds (says outputs s) → Holds (made s t) → s Kind t ≡ task → s TaskOutput t ≡ 1
    → s EventState (t + 1) ≡ destroyed_fired → ⊥
output_stands s t out m k w = output-at s t out m k w stands

-- a task that is not gone and has an unsatisfied slot waits
pub waits : (s : Session) (t j : ℕ) → Holds (says counts s) → Holds (says task_parts s) → Holds (says states s) → Holds (made s t)
    → s Kind t ≡ task → (Holds (is_gone s t) → ⊥) → j < s TaskSlots t → s SlotMark (at t j) ≡ 0 → s TaskState t ≡ waiting
waits s t j c p st m k there l z = go (decide (ended ≼ s TaskState t)) (decide (resolved ≼ s TaskState t))
  where
    low : 1 ≤ s TaskState t
    low = task_by_name t s k (p t (made_low s t c m)) task_low

    go : Case (ended ≼ s TaskState t) → Case (resolved ≼ s TaskState t) → s TaskState t ≡ waiting
    go (it_does e) b = absurd (there (inr (inl (k, e))))
    go (it_does_not e) (it_does b) =
        let f : 1 ≤ s SlotMark (at t j) = state_by_name t s (st t (omega arith) k) later_full (b, omega arith) j l in
        absurd (omega arith)
    go (it_does_not e) (it_does_not b) = let o = low in omega arith

-- what the rule of the slots says at a slot that a task or an event has
pub slot_of : (s : Session) (t j : ℕ) → Holds (says counts s) → Holds (says task_parts s) → Holds (says slots s)
    → Holds (made s t) → Holds (has_slot s t j) → Holds (slot s t j)
slot_of s t j c p sl m h = sl t (omega arith) j (low_slot s t j (p t (made_low s t c m)) h)

-- an unclaimed slot is unsatisfied
pub unclaimed-mark : (s : Session) (t j : ℕ) → Holds (slot s t j) → s SlotMode (at t j) ≡ 0 → s SlotMark (at t j) ≡ 0
unclaimed-mark s t j x z = go (slot-place s t j x)
  where
    go : Holds (no_slot s (at t j)) ⊎ Holds (claimed s t j) → s SlotMark (at t j) ≡ 0
    go (inl y) = y.1.0
    go (inr y) = let b = claimed_by_name t j s y mode_low in absurd (omega arith)

-- so is one of a task not gone that has a link to it not delivered
pub awaited_mark : (s : Session) (t j l : ℕ) → Holds (slot s t j) → s Kind t ≡ task → (Holds (is_gone s t) → ⊥)
    → l < s Links 0 + 1 → Holds (leads_to s t j l) → (s LinkState l ≡ delivered → ⊥) → s SlotMark (at t j) ≡ 0
awaited_mark s t j l x k there m leads n = go (slot-place s t j x)
  where
    waits_yet : Holds (claimed_says t j awaits s) → s SlotMark (at t j) ≡ 0
    waits_yet (inl e) = absurd (there (inr (inl (k, omega arith))))
    waits_yet (inr y) = y.1 (l, m, (leads, n))

    go : Holds (no_slot s (at t j)) ⊎ Holds (claimed s t j) → s SlotMark (at t j) ≡ 0
    go (inl y) = y.1.0
    go (inr y) = waits_yet (claimed_by_name t j s y awaits)

-- what the rule of the links says of a link
pub link_at_lem : (s : Session) (l : ℕ) → Holds (says links s) → (1 ≤ l) × (l ≤ s Links 0) → AllOf (link_row l) s
link_at_lem s l x (a, b) = go (x l (omega arith))
  where
    go : l ≡ 0 ⊎ Holds (is_link s l) → AllOf (link_row l) s
    go (inl z) = absurd (omega arith)
    go (inr y) = link_by_name l s y

-- a block that is not gone is not doomed; what is no block has no block's state
pub block_stands : (s : Session) (b : ℕ) → Holds (says counts s) → Holds (says block_parts s) → Holds (made s b)
    → (Holds (is_gone s b) → ⊥) → s BlockState b ≤ 1
block_stands s b c p m there = go (decide (doomed ≼ s BlockState b)) (p b (made_low s b c m))
  where
    go : Case (doomed ≼ s BlockState b) → Holds (block_part s b) → s BlockState b ≤ 1
    go d (inr (n, (z, _))) = omega arith
    go (it_does d) (inl (k, _)) = absurd (there (inr (inr (inr (k, d)))))
    go (it_does_not d) (inl _) = omega arith
