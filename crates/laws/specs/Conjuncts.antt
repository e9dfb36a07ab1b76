-- The conjuncts of the long formulas of Sound by name, each formula a table as the rules are: what is read of one is read by
-- name, and after a change only the conjuncts that read what it writes are shown. Here alone a conjunct is found by its place.
use Rattle.std.specs.Prelude.{ℕ, suc, ◌+◌, ◌-◌, ◌<◌, ◌≡◌, refl, false, List, [], ◌∷◌, ◌⊎◌}
use Rattle.std.proofs.Common.{inl, inr}
use Rattle.session.specs.Table.{Session}
use Rattle.session.specs.declared.Field.{Field}
use Rattle.session.specs.declared.Field.TheVariants.{Objects, Links, Kind, TaskState, TaskCreator, TaskSlots, TaskFinish}
use Rattle.session.specs.declared.Field.TheVariants.{TaskOutput, EventState, EventType, EventPayload, EventTally, EventCount, BlockState}
use Rattle.session.specs.declared.Field.TheVariants.{BlockCreator, BlockHeld, SlotMode, SlotMark, SlotPayload, LinkSource}
use Rattle.session.specs.declared.Field.TheVariants.{LinkTarget, LinkSlot, LinkState}
use Rattle.session.specs.Names.{task, event, block, waiting, resolved, running, ended, task_destroyed, event_open, fired}
use Rattle.session.specs.Names.{destroyed_unfired, destroyed_fired, link_open, delivered, cut, latch, output, held, top_tally}
use Rattle.session.specs.Names.{block_destroyed, mode_rw}
use Rattle.rules.specs.Formula.{Formula, Holds, not, ◌iff◌, Formula.◌≐◌, Formula.◌≼◌, Formula.◌and◌, Formula.◌or◌}
use Rattle.rules.specs.EventTypes.{is_event_type}
use Rattle.rules.specs.Formula.{Formula.◌then◌}
use Rattle.rules.specs.Formula.Formula.{each}
use Rattle.rules.specs.Reading.{at, made, is_kind, is_user_event, has_slot}
use Rattle.rules.specs.Effects.{finishes}
use Rattle.rules.specs.Sound.{is_fitting_count, is_payload, leads_to, no_slot, unclaimed, claimed, slot, is_link, task_part, event_part, block_part}
use Rattle.rules.specs.Sound.{no_link, creator, output_of, full, held_slot, state, roots, pending, agrees}
use Rattle.rules.specs.Descendants.{busy}
use Rattle.laws.specs.Outside.{Outside}
use Rattle.laws.specs.Frame.{meets, Row, over, AllOf, DueOf, lasts, row_lasts}

-- slot j of t is claimed
pub data Claimed : Type 0 where
  mode_low mode_high mark_high payload empty waits brought : Claimed

module _ (t j : ℕ) where
  abbrev pub claimed_row : Claimed → Row
  claimed_row mode_low = over (SlotMode ∷ []) (λ s. 1 ≼ s SlotMode (at t j)) (λ s. refl)
  claimed_row mode_high = over (SlotMode ∷ []) (λ s. s SlotMode (at t j) ≼ 4) (λ s. refl)
  claimed_row mark_high = over (SlotMark ∷ []) (λ s. s SlotMark (at t j) ≼ held) (λ s. refl)
  claimed_row payload = over (Objects ∷ Kind ∷ SlotPayload ∷ []) (λ s. is_payload s (s SlotPayload (at t j))) (λ s. refl)
  claimed_row empty =
      over (SlotMark ∷ SlotPayload ∷ [])
      (λ s. s SlotMark (at t j) ≐ 0 then s SlotPayload (at t j) ≐ 0) (λ s. refl)
  claimed_row waits =
      over (Links ∷ TaskState ∷ SlotMark ∷ LinkTarget ∷ LinkSlot ∷ LinkState ∷ [])
      (λ s. s TaskState t ≐ task_destroyed or (s SlotMark (at t j) ≐ 0 iff pending s t j)) (λ s. refl)
  claimed_row brought =
      over (Links ∷ EventPayload ∷ SlotMark ∷ SlotPayload ∷ LinkSource ∷ LinkTarget ∷ LinkSlot ∷ LinkState ∷ [])
      (λ s. 1 ≼ s SlotMark (at t j) then each (s Links 0 + 1) (λ l. leads_to s t j l and s LinkState l ≐ delivered
      then s SlotPayload (at t j) ≐ s EventPayload (s LinkSource l))) (λ s. refl)

  abbrev pub claimed_says : Claimed → Session → Formula
  claimed_says n = (claimed_row n).says

  pub claimed_by_name : (s : Session) → Holds (claimed s t j) → AllOf claimed_row s
  claimed_by_name s x mode_low = x.0
  claimed_by_name s x mode_high = x.1.0
  claimed_by_name s x mark_high = x.1.1.0
  claimed_by_name s x payload = x.1.1.1.0
  claimed_by_name s x empty = x.1.1.1.1.0
  claimed_by_name s x waits = x.1.1.1.1.1.0
  claimed_by_name s x brought = x.1.1.1.1.1.1

  pub claimed_of : (s : Session) → AllOf claimed_row s → Holds (claimed s t j)
  claimed_of s c = (c mode_low, (c mode_high, (c mark_high, (c payload, (c empty, (c waits, c brought))))))

  pub claimed_lasts : {s q : Session} {ws : List Field} → Outside s q ws → Holds (claimed s t j)
      → ((n : Claimed) → DueOf claimed_row ws n → Holds (claimed_says n q)) → Holds (claimed q t j)
  claimed_lasts {s = s} {q = q} o x shows = claimed_of q (lasts claimed_row o (claimed_by_name s x) shows)

-- what `event_part` says of an event
pub data Event : Type 0 where
  is_event state_low state_high type_known has_payload paid tally_high tally_kind count_fits : Event

module _ (e : ℕ) where
  abbrev pub event_row : Event → Row
  event_row is_event = over (Kind ∷ []) (λ s. is_kind s event e) (λ s. refl)
  event_row state_low = over (EventState ∷ []) (λ s. 1 ≼ s EventState e) (λ s. refl)
  event_row state_high = over (EventState ∷ []) (λ s. s EventState e ≼ destroyed_fired) (λ s. refl)
  event_row type_known = over (EventType ∷ []) (λ s. is_event_type (s EventType e)) (λ s. refl)
  event_row has_payload = over (Objects ∷ Kind ∷ EventPayload ∷ []) (λ s. is_payload s (s EventPayload e)) (λ s. refl)
  event_row paid =
      over (EventState ∷ EventPayload ∷ [])
      (λ s. s EventState e ≐ fired or s EventState e ≐ destroyed_fired or s EventPayload e ≐ 0) (λ s. refl)
  event_row tally_high = over (EventTally ∷ []) (λ s. s EventTally e ≼ top_tally) (λ s. refl)
  event_row tally_kind = over (EventType ∷ EventTally ∷ []) (λ s. s EventType e ≐ latch or s EventTally e ≐ 0) (λ s. refl)
  event_row count_fits = over (EventType ∷ EventCount ∷ []) (λ s. is_fitting_count (s EventType e) (s EventCount e)) (λ s. refl)

  abbrev pub event_says : Event → Session → Formula
  event_says n = (event_row n).says

  pub event_by_name : (s : Session) → s Kind e ≡ event → Holds (event_part s e) → AllOf event_row s
  event_by_name s k (inr x) n = absurd (x.0 k)
  event_by_name s k (inl x) is_event = x.0
  event_by_name s k (inl x) state_low = x.1.0
  event_by_name s k (inl x) state_high = x.1.1.0
  event_by_name s k (inl x) type_known = x.1.1.1.0
  event_by_name s k (inl x) has_payload = x.1.1.1.1.0
  event_by_name s k (inl x) paid = x.1.1.1.1.1.0
  event_by_name s k (inl x) tally_high = x.1.1.1.1.1.1.0
  event_by_name s k (inl x) tally_kind = x.1.1.1.1.1.1.1.0
  event_by_name s k (inl x) count_fits = x.1.1.1.1.1.1.1.1

  pub event_of : (s : Session) → AllOf event_row s → Holds (event_part s e)
  event_of s v = inl (v is_event, (v state_low, (v state_high, (v type_known, more))))
    where
      more : Holds (event_says has_payload s and event_says paid s and event_says tally_high s and event_says tally_kind s
          and event_says count_fits s)
      more = (v has_payload, (v paid, (v tally_high, (v tally_kind, v count_fits))))

  pub event_lasts : {s q : Session} {ws : List Field} → Outside s q ws → s Kind e ≡ event → Holds (event_part s e)
      → ((n : Event) → DueOf event_row ws n → Holds (event_says n q)) → Holds (event_part q e)
  event_lasts {s = s} {q = q} o k x shows = event_of q (lasts event_row o (event_by_name s k x) shows)

-- a link is open, and cut, exactly with its source
pub open_with : (link source : ℕ) → Holds (agrees link source) → Holds (link ≐ link_open iff source ≐ event_open)
open_with link source x = x.1.1.0

pub cut_with : (link source : ℕ) → Holds (agrees link source) → Holds (link ≐ cut iff source ≐ destroyed_unfired)
cut_with link source x = x.1.1.1

-- what `is_link` says
pub data Linked : Type 0 where
  source_made source_event target_made target_kind has_slot_lem agreeing : Linked

module _ (l : ℕ) where
  abbrev pub link_row : Linked → Row
  link_row source_made = over (Objects ∷ LinkSource ∷ []) (λ s. made s (s LinkSource l)) (λ s. refl)
  link_row source_event = over (Kind ∷ LinkSource ∷ []) (λ s. is_kind s event (s LinkSource l)) (λ s. refl)
  link_row target_made = over (Objects ∷ LinkTarget ∷ []) (λ s. made s (s LinkTarget l)) (λ s. refl)
  link_row target_kind =
      over (Kind ∷ EventType ∷ LinkTarget ∷ [])
      (λ s. is_kind s task (s LinkTarget l) or is_user_event s (s LinkTarget l)) (λ s. refl)
  link_row has_slot_lem =
      over (Kind ∷ TaskSlots ∷ EventType ∷ LinkTarget ∷ LinkSlot ∷ [])
      (λ s. has_slot s (s LinkTarget l) (s LinkSlot l)) (λ s. refl)
  link_row agreeing =
      over (EventState ∷ LinkSource ∷ LinkState ∷ []) (λ s. agrees (s LinkState l) (s EventState (s LinkSource l))) (λ s. refl)

  abbrev pub link_says : Linked → Session → Formula
  link_says n = (link_row n).says

  pub link_by_name : (s : Session) → Holds (is_link s l) → AllOf link_row s
  link_by_name s x source_made = x.0
  link_by_name s x source_event = x.1.0
  link_by_name s x target_made = x.1.1.0
  link_by_name s x target_kind = x.1.1.1.0
  link_by_name s x has_slot_lem = x.1.1.1.1.0
  link_by_name s x agreeing = x.1.1.1.1.1

  pub link_of : (s : Session) → AllOf link_row s → Holds (is_link s l)
  link_of s k = (k source_made, (k source_event, (k target_made, (k target_kind, (k has_slot_lem, k agreeing)))))

  pub link_lasts : {s q : Session} {ws : List Field} → Outside s q ws → Holds (is_link s l)
      → ((n : Linked) → DueOf link_row ws n → Holds (link_says n q)) → Holds (is_link q l)
  link_lasts {s = s} {q = q} o x shows = link_of q (lasts link_row o (link_by_name s x) shows)

-- what `task_part` says of a task
pub data Task : Type 0 where
  is_task state_low state_high few_slots finish_flag output_flag : Task

module _ (t : ℕ) where
  abbrev pub task_row : Task → Row
  task_row is_task = over (Kind ∷ []) (λ s. is_kind s task t) (λ s. refl)
  task_row state_low = over (TaskState ∷ []) (λ s. 1 ≼ s TaskState t) (λ s. refl)
  task_row state_high = over (TaskState ∷ []) (λ s. s TaskState t ≼ task_destroyed) (λ s. refl)
  task_row few_slots = over (TaskSlots ∷ []) (λ s. s TaskSlots t ≼ 16) (λ s. refl)
  task_row finish_flag = over (TaskFinish ∷ []) (λ s. s TaskFinish t ≼ 1) (λ s. refl)
  task_row output_flag = over (TaskOutput ∷ []) (λ s. s TaskOutput t ≼ 1) (λ s. refl)

  abbrev pub task_says : Task → Session → Formula
  task_says n = (task_row n).says

  pub task_by_name : (s : Session) → s Kind t ≡ task → Holds (task_part s t) → AllOf task_row s
  task_by_name s k (inr x) n = absurd (x.0 k)
  task_by_name s k (inl x) is_task = x.0
  task_by_name s k (inl x) state_low = x.1.0
  task_by_name s k (inl x) state_high = x.1.1.0
  task_by_name s k (inl x) few_slots = x.1.1.1.0
  task_by_name s k (inl x) finish_flag = x.1.1.1.1.0
  task_by_name s k (inl x) output_flag = x.1.1.1.1.1

  pub task_of : (s : Session) → AllOf task_row s → Holds (task_part s t)
  task_of s v = inl (v is_task, (v state_low, (v state_high, (v few_slots, (v finish_flag, v output_flag)))))

  pub task_lasts : {s q : Session} {ws : List Field} → Outside s q ws → s Kind t ≡ task → Holds (task_part s t)
      → ((n : Task) → DueOf task_row ws n → Holds (task_says n q)) → Holds (task_part q t)
  task_lasts {s = s} {q = q} o k x shows = task_of q (lasts task_row o (task_by_name s k x) shows)

-- the fields of a task where there is none
pub record NoTask (s : Session) (h : ℕ) : Type 0 where
  pub no_state : s TaskState h ≡ 0
  pub no_creator : s TaskCreator h ≡ 0
  pub no_slots : s TaskSlots h ≡ 0
  pub no_finish : s TaskFinish h ≡ 0
  pub no_output : s TaskOutput h ≡ 0

pub no_task : (s : Session) (h : ℕ) → (s Kind h ≡ task → ⊥) → Holds (task_part s h) → NoTask s h
no_task s h n (inl x) = absurd (n x.0)
no_task s h n (inr x) =
    record {
      no_state = x.1.0;
      no_creator = x.1.1.0;
      no_slots = x.1.1.1.0;
      no_finish = x.1.1.1.1.0;
      no_output = x.1.1.1.1.1;
    }

-- those of an event
pub record NoEvent (s : Session) (h : ℕ) : Type 0 where
  pub no_state : s EventState h ≡ 0
  pub no_type : s EventType h ≡ 0
  pub no_payload : s EventPayload h ≡ 0
  pub no_tally : s EventTally h ≡ 0
  pub no_count : s EventCount h ≡ 0

pub no_event : (s : Session) (h : ℕ) → (s Kind h ≡ event → ⊥) → Holds (event_part s h) → NoEvent s h
no_event s h n (inl x) = absurd (n x.0)
no_event s h n (inr x) =
    record {
      no_state = x.1.0;
      no_type = x.1.1.0;
      no_payload = x.1.1.1.0;
      no_tally = x.1.1.1.1.0;
      no_count = x.1.1.1.1.1;
    }

-- those of a link
pub record NoLink (s : Session) (l : ℕ) : Type 0 where
  pub no_source : s LinkSource l ≡ 0
  pub no_target : s LinkTarget l ≡ 0
  pub no_slot_lem : s LinkSlot l ≡ 0
  pub no_state : s LinkState l ≡ 0

pub no_link_lem : (s : Session) (l : ℕ) → Holds (no_link s l) → NoLink s l
no_link_lem s l x = record { no_source = x.0; no_target = x.1.0; no_slot_lem = x.1.1.0; no_state = x.1.1.1 }

-- what `block_part` says of a block
pub data Block : Type 0 where
  is_block state_low state_high held_flag_lem has_creator : Block

module _ (b : ℕ) where
  abbrev pub block_row : Block → Row
  block_row is_block = over (Kind ∷ []) (λ s. is_kind s block b) (λ s. refl)
  block_row state_low = over (BlockState ∷ []) (λ s. 1 ≼ s BlockState b) (λ s. refl)
  block_row state_high = over (BlockState ∷ []) (λ s. s BlockState b ≼ block_destroyed) (λ s. refl)
  block_row held_flag_lem = over (BlockHeld ∷ []) (λ s. s BlockHeld b ≼ 1) (λ s. refl)
  block_row has_creator =
      over (Objects ∷ Kind ∷ BlockCreator ∷ [])
      (λ s. b ≐ 1 and s BlockCreator b ≐ 0 or made s (s BlockCreator b) and is_kind s task (s BlockCreator b)) (λ s. refl)

  abbrev pub block_says : Block → Session → Formula
  block_says n = (block_row n).says

  pub block_by_name : (s : Session) → s Kind b ≡ block → Holds (block_part s b) → AllOf block_row s
  block_by_name s k (inr x) n = absurd (x.0 k)
  block_by_name s k (inl x) is_block = x.0
  block_by_name s k (inl x) state_low = x.1.0
  block_by_name s k (inl x) state_high = x.1.1.0
  block_by_name s k (inl x) held_flag_lem = x.1.1.1.0
  block_by_name s k (inl x) has_creator = x.1.1.1.1

  pub block_of : (s : Session) → AllOf block_row s → Holds (block_part s b)
  block_of s v = inl (v is_block, (v state_low, (v state_high, (v held_flag_lem, v has_creator))))

  pub block_lasts : {s q : Session} {ws : List Field} → Outside s q ws → s Kind b ≡ block → Holds (block_part s b)
      → ((n : Block) → DueOf block_row ws n → Holds (block_says n q)) → Holds (block_part q b)
  block_lasts {s = s} {q = q} o k x shows = block_of q (lasts block_row o (block_by_name s k x) shows)

-- what `output_of` says of a task's output event
pub data Output : Type 0 where
  output_made output_event output_type fires_with goes_with stands : Output

module _ (t : ℕ) where
  abbrev pub output_row : Output → Row
  output_row output_made = over (Objects ∷ []) (λ s. made s (t + 1)) (λ s. refl)
  output_row output_event = over (Kind ∷ []) (λ s. is_kind s event (t + 1)) (λ s. refl)
  output_row output_type = over (EventType ∷ []) (λ s. s EventType (t + 1) ≐ output) (λ s. refl)
  output_row fires_with =
      over (Objects ∷ Kind ∷ TaskState ∷ TaskCreator ∷ TaskFinish ∷ EventState ∷ [])
      (λ s. s EventState (t + 1) ≐ fired iff (s TaskState t ≐ ended and (s TaskFinish t ≐ 0 or not (busy s t)))) (λ s. refl)
  output_row goes_with =
      over (TaskState ∷ EventState ∷ [])
      (λ s. s EventState (t + 1) ≐ destroyed_unfired iff s TaskState t ≐ task_destroyed) (λ s. refl)
  output_row stands = over (EventState ∷ []) (λ s. not (s EventState (t + 1) ≐ destroyed_fired)) (λ s. refl)

  abbrev pub output_says : Output → Session → Formula
  output_says n = (output_row n).says

  pub output_by_name : (s : Session) → Holds (output_of s t) → AllOf output_row s
  output_by_name s x output_made = x.0
  output_by_name s x output_event = x.1.0
  output_by_name s x output_type = x.1.1.0
  output_by_name s x fires_with = x.1.1.1.0
  output_by_name s x goes_with = x.1.1.1.1.0
  output_by_name s x stands = x.1.1.1.1.1

  pub output_of_lem : (s : Session) → AllOf output_row s → Holds (output_of s t)
  output_of_lem s v = (v output_made, (v output_event, (v output_type, (v fires_with, (v goes_with, v stands)))))

  pub output_lasts : {s q : Session} {ws : List Field} → Outside s q ws → Holds (output_of s t)
      → ((n : Output) → DueOf output_row ws n → Holds (output_says n q)) → Holds (output_of q t)
  output_lasts {s = s} {q = q} o x shows = output_of_lem q (lasts output_row o (output_by_name s x) shows)

-- what `state` says of a task and its slots
pub data State : Type 0 where
  waits_unfilled later_full holding_slot : State

module _ (t : ℕ) where
  abbrev pub state_row : State → Row
  state_row waits_unfilled =
      over (TaskState ∷ TaskSlots ∷ SlotMark ∷ []) (λ s. s TaskState t ≐ waiting then not (full s t)) (λ s. refl)
  state_row later_full =
      over (TaskState ∷ TaskSlots ∷ SlotMark ∷ [])
      (λ s. resolved ≼ s TaskState t and s TaskState t ≼ ended then full s t) (λ s. refl)
  state_row holding_slot =
      over (TaskState ∷ TaskSlots ∷ SlotMark ∷ SlotPayload ∷ []) (λ s. each (s TaskSlots t) (held_slot s t)) (λ s. refl)

  abbrev pub state_says : State → Session → Formula
  state_says n = (state_row n).says

  pub state_by_name : (s : Session) → Holds (state s t) → AllOf state_row s
  state_by_name s x waits_unfilled = x.0
  state_by_name s x later_full = x.1.0
  state_by_name s x holding_slot = x.1.1

  pub state_of : (s : Session) → AllOf state_row s → Holds (state s t)
  state_of s v = (v waits_unfilled, (v later_full, v holding_slot))

  pub state_lasts : {s q : Session} {ws : List Field} → Outside s q ws → Holds (state s t)
      → ((n : State) → DueOf state_row ws n → Holds (state_says n q)) → Holds (state q t)
  state_lasts {s = s} {q = q} o x shows = state_of q (lasts state_row o (state_by_name s x) shows)

-- what `roots` says of objects 1 and 2
pub data Root : Type 0 where
  first_block first_creator main_task main_creator main_slots main_finish main_output main_mode main_mark main_payload : Root

abbrev pub root_row : Root → Row
root_row first_block = over (Kind ∷ []) (λ s. is_kind s block 1) (λ s. refl)
root_row first_creator = over (BlockCreator ∷ []) (λ s. s BlockCreator 1 ≐ 0) (λ s. refl)
root_row main_task = over (Kind ∷ []) (λ s. is_kind s task 2) (λ s. refl)
root_row main_creator = over (TaskCreator ∷ []) (λ s. s TaskCreator 2 ≐ 0) (λ s. refl)
root_row main_slots = over (TaskSlots ∷ []) (λ s. s TaskSlots 2 ≐ 1) (λ s. refl)
root_row main_finish = over (TaskFinish ∷ []) (λ s. s TaskFinish 2 ≐ 0) (λ s. refl)
root_row main_output = over (TaskOutput ∷ []) (λ s. s TaskOutput 2 ≐ 0) (λ s. refl)
root_row main_mode = over (SlotMode ∷ []) (λ s. s SlotMode (at 2 0) ≐ mode_rw) (λ s. refl)
root_row main_mark = over (SlotMark ∷ []) (λ s. 1 ≼ s SlotMark (at 2 0)) (λ s. refl)
root_row main_payload = over (SlotPayload ∷ []) (λ s. s SlotPayload (at 2 0) ≐ 1) (λ s. refl)

abbrev pub root_says : Root → Session → Formula
root_says n = (root_row n).says

pub roots_by_name : (s : Session) → Holds (roots s) → AllOf root_row s
roots_by_name s x first_block = x.0
roots_by_name s x first_creator = x.1.0
roots_by_name s x main_task = x.1.1.0
roots_by_name s x main_creator = x.1.1.1.0
roots_by_name s x main_slots = x.1.1.1.1.0
roots_by_name s x main_finish = x.1.1.1.1.1.0
roots_by_name s x main_output = x.1.1.1.1.1.1.0
roots_by_name s x main_mode = x.1.1.1.1.1.1.1.0
roots_by_name s x main_mark = x.1.1.1.1.1.1.1.1.0
roots_by_name s x main_payload = x.1.1.1.1.1.1.1.1.1

pub roots_of : (s : Session) → AllOf root_row s → Holds (roots s)
roots_of s v = (v first_block, (v first_creator, (v main_task, (v main_creator, (v main_slots, (v main_finish, more))))))
  where
    more : Holds (root_says main_output s and root_says main_mode s and root_says main_mark s and root_says main_payload s)
    more = (v main_output, (v main_mode, (v main_mark, v main_payload)))

pub roots_last : {s q : Session} {ws : List Field} → Outside s q ws → Holds (roots s)
    → ((n : Root) → DueOf root_row ws n → Holds (root_says n q)) → Holds (roots q)
roots_last {s = s} {q = q} o x shows = roots_of q (lasts root_row o (roots_by_name s x) shows)

-- what `finishes` says of an output event, whose task is the one before it
pub record Finishes (s : Session) (e : ℕ) : Type 0 where
  pub kind : s Kind e ≡ event
  pub type : s EventType e ≡ output
  pub unfired : s EventState e ≡ event_open
  pub finish : s TaskFinish (e - 1) ≡ 1
  pub over : s TaskState (e - 1) ≡ ended
  pub idle : Holds (busy s (e - 1)) → ⊥

pub finishes_by_name : (s : Session) (e : ℕ) → Holds (finishes s e) → Finishes s e
finishes_by_name s e x =
    record {
      kind = x.0;
      type = x.1.0;
      unfired = x.1.1.0;
      finish = x.1.1.1.0;
      over = x.1.1.1.1.0;
      idle = x.1.1.1.1.1;
    }

pub finishes_of : (s : Session) (e : ℕ) → Finishes s e → Holds (finishes s e)
finishes_of s e f = (f.kind, (f.type, (f.unfired, (f.finish, (f.over, f.idle)))))

-- a task's creator runs or has ended
abbrev pub started : Session → ℕ → Formula
started s t = s TaskState (s TaskCreator t) ≐ running or s TaskState (s TaskCreator t) ≐ ended

-- the other conjuncts of `creator`, of a task that is not the main one
abbrev lower_row : ℕ → Row
lower_row t =
    over (Kind ∷ TaskCreator ∷ [])
    (λ s. 1 ≼ s TaskCreator t and suc (s TaskCreator t) ≼ t and is_kind s task (s TaskCreator t)) (λ s. refl)

-- where no kind and no creator is written, that one is shown
pub creator_lasts : (t : ℕ) {s q : Session} {ws : List Field} → Outside s q ws → meets ws (Kind ∷ TaskCreator ∷ []) ≡ false
    → (Holds (started s t) → Holds (started q t)) → Holds (creator s t) → Holds (creator q t)
creator_lasts t o e f (inl m) = inl m
creator_lasts t o e f (inr x) =
    let y = row_lasts o (lower_row t) e (x.0, (x.1.0, x.1.1.0)) in inr (y.0, (y.1.0, (y.1.1, f x.1.1.1)))

-- a slot has nothing, being unclaimed or none of the task's, or is claimed
pub slot-place : (s : Session) (t j : ℕ) → Holds (slot s t j) → Holds (no_slot s (at t j)) ⊎ Holds (claimed s t j)
slot-place s t j (inl (k, (l, inl (mode, (mark, (p, n)))))) = inl (mode, (mark, p))
slot-place s t j (inl (k, (l, inr x))) = inr x
slot-place s t j (inr (past, x)) = inl x

-- what `unclaimed` says of a slot
pub record Unclaimed (s : Session) (t j : ℕ) : Type 0 where
  pub no_mode : s SlotMode (at t j) ≡ 0
  pub no_mark : s SlotMark (at t j) ≡ 0
  pub no_payload : s SlotPayload (at t j) ≡ 0
  pub none_leads : (l : ℕ) → l < s Links 0 + 1 → Holds (leads_to s t j l) → ⊥

pub unclaimed_by_name : (s : Session) (t j : ℕ) → Holds (unclaimed s t j) → Unclaimed s t j
unclaimed_by_name s t j x =
    record { no_mode = x.0; no_mark = x.1.0; no_payload = x.1.1.0; none_leads = λ l b y. x.1.1.1 (l, b, y) }
