-- One call, on any session: a refusal changes nothing, and an accepted operation undoes nothing that lasts.
use Rattle.std.specs.Prelude.{ℕ, ◌≤◌, ◌≡◌}
use Rattle.session.specs.Table.{Session}
use Rattle.session.specs.declared.Field.TheVariants.{Objects, Links, Kind, TaskState, TaskCreator, EventState, EventPayload}
use Rattle.session.specs.declared.Field.TheVariants.{BlockCreator, SlotMark, SlotPayload, LinkSource, LinkTarget, LinkSlot}
use Rattle.session.specs.declared.Field.TheVariants.{LinkState}
use Rattle.rules.specs.declared.Operation.{Operation}
use Rattle.session.specs.Names.{delivered, cut}
use Rattle.rules.specs.Step.{step}
use Rattle.laws.specs.Accepted.{Called, called, Called.refused, Called.accepted}
use Rattle.laws.specs.Operations.{accepted_later}
use Rattle.laws.specs.Lasting.{HadFired, Later, later_same}

-- a call undoes nothing
pub one-call : (s : Session) (o : Operation) → Later s (step s o).leaves
one-call s o = go (called s o)
  where
    go : Called s o → Later s (step s o).leaves
    go (refused n w e) = rw e (later_same s)
    go (accepted h n w e a) = rw e (accepted_later s o a h)

-- a refusal makes nothing and leaves the session as it was
pub refusal_stays : (s : Session) (o : Operation) → ((step s o).refused ≡ 0 → ⊥) → (step s o).leaves ≡ s
refusal_stays s o r = go (called s o)
  where
    go : Called s o → (step s o).leaves ≡ s
    go (refused n w e) = e
    go (accepted h n w e a) = absurd (r n)

pub refusal_makes_nothing : (s : Session) (o : Operation) → ((step s o).refused ≡ 0 → ⊥) → (step s o).made ≡ 0
refusal_makes_nothing s o r = go (called s o)
  where
    go : Called s o → (step s o).made ≡ 0
    go (refused n w e) = w
    go (accepted h n w e a) = absurd (r n)

-- what that says, by name
module _ (s : Session) (o : Operation) where
  -- the counts never fall
  pub objects_grow : s Objects 0 ≤ (step s o).leaves Objects 0
  objects_grow = (one-call s o).lasts Objects 0

  pub links_grow : s Links 0 ≤ (step s o).leaves Links 0
  links_grow = (one-call s o).lasts Links 0

  -- an object keeps its kind and creator
  pub kind_stays : (h : ℕ) → h ≤ s Objects 0 → (step s o).leaves Kind h ≡ s Kind h
  kind_stays h l = (one-call s o).lasts Kind h l

  pub task_creator_stays : (h : ℕ) → h ≤ s Objects 0 → (step s o).leaves TaskCreator h ≡ s TaskCreator h
  task_creator_stays h l = (one-call s o).lasts TaskCreator h l

  pub block_creator_stays : (h : ℕ) → h ≤ s Objects 0 → (step s o).leaves BlockCreator h ≡ s BlockCreator h
  block_creator_stays h l = (one-call s o).lasts BlockCreator h l

  -- a task's state only goes on
  pub task_state_grows : (t : ℕ) → t ≤ s Objects 0 → s TaskState t ≤ (step s o).leaves TaskState t
  task_state_grows t l = (one-call s o).lasts TaskState t l

  -- an event that fired stays fired, with its payload
  pub fired_stays : (e : ℕ) → e ≤ s Objects 0 → HadFired (s EventState e) → HadFired ((step s o).leaves EventState e)
  fired_stays e l h = ((one-call s o).lasts EventState e l).0 h

  pub payload_stays : (e : ℕ) → e ≤ s Objects 0 → HadFired (s EventState e) → (step s o).leaves EventPayload e ≡ s EventPayload e
  payload_stays e l h = (one-call s o).lasts EventPayload e l h

  -- a satisfied slot stays satisfied, with its payload
  pub satisfied_stays : (i : ℕ) → 1 ≤ s SlotMark i → 1 ≤ (step s o).leaves SlotMark i
  satisfied_stays i h = (one-call s o).lasts SlotMark i h

  pub slot_payload_stays : (i : ℕ) → 1 ≤ s SlotMark i → (step s o).leaves SlotPayload i ≡ s SlotPayload i
  slot_payload_stays i h = (one-call s o).lasts SlotPayload i h

  -- a link keeps its source, target and slot
  pub source_stays : (l : ℕ) → l ≤ s Links 0 → (step s o).leaves LinkSource l ≡ s LinkSource l
  source_stays l m = (one-call s o).lasts LinkSource l m

  pub target_stays : (l : ℕ) → l ≤ s Links 0 → (step s o).leaves LinkTarget l ≡ s LinkTarget l
  target_stays l m = (one-call s o).lasts LinkTarget l m

  pub link_slot_stays : (l : ℕ) → l ≤ s Links 0 → (step s o).leaves LinkSlot l ≡ s LinkSlot l
  link_slot_stays l m = (one-call s o).lasts LinkSlot l m

  -- a delivered or cut link stays so
  pub delivered_stays : (l : ℕ) → l ≤ s Links 0 → s LinkState l ≡ delivered → (step s o).leaves LinkState l ≡ delivered
  delivered_stays l m e = ((one-call s o).lasts LinkState l m).0 e

  pub cut_stays : (l : ℕ) → l ≤ s Links 0 → s LinkState l ≡ cut → (step s o).leaves LinkState l ≡ cut
  cut_stays l m e = ((one-call s o).lasts LinkState l m).1 e
