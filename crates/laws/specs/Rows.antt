-- The rules of a kept session by name: what each says, and which fields it reads. A new rule is a name and a row here, and a
-- line or two in ByName. The names are those of Sound, but for its two rules of many parts: what `objects` and `unused` say of
-- the objects of each kind, of the slots and of the links are rules of their own here (see Parts).
use Rattle.std.specs.Prelude.{refl, List, [], ◌∷◌, ◌++◌}
use Rattle.std.proofs.Common.{inr, arith}
use Rattle.session.specs.Table.{Session}
use Rattle.session.specs.declared.Field.{Field}
use Rattle.session.specs.declared.Field.TheVariants.{Objects, Links, Dropped, Kind, TemplateState, TemplateCount, TaskState}
use Rattle.session.specs.declared.Field.TheVariants.{TaskCreator, TaskSlots, TaskFinish, TaskOutput, EventState, EventType}
use Rattle.session.specs.declared.Field.TheVariants.{EventPayload, EventTally, BlockState, BlockCreator, BlockHeld, SlotMode}
use Rattle.session.specs.declared.Field.TheVariants.{SlotMark, SlotPayload, LinkSource, LinkTarget, LinkSlot, LinkState, EventCount}
use Rattle.rules.specs.Formula.{Formula}
use Rattle.rules.specs.Sound as rule
use Rattle.laws.specs.Parts as part
use Rattle.laws.specs.Shape.{fields_of}
use Rattle.laws.specs.Shape.Sort.{a_template, a_task, an_event, a_block}
use Rattle.laws.specs.Shape.Extent.{made_ones, every_handle}
use Rattle.laws.specs.Shape.Words.{own_words, more_words}
use Rattle.laws.specs.Frame.{Row, over, over_each}

pub data Name : Type 0 where
  counts kinds template_parts task_parts event_parts block_parts roots creators outputs slots links one_link states blocks : Name
  compatible latches counted_events dropped free_slots free_links settled : Name
  deriving Discrete as same_name

abbrev slot_fields : List Field
slot_fields = SlotMode ∷ SlotMark ∷ SlotPayload ∷ []

abbrev link_fields : List Field
link_fields = LinkSource ∷ LinkTarget ∷ LinkSlot ∷ LinkState ∷ []

-- a row for each name: that the fields are enough is `refl`, and where one is missing the check says which
-- A rule that speaks of each object is `over_each`: of which kind, made or at every handle; the fields; the rule; that the fields
-- are enough; that it says something of each object; that this is true of the other kinds; and whether it is said by the object's
-- own words (`refl` again), so that the making of other objects carries it over unseen.
abbrev pub row : Name → Row
row counts = over (Objects ∷ Links ∷ []) rule.counts (λ s. refl)
row kinds = over (Objects ∷ Kind ∷ []) part.kinds (λ s. refl)
row template_parts =
    over_each a_template every_handle (Kind ∷ fields_of a_template) part.template_parts (λ s. refl) (λ s. refl)
    (λ s h n z. inr (n, (z TemplateState refl, z TemplateCount refl))) (own_words (λ s h. refl))
row task_parts =
    over_each a_task every_handle (Kind ∷ fields_of a_task) part.task_parts (λ s. refl) (λ s. refl)
    (λ s h n z. inr (n, (z TaskState refl, (z TaskCreator refl, (z TaskSlots refl, (z TaskFinish refl, z TaskOutput refl))))))
    (own_words (λ s h. refl))
row event_parts =
    over_each an_event every_handle (Objects ∷ Kind ∷ fields_of an_event) part.event_parts (λ s. refl) (λ s. refl)
    (λ s h n z. inr (n, (z EventState refl, (z EventType refl, (z EventPayload refl, (z EventTally refl, z EventCount refl))))))
    more_words
row block_parts =
    over_each a_block every_handle (Objects ∷ Kind ∷ fields_of a_block) part.block_parts (λ s. refl) (λ s. refl)
    (λ s h n z. inr (n, (z BlockState refl, (z BlockCreator refl, z BlockHeld refl)))) more_words
row roots = over (Kind ∷ BlockCreator ∷ TaskCreator ∷ TaskSlots ∷ TaskFinish ∷ TaskOutput ∷ slot_fields) rule.roots (λ s. refl)
row creators =
    over_each a_task made_ones (Objects ∷ Kind ∷ TaskCreator ∷ TaskState ∷ []) rule.creators
    (λ s. refl) (λ s. refl) (λ s h n z x. absurd (n x)) more_words
row outputs =
    over (Objects ∷ Kind ∷ TaskState ∷ TaskCreator ∷ TaskFinish ∷ TaskOutput ∷ EventState ∷ EventType ∷ [])
    rule.outputs (λ s. refl)
row slots =
    over (Objects ∷ Links ∷ Kind ∷ TaskState ∷ TaskSlots ∷ EventPayload ∷ slot_fields ++ link_fields) rule.slots (λ s. refl)
row links = over (Objects ∷ Links ∷ Kind ∷ EventState ∷ EventType ∷ TaskSlots ∷ link_fields) rule.links (λ s. refl)
row one_link = over (Links ∷ Kind ∷ LinkTarget ∷ LinkSlot ∷ []) rule.one_link (λ s. refl)
row states =
    over_each a_task made_ones (Objects ∷ Kind ∷ TaskState ∷ TaskSlots ∷ SlotMark ∷ SlotPayload ∷ []) rule.states
    (λ s. refl) (λ s. refl) (λ s h n z x. absurd (n x)) (own_words (λ s h. refl))
row blocks =
    over_each a_block made_ones (Objects ∷ Kind ∷ TaskState ∷ fields_of a_block ++ SlotMark ∷ SlotPayload ∷ []) rule.blocks
    (λ s. refl) (λ s. refl) (λ s h n z x. absurd (n x)) more_words
row compatible = over (Objects ∷ BlockHeld ∷ BlockCreator ∷ slot_fields) rule.compatible (λ s. refl)
row latches =
    over_each an_event made_ones (Objects ∷ Kind ∷ EventType ∷ EventState ∷ EventTally ∷ []) rule.latches
    (λ s. refl) (λ s. refl) (λ s h n z x. absurd (n x.0)) (own_words (λ s h. refl))
row counted_events =
    over_each an_event made_ones (Objects ∷ Links ∷ EventType ∷ EventState ∷ EventCount ∷ LinkSource ∷ LinkState ∷ [])
    rule.counted_events (λ s. refl) (λ s. refl) (λ s h n z x. let none = z EventType refl in absurd (omega arith))
    (own_words (λ s h. refl))
row dropped = over (Dropped ∷ Links ∷ LinkState ∷ []) rule.dropped (λ s. refl)
row free_slots = over (Objects ∷ slot_fields) part.free_slots (λ s. refl)
row free_links = over (Links ∷ link_fields) part.free_links (λ s. refl)
row settled =
    over_each a_task made_ones (Objects ∷ Links ∷ TaskSlots ∷ SlotMark ∷ LinkTarget ∷ LinkSlot ∷ LinkState ∷ []) rule.settled
    (λ s. refl) (λ s. refl) (λ s h n z j l. let none = z TaskSlots refl in absurd (omega arith)) (own_words (λ s h. refl))

-- what a rule says of a session
abbrev pub says : Name → Session → Formula
says n = (row n).says
