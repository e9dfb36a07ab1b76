-- How a rule speaks of the objects. Many say something of each object of one kind, most of them by that object's own words
-- alone. When an object is made, such a rule is shown of the new object where one of its kind is made, and nowhere else.
use Rattle.std.specs.Prelude.{ℕ, ◌+◌, ◌≡◌, Bool, true, false, List, [], ◌∷◌, ◌++◌}
use Rattle.session.specs.Table.{Session, pick, same}
use Rattle.session.specs.declared.Field.{Field}
use Rattle.session.specs.declared.Field.TheVariants.{Objects, Kind, TemplateState, TemplateCount, TaskState, TaskCreator}
use Rattle.session.specs.declared.Field.TheVariants.{TaskSlots, TaskFinish, TaskOutput, EventState, EventType, EventPayload}
use Rattle.session.specs.declared.Field.TheVariants.{EventTally, EventCount, BlockState, BlockCreator, BlockHeld}
use Rattle.session.specs.Names.{template, task, event, block, object_places}
use Rattle.rules.specs.Formula.{Formula, Holds, Formula.◌≐◌, Formula.each}
use Rattle.laws.specs.Outside.{among}

-- the kinds of objects, with their numbers and the fields that an object of the kind has
pub data Sort : Type 0 where
  a_template a_task an_event a_block : Sort
  deriving Discrete as same-sort

abbrev pub is : Sort → Sort → Bool
is j k = elim (same-sort j k) [ yes e ↦ true | no e ↦ false ]

abbrev pub kind_of : Sort → ℕ
kind_of a_template = template
kind_of a_task = task
kind_of an_event = event
kind_of a_block = block

abbrev pub fields_of : Sort → List Field
fields_of a_template = TemplateState ∷ TemplateCount ∷ []
fields_of a_task = TaskState ∷ TaskCreator ∷ TaskSlots ∷ TaskFinish ∷ TaskOutput ∷ []
fields_of an_event = EventState ∷ EventType ∷ EventPayload ∷ EventTally ∷ EventCount ∷ []
fields_of a_block = BlockState ∷ BlockCreator ∷ BlockHeld ∷ []

-- the fields with a word for each object
abbrev pub object_fields : List Field
object_fields = Kind ∷ fields_of a_template ++ fields_of a_task ++ fields_of an_event ++ fields_of a_block

abbrev pub part : Field → Bool
part f = among f object_fields

-- an object has nothing in these fields
abbrev pub None : List Field → Session → ℕ → Type 0
None fs s h = (f : Field) → among f fs ≡ true → s f h ≡ 0

-- the session as one object sees it: of the objects' words none but its own, and not how many there are
abbrev pub own : ℕ → Session → Session
own h s f i = pick (part f) (s f h) (pick (same Objects f) 0 (s f i))

-- the objects that a rule speaks of: those made, or those of all handles
pub data Extent : Type 0 where
  made_ones every_handle : Extent

abbrev pub reach : Extent → Session → ℕ
reach made_ones s = s Objects 0 + 1
reach every_handle s = object_places

-- what is said of one object is said by its own words, or reads those of other objects too
pub data Words (one : Session → ℕ → Formula) : Type 0 where
  own_words : ((s : Session) (h : ℕ) → one (own h s) h ≡ one s h) → Words one
  more_words : Words one

-- A rule says `one` of each object, and it is about those of kind k: of the others it is true. Or it has another shape.
pub data Shape (f : Session → Formula) : Type 0 where
  any_shape : Shape f
  each_object : (k : Sort) (p : Extent) (one : Session → ℕ → Formula) → ((s : Session) → f s ≡ each (reach p s) (one s))
      → ((s : Session) (h : ℕ) → (s Kind h ≡ kind_of k → ⊥) → None (fields_of k) s h → Holds (one s h))
      → Words one → Shape f

module _ {f : Session → Formula} where
  abbrev pub is_each : Shape f → Bool
  is_each any_shape = false
  is_each (each_object k p one e others w) = true

  -- what is said of one object, and of which
  abbrev pub said_of : Shape f → Session → ℕ → Formula
  said_of any_shape s h = 0 ≐ 0
  said_of (each_object k p one e others w) s h = one s h

  abbrev pub extent : Shape f → Extent
  extent any_shape = made_ones
  extent (each_object k p one e others w) = p

  -- a rule about objects of kind k
  abbrev pub is_about : Sort → Shape f → Bool
  is_about k any_shape = false
  is_about k (each_object j p one e others w) = is j k

  -- it reads the words of other objects
  abbrev pub reads_more : Shape f → Bool
  reads_more any_shape = false
  reads_more (each_object k p one e others (own_words l)) = false
  reads_more (each_object k p one e others more_words) = true
