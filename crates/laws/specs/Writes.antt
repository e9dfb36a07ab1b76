-- The fields that each effect writes, from its steps. The effects that are made of several are shown part by part.
use Rattle.std.specs.Prelude.{ℕ, List, [], ◌∷◌}
use Rattle.session.specs.Table.{Session}
use Rattle.session.specs.declared.Field.{Field}
use Rattle.session.specs.declared.Field.TheVariants.{Objects, Links, Kind, TemplateState, TemplateCount, TaskState}
use Rattle.session.specs.declared.Field.TheVariants.{TaskCreator, TaskSlots, TaskFinish, TaskOutput, EventState, EventType}
use Rattle.session.specs.declared.Field.TheVariants.{EventPayload, EventTally, EventCount, BlockState, BlockCreator, BlockHeld}
use Rattle.session.specs.declared.Field.TheVariants.{SlotMark, SlotPayload, LinkSource, LinkTarget, LinkSlot, LinkState}
use Rattle.rules.specs.Formula.{Formula}
use Rattle.rules.specs.Effects.{new, new_template, new_event, new_task, new_block, fire, fire_one, satisfy_slot}
use Rattle.rules.specs.Effects.{new_link, bury_doomed, let_go, release, destroy_event, expire}
use Rattle.rules.specs.Effects.{grant, start}
use Rattle.laws.specs.Outside.{Outside, outside_same, outside_put, outside_change}

pub new-writes : (s : Session) (h kind : ℕ) → Outside s (new s h kind) (Kind ∷ Objects ∷ [])
unfolding new
new-writes s h kind = outside_put _ _ (outside_put _ _ (outside_same s))

pub template-writes : (s : Session) (n : ℕ) → Outside s (new_template s n) (TemplateCount ∷ TemplateState ∷ Kind ∷ Objects ∷ [])
unfolding new_template
template-writes s n = outside_put _ _ (outside_put _ _ (new-writes s _ _))

abbrev pub event_fields : List Field
event_fields = EventCount ∷ EventTally ∷ EventType ∷ EventState ∷ Kind ∷ Objects ∷ []

pub event-writes : (s : Session) (h ty n : ℕ) → Outside s (new_event s h ty n) event_fields
unfolding new_event
event-writes s h ty n = outside_put _ _ (outside_put _ _ (outside_put _ _ (outside_put _ _ (new-writes s _ _))))

abbrev pub task_fields : List Field
task_fields = TaskOutput ∷ TaskFinish ∷ TaskSlots ∷ TaskCreator ∷ TaskState ∷ Kind ∷ Objects ∷ []

pub new_task-writes : (s : Session) (caller h n finish out : ℕ) → Outside s (new_task s caller h n finish out) task_fields
unfolding new_task
new_task-writes s caller h n finish out =
    outside_put _ _ (outside_put _ _ (outside_put _ _ (outside_put _ _ (outside_put _ _ (new-writes s _ _)))))

pub block_writes : (s : Session) (caller hold : ℕ)
    → Outside s (new_block s caller hold) (BlockHeld ∷ BlockCreator ∷ BlockState ∷ Kind ∷ Objects ∷ [])
unfolding new_block
block_writes s caller hold = outside_put _ _ (outside_put _ _ (outside_put _ _ (new-writes s _ _)))

abbrev pub fire_fields : List Field
fire_fields = LinkState ∷ EventPayload ∷ EventState ∷ []

pub fire-writes : (s : Session) (fires : ℕ → Formula) (payload : ℕ → ℕ) → Outside s (fire s fires payload) fire_fields
unfolding fire
fire-writes s fires payload = outside_change _ (outside_change _ (outside_change _ (outside_same s)))

pub fire_one-writes : (s : Session) (e p : ℕ) → Outside s (fire_one s e p) fire_fields
unfolding fire_one
fire_one-writes s e p = fire-writes s _ _

abbrev pub slot_fields : List Field
slot_fields = TaskState ∷ SlotPayload ∷ SlotMark ∷ []

pub satisfy_slot-writes : (s : Session) (t j p : ℕ) → Outside s (satisfy_slot s t j p) slot_fields
unfolding satisfy_slot
satisfy_slot-writes s t j p = outside_put _ _ (outside_put _ _ (outside_put _ _ (outside_same s)))

abbrev pub link_fields : List Field
link_fields = LinkState ∷ LinkSlot ∷ LinkTarget ∷ LinkSource ∷ Links ∷ []

pub new_link-writes : (s : Session) (source d j : ℕ) → Outside s (new_link s source d j) link_fields
unfolding new_link
new_link-writes s source d j =
    outside_put _ _ (outside_put _ _ (outside_put _ _ (outside_put _ _ (outside_put _ _ (outside_same s)))))

abbrev pub let_go_fields : List Field
let_go_fields = BlockState ∷ BlockHeld ∷ SlotMark ∷ []

pub let_go-writes : (s : Session) (t : ℕ) (which : ℕ → Formula) → Outside s (let_go s t which) let_go_fields
unfolding let_go bury_doomed
let_go-writes s t which = outside_change _ (outside_change _ (outside_change _ (outside_same s)))

pub release-writes : (s : Session) (caller b : ℕ) → Outside s (release s caller b) let_go_fields
unfolding release
release-writes s caller b = let_go-writes s caller _

pub destroy_event-writes : (s : Session) (e : ℕ) → Outside s (destroy_event s e) (LinkState ∷ EventState ∷ [])
unfolding destroy_event
destroy_event-writes s e = outside_change _ (outside_put _ _ (outside_same s))

pub expire-writes : (s : Session) (l : ℕ) → Outside s (expire s l) (EventState ∷ [])
unfolding expire
expire-writes s l = outside_put _ _ (outside_same s)

pub grant-writes : (s : Session) (t : ℕ) → Outside s (grant s t) (TaskState ∷ SlotMark ∷ [])
unfolding grant
grant-writes s t = outside_put _ _ (outside_change _ (outside_same s))

pub start-writes : (s : Session) (t : ℕ) → Outside s (start s t) (TaskState ∷ [])
unfolding start
start-writes s t = outside_put _ _ (outside_same s)
