-- How much a session holds, and the numbers of kinds, states, types, modes and marks, as they stand in a session's memory.
use Rattle.std.specs.Prelude.{ℕ, ◌+◌, ◌*◌}

-- A session has at most 512 objects and 2,048 links.
abbrev pub most_objects : ℕ
most_objects = 512

abbrev pub most_links : ℕ
most_links = 2048

-- A field has a place for each handle or link, and one for 0, which names none.
abbrev pub object_places : ℕ
object_places = most_objects + 1

abbrev pub link_places : ℕ
link_places = most_links + 1

-- A task has at most 16 pre-slots: so many places for each handle.
abbrev pub slot_places : ℕ
slot_places = 16 * object_places

-- Kinds of object. A task is OCR's EDT (event-driven task), a block its data block, a handle its GUID.
abbrev pub template : ℕ
template = 1

abbrev pub task : ℕ
task = 2

abbrev pub event : ℕ
event = 3

abbrev pub block : ℕ
block = 4

-- A template, an event or a block as it is made: live, open, live.
abbrev pub fresh : ℕ
fresh = 1

-- Template: live or destroyed.
abbrev pub template_destroyed : ℕ
template_destroyed = 2

-- A pre-slot count of a template: 0 to 16, or 17 for unknown.
abbrev pub unknown_count : ℕ
unknown_count = 17

-- Task: waiting (some pre-slot unsatisfied), resolved (none), granted, running, ended, destroyed.
abbrev pub waiting : ℕ
waiting = 1

abbrev pub resolved : ℕ
resolved = 2

abbrev pub granted : ℕ
granted = 3

abbrev pub running : ℕ
running = 4

abbrev pub ended : ℕ
ended = 5

abbrev pub task_destroyed : ℕ
task_destroyed = 6

-- Event: open, fired, or destroyed (with a mark whether it had fired).
abbrev pub event_open : ℕ
event_open = 1

abbrev pub fired : ℕ
fired = 2

abbrev pub destroyed_unfired : ℕ
destroyed_unfired = 3

abbrev pub destroyed_fired : ℕ
destroyed_fired = 4

-- Event: type 1 once, 2 idempotent, 3 sticky, 4 latch, 5 output; document 02, E4: 6 counted.
abbrev pub once : ℕ
once = 1

abbrev pub idempotent : ℕ
idempotent = 2

abbrev pub sticky : ℕ
sticky = 3

abbrev pub latch : ℕ
latch = 4

abbrev pub output : ℕ
output = 5

abbrev pub counted : ℕ
counted = 6

-- Block: live, doomed (to be destroyed when the last hold goes), destroyed.
abbrev pub doomed : ℕ
doomed = 2

abbrev pub block_destroyed : ℕ
block_destroyed = 3

-- Link: open, ready, delivered, cut.
abbrev pub link_open : ℕ
link_open = 1

abbrev pub ready : ℕ
ready = 2

abbrev pub delivered : ℕ
delivered = 3

abbrev pub cut : ℕ
cut = 4

-- Modes: 1 RO, 2 RW, 3 EW, 4 CONST.
abbrev pub mode_ro : ℕ
mode_ro = 1

abbrev pub mode_rw : ℕ
mode_rw = 2

abbrev pub mode_ew : ℕ
mode_ew = 3

abbrev pub mode_const : ℕ
mode_const = 4

-- A pre-slot's mark: 0 while unsatisfied, then satisfied, and held while its task holds its block.
abbrev pub satisfied : ℕ
satisfied = 1

abbrev pub held : ℕ
held = 2

-- A latch's count is kept with 32,767 added: its tally at the count 0, and the largest.
abbrev pub even_tally : ℕ
even_tally = 32767

abbrev pub top_tally : ℕ
top_tally = 65534

-- A counted event is made for so many links at the most.
abbrev pub most_count : ℕ
most_count = 16
