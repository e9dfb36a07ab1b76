-- The relation between a session and the book of demand 3: what both say of everything that is not destroyed. It has clauses by
-- name, each with the fields and the columns that it reads: after a change of both only the clauses that read what is written are
-- shown, and the others last.
use Rattle.std.specs.Prelude.{ℕ, ◌+◌, ◌≤◌, ◌<◌, ◌≡◌, refl, Bool, true, false, List, [], ◌∷◌}
use Rattle.std.proofs.Common.{eq-eqb}
use Rattle.session.specs.Table.{Session, at, pick}
use Rattle.session.specs.TableLaws.{same_refl}
use Rattle.session.specs.declared.Field.{Field}
use Rattle.session.specs.declared.Field.TheVariants.{Objects, Links, Dropped, Kind, TemplateCount, TaskState, TaskCreator}
use Rattle.session.specs.declared.Field.TheVariants.{TaskSlots, TaskFinish, TaskOutput, EventState, EventType, EventPayload}
use Rattle.session.specs.declared.Field.TheVariants.{EventTally, BlockState, SlotMode, SlotMark, SlotPayload, LinkSource}
use Rattle.session.specs.declared.Field.TheVariants.{LinkTarget, LinkSlot, LinkState}
use Rattle.session.specs.Names.{template, task, block, running, ended, task_destroyed, event_open, doomed, delivered}
use Rattle.rules.specs.Formula.{Holds}
use Rattle.rules.specs.EventTypes.{fires_at_first}
use Rattle.rules.specs.Book.{Book, Column, column}
use Rattle.laws.specs.Tables.{meets_of, only_of, alike}
use Rattle.laws.specs.Outside.{fields, Outside, outside_same, outside_within}
use Rattle.laws.specs.BookEntries.{columns, OutsideBook}
use Rattle.laws.specs.Frame.{Shown, Shown.due}
pub use Rattle.laws.specs.Lasting.{HadFired}

-- two columns are one
abbrev pub Same : (ℕ → ℕ) → (ℕ → ℕ) → Type 0
Same f g = (i : ℕ) → f i ≡ g i

-- a column is 0 past place n: nothing was entered of what is not made yet
abbrev pub Blank : ℕ → (ℕ → ℕ) → Type 0
Blank n f = (i : ℕ) → n < i → f i ≡ 0

-- a mark is 1 if P, and 0 if not
abbrev pub Marks : Type 0 → ℕ → Type 0
Marks P n = (P → n ≡ 1) × ((P → ⊥) → n ≡ 0)

-- what an object of kind k counts
abbrev pub CountOf : ℕ → (ℕ → ℕ) → (ℕ → ℕ) → (ℕ → ℕ) → Type 0
CountOf k kind count slots = (h : ℕ) → kind h ≡ k → count h ≡ slots h

-- a pre-slot: not satisfied, and no time in the book; or satisfied, and once in the book with the same payload
abbrev pub SlotAgrees : ℕ → ℕ → ℕ → ℕ → Type 0
SlotAgrees mark payload times brought = (mark ≡ 0 → times ≡ 0) × (1 ≤ mark → (times ≡ 1) × (brought ≡ payload))

-- so is each pre-slot of each of n objects that is a task and not destroyed
abbrev pub SlotsAgree : ℕ → (ℕ → ℕ) → (ℕ → ℕ) → (ℕ → ℕ) → (ℕ → ℕ) → (ℕ → ℕ) → (ℕ → ℕ) → (ℕ → ℕ) → Type 0
SlotsAgree n kind state slots mark payload times brought =
    (h : ℕ) → h < n + 1 → kind h ≡ task → (state h ≡ task_destroyed → ⊥) → (j : ℕ) → j < slots h
    → SlotAgrees (mark (at h j)) (payload (at h j)) (times (at h j)) (brought (at h j))

-- a task has ended exactly if its end was entered
abbrev pub EndedAgree : (ℕ → ℕ) → (ℕ → ℕ) → Type 0
EndedAgree state column = (h : ℕ) → Marks (state h ≡ ended) (column h)

-- it runs or has ended exactly if it started, once
abbrev pub StartsAgree : (ℕ → ℕ) → (ℕ → ℕ) → Type 0
StartsAgree state column = (h : ℕ) → Marks ((running ≤ state h) × (state h ≤ ended)) (column h)

-- a task is destroyed exactly if the book has destroyed it
abbrev pub TasksDestroyed : (ℕ → ℕ) → (ℕ → ℕ) → (ℕ → ℕ) → Type 0
TasksDestroyed kind state column = (h : ℕ) → kind h ≡ task → Marks (state h ≡ task_destroyed) (column h)

-- a block is doomed or destroyed exactly if the book has destroyed it
abbrev pub BlocksDestroyed : (ℕ → ℕ) → (ℕ → ℕ) → (ℕ → ℕ) → Type 0
BlocksDestroyed kind state column = (h : ℕ) → kind h ≡ block → Marks (doomed ≤ state h) (column h)

-- an event that has fired has the book's payload
abbrev pub FiredHas : (ℕ → ℕ) → (ℕ → ℕ) → (ℕ → ℕ) → Type 0
FiredHas state payload has = (e : ℕ) → HadFired (state e) → has e ≡ payload e

-- an open one has nothing yet: so a latch, and a finish task's output event, fires with what the book says
abbrev pub OpenHas : (ℕ → ℕ) → (ℕ → ℕ) → Type 0
OpenHas state has = (e : ℕ) → state e ≡ event_open → has e ≡ 0

-- an event of type 1 to 3 was satisfied if it has fired, and not if it is open. (Of one destroyed unfired nothing is said: the
-- book counts deliveries to it that the session drops.)
abbrev pub SatisfiedAgree : (ℕ → ℕ) → (ℕ → ℕ) → (ℕ → ℕ) → Type 0
SatisfiedAgree type state column =
    (e : ℕ) → Holds (fires_at_first (type e)) → (state e ≡ event_open → column e ≡ 0) × (HadFired (state e) → column e ≡ 1)

-- a link is struck out exactly if it is delivered or cut
abbrev pub StruckAgree : ℕ → (ℕ → ℕ) → (ℕ → ℕ) → Type 0
StruckAgree n state column = (l : ℕ) → 1 ≤ l → l ≤ n → Marks (delivered ≤ state l) (column l)

-- The clauses: the same objects and links, with what they were made with; of tasks, blocks, events and links what happened to
-- them; and nothing entered of what is not made.
pub data Clause : Type 0 where
  same_objects same_links same_kinds same_types same_makers same_finishes same_outputs : Clause
  same_sources same_targets same_slots task_counts template_counts : Clause
  slots_agree ended_agree starts_agree tasks_destroyed blocks_destroyed fired_has open_has satisfied_agree struck_agree : Clause
  blank_kinds blank_times blank_satisfied blank_has blank_starts blank_ended blank_destroyed blank_struck : Clause

-- What a clause says of a session and a book, with the fields and the columns that it reads: of a session and a book with no
-- others it says the same. And the kind of the objects that it is about, 0 if they are of all kinds or none.
pub record Row : Type 1 where
  pub says : Session → Book → Type 0
  pub reads : List Field
  pub reads_book : List Column
  pub enough : (s : Session) (b : Book) → says (only_of fields reads s) (only_of columns reads_book b) ≡ says s b
  pub kind : ℕ

abbrev over_kind : (k : ℕ) (fs : List Field) (cs : List Column) (f : Session → Book → Type 0)
    → ((s : Session) (b : Book) → f (only_of fields fs s) (only_of columns cs b) ≡ f s b) → Row
over_kind k fs cs f e = record { says = f; reads = fs; reads_book = cs; enough = e; kind = k }

abbrev over : (fs : List Field) (cs : List Column) (f : Session → Book → Type 0)
    → ((s : Session) (b : Book) → f (only_of fields fs s) (only_of columns cs b) ≡ f s b) → Row
over fs cs f e = over_kind 0 fs cs f e

-- a column is a field of the session
abbrev copies : Column → Field → Row
copies c f =
    over (f ∷ []) (c ∷ []) (λ s b. Same (b c) (s f)) (λ s b. rw (same_refl f, eq-eqb (column c) (column c) refl) refl)

-- nothing is entered of an object that is not made
abbrev blanks : Column → Row
blanks c = over (Objects ∷ []) (c ∷ []) (λ s b. Blank (s Objects 0) (b c)) (λ s b. rw (eq-eqb (column c) (column c) refl) refl)

-- a row for each name: where a field or a column is missing the check says which
abbrev pub row : Clause → Row
row same_objects =
    over (Objects ∷ []) (Column.Objects ∷ []) (λ s b. b Column.Objects 0 ≡ s Objects 0) (λ s b. refl)
row same_links = over (Links ∷ []) (Column.Links ∷ []) (λ s b. b Column.Links 0 ≡ s Links 0) (λ s b. refl)
row same_kinds = copies Column.Kind Kind
row same_types = copies Column.EventType EventType
row same_makers = copies Column.Maker TaskCreator
row same_finishes = copies Column.Finish TaskFinish
row same_outputs = copies Column.Output TaskOutput
row same_sources = copies Column.LinkSource LinkSource
row same_targets = copies Column.LinkTarget LinkTarget
row same_slots = copies Column.LinkSlot LinkSlot
row task_counts =
    over_kind task (Kind ∷ TaskSlots ∷ []) (Column.Count ∷ [])
    (λ s b. CountOf task (s Kind) (b Column.Count) (s TaskSlots)) (λ s b. refl)
row template_counts =
    over_kind template (Kind ∷ TemplateCount ∷ []) (Column.Count ∷ [])
    (λ s b. CountOf template (s Kind) (b Column.Count) (s TemplateCount)) (λ s b. refl)
row slots_agree =
    over_kind task (Objects ∷ Kind ∷ TaskState ∷ TaskSlots ∷ SlotMark ∷ SlotPayload ∷ []) (Column.Times ∷ Column.Brought ∷ [])
    (λ s b. SlotsAgree (s Objects 0) (s Kind) (s TaskState) (s TaskSlots) (s SlotMark) (s SlotPayload)
    (b Column.Times) (b Column.Brought)) (λ s b. refl)
row ended_agree = over (TaskState ∷ []) (Column.Ended ∷ []) (λ s b. EndedAgree (s TaskState) (b Column.Ended)) (λ s b. refl)
row starts_agree =
    over (TaskState ∷ []) (Column.Starts ∷ []) (λ s b. StartsAgree (s TaskState) (b Column.Starts)) (λ s b. refl)
row tasks_destroyed =
    over_kind task (Kind ∷ TaskState ∷ []) (Column.Destroyed ∷ [])
    (λ s b. TasksDestroyed (s Kind) (s TaskState) (b Column.Destroyed)) (λ s b. refl)
row blocks_destroyed =
    over_kind block (Kind ∷ BlockState ∷ []) (Column.Destroyed ∷ [])
    (λ s b. BlocksDestroyed (s Kind) (s BlockState) (b Column.Destroyed)) (λ s b. refl)
row fired_has =
    over (EventState ∷ EventPayload ∷ []) (Column.Has ∷ [])
    (λ s b. FiredHas (s EventState) (s EventPayload) (b Column.Has)) (λ s b. refl)
row open_has = over (EventState ∷ []) (Column.Has ∷ []) (λ s b. OpenHas (s EventState) (b Column.Has)) (λ s b. refl)
row satisfied_agree =
    over (EventType ∷ EventState ∷ []) (Column.Satisfied ∷ [])
    (λ s b. SatisfiedAgree (s EventType) (s EventState) (b Column.Satisfied)) (λ s b. refl)
row struck_agree =
    over (Links ∷ LinkState ∷ []) (Column.Struck ∷ [])
    (λ s b. StruckAgree (s Links 0) (s LinkState) (b Column.Struck)) (λ s b. refl)
row blank_kinds = blanks Column.Kind
row blank_times =
    over (Objects ∷ []) (Column.Times ∷ []) (λ s b. Blank (at (s Objects 0) 15) (b Column.Times)) (λ s b. refl)
row blank_satisfied = blanks Column.Satisfied
row blank_has = blanks Column.Has
row blank_starts = blanks Column.Starts
row blank_ended = blanks Column.Ended
row blank_destroyed = blanks Column.Destroyed
row blank_struck = over (Links ∷ []) (Column.Struck ∷ []) (λ s b. Blank (s Links 0) (b Column.Struck)) (λ s b. refl)

abbrev pub says : Clause → Session → Book → Type 0
says c = (row c).says

-- the relation is all its clauses: of `r : Related s b`, `r starts_agree` is what they say of starts
abbrev pub Related : Session → Book → Type 0
Related s b = (c : Clause) → says c s b

-- a clause reads one of the fields ws or of the columns cs
abbrev pub is_due : List Field → List Column → Clause → Bool
is_due ws cs c = pick (meets_of fields ws (row c).reads) true (meets_of columns cs (row c).reads_book)

-- so a change that writes these has to show it
abbrev pub Due : List Field → List Column → Clause → Type 0
Due ws cs c = Shown (is_due ws cs c)

-- a clause that is not due lasts
pub clause_lasts : {s q : Session} {b d : Book} {ws : List Field} {cs : List Column} → Outside s q ws → OutsideBook b d cs
    → (c : Clause) → says c s b → (Due ws cs c → says c q d) → says c q d
clause_lasts {s = s} {q = q} {b = b} {d = d} {ws = ws} {cs = cs} o p c h shows =
    go (meets_of fields ws (row c).reads) refl (meets_of columns cs (row c).reads_book) refl
  where
    go : (x : Bool) → meets_of fields ws (row c).reads ≡ x → (y : Bool) → meets_of columns cs (row c).reads_book ≡ y → says c q d
    go true e y f = shows (rw e due)
    go false e true f = shows (rw (e, f) due)
    go false e false f =
        rw (← (row c).enough q d, alike o (row c).reads e, alike p (row c).reads_book f, (row c).enough s b) h

pub related_by : {s q : Session} {b d : Book} {ws : List Field} {cs : List Column} → Outside s q ws → OutsideBook b d cs
    → Related s b → ((c : Clause) → Due ws cs c → says c q d) → Related q d
related_by o p r shows c = clause_lasts o p c (r c) (shows c)

-- Modes, tallies and what was dropped are no part of the book. (antt has no function without clauses; so one that is not due is
-- shown here.)
pub related_unread : {s q : Session} {b : Book} → Outside s q (SlotMode ∷ EventTally ∷ Dropped ∷ []) → Related s b → Related q b
related_unread {q = q} {b = b} o r =
    related_by {ws = LinkSlot ∷ SlotMode ∷ EventTally ∷ Dropped ∷ []} (outside_within o refl) (outside_same b) r shows
  where
    shows : (c : Clause) → Due (LinkSlot ∷ SlotMode ∷ EventTally ∷ Dropped ∷ []) [] c → says c q b
    shows same_slots due = λ i. rw (o.as_was LinkSlot refl) (r same_slots i)
    shows same_objects x' = elim x' [ ]
    shows same_links x'' = elim x'' [ ]
    shows same_kinds x3 = elim x3 [ ]
    shows same_types x4 = elim x4 [ ]
    shows same_makers x5 = elim x5 [ ]
    shows same_finishes x6 = elim x6 [ ]
    shows same_outputs x7 = elim x7 [ ]
    shows same_sources x8 = elim x8 [ ]
    shows same_targets x9 = elim x9 [ ]
    shows task_counts x10 = elim x10 [ ]
    shows template_counts x11 = elim x11 [ ]
    shows slots_agree x12 = elim x12 [ ]
    shows ended_agree x13 = elim x13 [ ]
    shows starts_agree x14 = elim x14 [ ]
    shows tasks_destroyed x15 = elim x15 [ ]
    shows blocks_destroyed x16 = elim x16 [ ]
    shows fired_has x17 = elim x17 [ ]
    shows open_has x18 = elim x18 [ ]
    shows satisfied_agree x19 = elim x19 [ ]
    shows struck_agree x20 = elim x20 [ ]
    shows blank_kinds x21 = elim x21 [ ]
    shows blank_times x22 = elim x22 [ ]
    shows blank_satisfied x23 = elim x23 [ ]
    shows blank_has x24 = elim x24 [ ]
    shows blank_starts x25 = elim x25 [ ]
    shows blank_ended x26 = elim x26 [ ]
    shows blank_destroyed x27 = elim x27 [ ]
    shows blank_struck x28 = elim x28 [ ]
