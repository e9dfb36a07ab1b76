-- The session that every sheet starts from.
use Rattle.std.specs.Prelude.{ℕ, ◌≡◌, List, length, leb, Result, Result.Ok, Result.Err}
use Rattle.session.specs.Names.{block, task, fresh, resolved, mode_rw, satisfied}
use Rattle.session.specs.declared.TooShort.{TooShort}
use Rattle.session.specs.Table.{Session, Wrote, put, pick, words, at}
use Rattle.session.specs.declared.Field.TheVariants.{Objects, Kind, TaskState, TaskSlots, BlockState, SlotMode, SlotMark}
use Rattle.session.specs.declared.Field.TheVariants.{SlotPayload}

-- Unused parts are zero.
unfoldable pub empty_session : Session
empty_session f i = 0

-- "A fresh session has block 1 and main task 2: plain, without creator, resolved, .."
unfoldable pub first_objects : Session
unfolding empty_session
first_objects =
    let objects = put (put (put empty_session Objects 0 2) Kind 1 block) Kind 2 task in
    put (put (put objects BlockState 1 fresh) TaskState 2 resolved) TaskSlots 2 1

-- ".. its one pre-slot satisfied by block 1 in mode RW."
unfoldable pub fresh_session : Session
unfolding first_objects
fresh_session =
    put (put (put first_objects SlotMode (at 2 0) mode_rw) SlotMark (at 2 0) satisfied) SlotPayload (at 2 0) 1

-- "1. Session memory is shorter than docs/ says": the refusal, 0 if done.
abbrev pub refused_length : List ℕ → ℕ
refused_length ws = pick (leb words (length ws)) 0 1

-- an answer in that number
abbrev pub short_told : {A : Type 0} → Result A TooShort → ℕ
short_told (Ok a) = 0
short_told (Err e) = 1

-- What a call on lent memory leaves where it accepts no memory shorter than the layout: the session s and, past the layout,
-- what stood there; shorter memory as it was.
abbrev pub Leaves : List ℕ → List ℕ → Session → Type 0
Leaves before after s = pick (leb words (length before)) (Wrote before after s) (after ≡ before)
