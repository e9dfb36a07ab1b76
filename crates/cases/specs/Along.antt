-- What is computed along a list of calls from a fresh session. The cases give each call with the answer that the second engine
-- gave (tests/second). A branch is left by `elim`, since both sides of `and`, `then` and `choose` are computed.
use Rattle.std.specs.Prelude.{ℕ, zero, suc, ◌+◌, ◌*◌, ◌-◌, Bool, true, false, List, [], ◌∷◌}
use Rattle.session.specs.Table.{Session, put, change}
use Rattle.session.specs.declared.Field.TheVariants.{Objects, Links, Kind, TaskState, EventState, EventPayload, BlockState}
use Rattle.session.specs.declared.Field.TheVariants.{SlotMark, SlotPayload, LinkState}
use Rattle.session.specs.Names.{task, event, block, resolved, running, ended, task_destroyed, fired, destroyed_fired, doomed}
use Rattle.session.specs.Names.{delivered}
use Rattle.rules.specs.declared.Operation.{Operation}
use Rattle.rules.specs.Formula.{Formula, test, not, ◌iff◌, choose, count, Formula.◌≐◌, Formula.◌≼◌, Formula.◌and◌, Formula.◌or◌}
use Rattle.rules.specs.Formula.{Formula.◌then◌, Formula.each, Formula.some}
use Rattle.rules.specs.Reading.{at, is_kind, is_undelivered}
use Rattle.rules.specs.Sound.{sound_used}
use Rattle.rules.specs.Checks.{refusal}
use Rattle.rules.specs.EventTypes.{of_type}
use Rattle.rules.specs.Effects.{new, new_template, new_event, new_task, make_task, new_block, fire, fire_one, satisfy_slot, tally}
use Rattle.rules.specs.Effects.{satisfy_event, satisfy, claim, new_link, depend, bury_doomed, let_go, release, destroy_event}
use Rattle.rules.specs.Effects.{fire_finished, destroy_task, destroy_block, destroy, drops, expire, bring, deliver, grant}
use Rattle.rules.specs.Effects.{start, end}
use Rattle.rules.specs.Step.{rules, fresh_session, answer, after, outcome, arg, entered}
use Rattle.rules.specs.Book.{Book, opening, enter, enter_object, enter_task, enter_link, satisfies, strike, enter_destroy}
use Rattle.rules.specs.Book.{enter_deliver, enter_start, enter_end, is_made_by, live, live_tasks, undelivered_links, done}
use Rattle.rules.specs.Book.{Column.Kind as BookKind, Column.Objects as BookObjects, Column.Links as BookLinks, Column.Times}
use Rattle.rules.specs.Book.{Column.Brought, Column.Has, Column.Starts, Column.Ended, Column.Count, Column.Finish, Column.Output}
use Rattle.rules.specs.Book.{Column.Destroyed, Column.Struck}
use Rattle.rules.specs.Descendants.{under, climb}

-- a call and its answer: the refusal (0 if accepted), and the handle or link made or the steps climbed
pub record Line : Type 0 where
  pub operation : Operation
  pub refused : ℕ
  pub made : ℕ

abbrev pub line : ℕ → List ℕ → ℕ → ℕ → Line
line code fields refused made = record { operation = record { code = code; fields = fields }; refused = refused; made = made }

-- the rules give that answer
abbrev pub answers : Session → Line → Formula
answers s l = answer s l.operation ≐ l.refused and outcome s l.operation ≐ l.made

-- all that a call computes with
unfoldable pub computed : ℕ
unfolding put change test of_type count under climb refusal new new_template new_event new_task make_task new_block fire fire_one
    satisfy_slot tally satisfy_event satisfy claim new_link depend bury_doomed let_go release destroy_event fire_finished destroy_task destroy_block
    destroy drops expire bring deliver grant start end rules fresh_session answer after outcome
computed = 0

-- the answers along a list
unfoldable pub answered : Session → List Line → Bool
unfolding computed
answered s [] = true
answered s (l ∷ ls) = elim (test (answers s l)) [ true ↦ answered (after s l.operation) ls | false ↦ false ]

-- the session after each call is sound; a refused one leaves it as it was. The rule that looks at the whole memory, `unused`, is
-- left out, as it takes too many steps.
unfoldable pub sound_along : Session → List Line → Bool
unfolding computed sound_used
sound_along s [] = true
sound_along s (l ∷ ls) =
    elim (test (answers s l)) [
      | false ↦ false
      | true ↦ elim (test (l.refused ≐ 0)) [
        | false ↦ sound_along s ls
        | true ↦ elim (test (sound_used (after s l.operation))) [
          | false ↦ false
          | true ↦ sound_along
              (after s l.operation) ls
        ]
      ]
    ]

-- the sum of what f has below n
unfoldable pub total : ℕ → (ℕ → ℕ) → ℕ
total zero f = 0
total (suc n) f = f n + total n f

-- the moves that a session has left: undelivered links, and three for each task that is waiting or resolved, two for a granted
-- one, one for a running one
abbrev pub moves_of : Session → ℕ → ℕ
moves_of s t =
    elim (test (is_kind s task t)) [
      | false ↦ 0
      | true ↦ elim (test (s TaskState t ≼ resolved)) [ true ↦ 3 | false ↦ ended - s TaskState t ]
    ]

abbrev pub left : Session → ℕ
left s = count (s Links 0 + 1) (is_undelivered s) + total (s Objects 0 + 1) (moves_of s)

-- Demand 3 of an accepted call from s and b to s' and b': what starts was ready and had not started; a finish task's output
-- event fires just when the task is done; a move takes one from those that are left, of which there are not too many.
abbrev pub is_start_ready : Book → Operation → Formula
is_start_ready b o = o.code ≐ 11 then b Starts (arg o 0) ≐ 0 and each (b Count (arg o 0)) (λ j. b Times (at (arg o 0) j) ≐ 1)

-- whether t is a finish task with an output event
abbrev pub is_finish : Book → ℕ → Formula
is_finish b t = b BookKind t ≐ task and b Finish t ≐ 1 and b Output t ≐ 1

-- a task is not done before it has ended
abbrev pub is_done : Book → ℕ → Bool
is_done b t = elim (test (b Ended t ≐ 1)) [ true ↦ test (done b t) | false ↦ false ]

-- once the output event of t has fired it stays so; else it fires exactly if the task is done
abbrev pub fires_done : Session → Session → Book → ℕ → Formula
fires_done s s' b' t =
    elim (test (is_finish b' t)) [
      | false ↦ 0 ≐ 0
      | true ↦ elim (test (s EventState (t + 1) ≐ fired)) [
        | true ↦ s' EventState (t + 1) ≐ fired
        | false ↦ elim (is_done b' t) [ true ↦ s' EventState (t + 1) ≐ fired | false ↦ not (s' EventState (t + 1) ≐ fired) ]
      ]
    ]

abbrev pub moves : Session → Session → Operation → Formula
moves s s' o = elim (test (9 ≼ o.code and o.code ≼ 12)) [ true ↦ left s ≐ left s' + 1 | false ↦ 0 ≐ 0 ]

abbrev pub accepts : Session → Session → Book → Book → Operation → Formula
accepts s s' b b' o =
    is_start_ready b o and each (b' BookObjects 0 + 1) (fires_done s s' b') and moves s s' o
    and left s' ≼ undelivered_links b' + 3 * live_tasks b'

-- no delivery, grant, start or end would be accepted
abbrev pub refuses : Session → ℕ → List ℕ → Formula
refuses s code fields = not (answer s (record { code = code; fields = fields }) ≐ 0)

abbrev pub still : Session → Formula
still s =
    each (s Links 0 + 1) (λ l. refuses s 9 (l ∷ []))
    and each (s Objects 0 + 1) (λ t. refuses s 10 (t ∷ []) and refuses s 11 (t ∷ []) and refuses s 12 (t ∷ 0 ∷ []))

-- every live task has a pre-slot still unsatisfied or a destroyed block in one
abbrev pub stuck : Book → Formula
stuck b =
    each (b BookObjects 0 + 1) (λ t. live b t then some (b Count t) (λ j. b Times (at t j) ≐ 0
    or b BookKind (b Brought (at t j)) ≐ block and b Destroyed (b Brought (at t j)) ≐ 1))

-- the session and the book say the same of what is not destroyed
abbrev pub same_task : Session → Book → ℕ → Formula
same_task s b t =
    (live b t iff s TaskState t ≼ running)
    and (s TaskState t ≐ task_destroyed or each (b Count t) (λ j. b Times (at t j) ≐ choose (1 ≼ s SlotMark (at t j)) 1 0
    and (1 ≼ s SlotMark (at t j) then s SlotPayload (at t j) ≐ b Brought (at t j))))

abbrev pub related : Session → Book → Formula
related s b =
    s Objects 0 ≐ b BookObjects 0 and s Links 0 ≐ b BookLinks 0
    and each (s Objects 0 + 1) (λ h. s Kind h ≐ b BookKind h
    and (is_kind s task h then same_task s b h)
    and (is_kind s event h and (s EventState h ≐ fired or s EventState h ≐ destroyed_fired) then s EventPayload h ≐ b Has h)
    and (is_kind s block h then (b Destroyed h ≐ 1 iff doomed ≼ s BlockState h)))
    and each (s Links 0 + 1) (λ l. l ≐ 0 or (b Struck l ≐ 1 iff delivered ≼ s LinkState l))

-- demand 3 along a list that ends where nothing moves
unfoldable pub demand_along : Session → Book → List Line → Bool
unfolding computed total is_made_by opening entered enter enter_object enter_task enter_link satisfies strike enter_destroy enter_deliver
    enter_start enter_end
demand_along s b [] = test (related s b and still s and stuck b)
demand_along s b (l ∷ ls) =
    elim (test (answers s l)) [
      | false ↦ false
      | true ↦ elim (test (l.refused ≐ 0)) [
        | false ↦ demand_along s b ls
        | true ↦ elim (test (accepts s (after s l.operation) b (entered b l.operation) l.operation))
            [ false ↦ false | true ↦ demand_along (after s l.operation) (entered b l.operation) ls ]
      ]
    ]
