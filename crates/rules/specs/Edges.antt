-- "Edges, marked P" (document 01), and its false roads: those cases that are short lists of calls from a fresh session, and one
-- theorem that all of them hold of the rules. The crate `edges` has the whole table, P5 to P7 with it, of single calls (`step`).
use Rattle.std.specs.Prelude.{ℕ, refl, List, [], ◌∷◌, ◌++◌}
use Rattle.session.specs.Table.{Session, put, change, at}
use Rattle.session.specs.Fresh.{fresh_session}
use Rattle.session.specs.declared.Field.TheVariants.{Dropped, EventState, SlotMode, SlotMark, LinkState}
use Rattle.session.specs.Names.{event_open, fired, destroyed_fired, ready, held, satisfied}
use Rattle.rules.specs.declared.Operation.{Operation}
use Rattle.rules.specs.Formula.{Formula, Holds, test, count, Formula.◌≐◌, Formula.◌and◌}
use Rattle.rules.specs.FormulaLaws.{passed}
use Rattle.rules.specs.Checks.{refusal}
use Rattle.rules.specs.EventTypes.{of_type}
use Rattle.rules.specs.Effects.{new, new_template, new_event, new_task, make_task, new_block, fire, fire_one, satisfy_slot, tally}
use Rattle.rules.specs.Effects.{satisfy_event, satisfy, claim, new_link, depend, bury_doomed, let_go, release, destroy_event}
use Rattle.rules.specs.Effects.{fire_finished, destroy_task, destroy_block, destroy, drops, bring, expire, deliver, grant}
use Rattle.rules.specs.Effects.{start, end}
use Rattle.rules.specs.Step.{rules, answer, after, outcome}
use Rattle.rules.specs.Descendants.{under, climb}

abbrev call : ℕ → List ℕ → Operation
call code fields = record { code = code; fields = fields }

-- A case: calls from a fresh session, each with the refusal and the handle or link expected, and what the session after them
-- must show.
pub record Expected : Type 0 where
  pub operation : Operation
  pub refused : ℕ
  pub made : ℕ

pub record Edge : Type 0 where
  pub calls : List Expected
  pub shows : Session → Formula

abbrev pub done : ℕ → List ℕ → ℕ → Expected
done code fields made = record { operation = call code fields; refused = 0; made = made }

abbrev pub refused : ℕ → List ℕ → ℕ → Expected
refused code fields n = record { operation = call code fields; refused = n; made = 0 }

-- the answers are as expected, and then the session shows what it must
unfoldable pub plays : Session → List Expected → (Session → Formula) → Formula
plays s [] shows = shows s
plays s (e ∷ es) shows =
    answer s e.operation ≐ e.refused and outcome s e.operation ≐ e.made and plays (after s e.operation) es shows

abbrev pub is_met : Edge → Formula
is_met e = plays fresh_session e.calls e.shows

-- main granted and started
abbrev pub started : List Expected
started = done 10 (2 ∷ []) 0 ∷ done 11 (2 ∷ []) 0 ∷ []

abbrev pub running_main : List Expected → (Session → Formula) → Edge
running_main es shows = record { calls = started ++ es; shows = shows }

abbrev nothing_more : Session → Formula
nothing_more s = 0 ≐ 0

-- P1 latch: one decrement, then one increment fires.
abbrev pub p1 : Edge
p1 =
    running_main (done 3 (2 ∷ 4 ∷ []) 3 ∷ done 6 (2 ∷ 3 ∷ 0 ∷ 0 ∷ []) 0 ∷ done 6 (2 ∷ 3 ∷ 0 ∷ 1 ∷ []) 0 ∷ []) (λ s. s EventState 3 ≐ fired)

-- P2 increment, increment, decrement: open.
abbrev pub p2 : Edge
p2 =
    running_main
    (done 3 (2 ∷ 4 ∷ []) 3 ∷ done 6 (2 ∷ 3 ∷ 0 ∷ 1 ∷ []) 0 ∷ done 6 (2 ∷ 3 ∷ 0 ∷ 1 ∷ []) 0 ∷ done 6 (2 ∷ 3 ∷ 0 ∷ 0 ∷ []) 0 ∷ [])
    (λ s. s EventState 3 ≐ event_open)

-- P3 fresh latch: open.
abbrev pub p3 : Edge
p3 = running_main (done 3 (2 ∷ 4 ∷ []) 3 ∷ []) (λ s. s EventState 3 ≐ event_open)

-- P4 pre-slot 15 of 16 exists, 16 gives 12.
abbrev pub p4 : Edge
p4 =
    running_main
    (done 1 (2 ∷ 16 ∷ []) 3 ∷ done 2 (2 ∷ 3 ∷ 17 ∷ 0 ∷ 0 ∷ []) 4 ∷ done 5 (2 ∷ 0 ∷ 4 ∷ 15 ∷ 1 ∷ []) 0 ∷ refused 5 (2 ∷ 0 ∷ 4 ∷ 16 ∷ 1 ∷ []) 12 ∷ [])
    nothing_more

-- P8 finish task ends with a live grandchild: not fired. Task 4 with output 5 is finish; it makes 6, and 6 makes 7; 6 ends, and
-- 4; only the end of 7 fires event 5.
abbrev pub p8 : Edge
p8 =
    running_main
    (done 1 (2 ∷ 0 ∷ []) 3 ∷ done 2 (2 ∷ 3 ∷ 17 ∷ 1 ∷ 1 ∷ []) 4 ∷ done 10 (4 ∷ []) 0 ∷ done 11 (4 ∷ []) 0
    ∷ done 2 (4 ∷ 3 ∷ 17 ∷ 0 ∷ 0 ∷ []) 6 ∷ done 10 (6 ∷ []) 0 ∷ done 11 (6 ∷ []) 0 ∷ done 2 (6 ∷ 3 ∷ 17 ∷ 0 ∷ 0 ∷ []) 7
    ∷ done 12 (6 ∷ 0 ∷ []) 0 ∷ done 12 (4 ∷ 0 ∷ []) 0 ∷ [])
    (λ s. s EventState 5 ≐ event_open)

abbrev pub p8_then : Edge
p8_then =
    record {
      calls = p8.calls ++ (done 10 (7 ∷ []) 0 ∷ done 11 (7 ∷ []) 0 ∷ done 12 (7 ∷ 0 ∷ []) 3 ∷ []);
      shows = λ s. s EventState 5 ≐ fired;
    }

-- P9 two RW holds stand: task 4 is granted block 1 in RW while main holds it in RW.
abbrev pub p9 : Edge
p9 =
    running_main
    (done 1 (2 ∷ 1 ∷ []) 3 ∷ done 2 (2 ∷ 3 ∷ 17 ∷ 0 ∷ 0 ∷ []) 4 ∷ done 5 (2 ∷ 1 ∷ 4 ∷ 0 ∷ 2 ∷ []) 0 ∷ done 10 (4 ∷ []) 0 ∷ [])
    (λ s. s SlotMark (at 2 0) ≐ held and s SlotMark (at 4 0) ≐ held)

-- P10 link from a fired sticky is ready.
abbrev pub p10 : Edge
p10 =
    running_main
    (done 3 (2 ∷ 3 ∷ []) 3 ∷ done 6 (2 ∷ 3 ∷ 1 ∷ 0 ∷ []) 0 ∷ done 3 (2 ∷ 1 ∷ []) 4 ∷ done 5 (2 ∷ 3 ∷ 4 ∷ 0 ∷ 1 ∷ []) 1 ∷ [])
    (λ s. s LinkState 1 ≐ ready)

-- False road: dropping ready links when their event goes. The sticky 3 fires and is destroyed; its link still delivers.
abbrev pub ready_stays : Edge
ready_stays =
    running_main
    (done 3 (2 ∷ 3 ∷ []) 3 ∷ done 3 (2 ∷ 1 ∷ []) 4 ∷ done 5 (2 ∷ 3 ∷ 4 ∷ 0 ∷ 1 ∷ []) 1 ∷ done 6 (2 ∷ 3 ∷ 1 ∷ 0 ∷ []) 0
    ∷ done 8 (2 ∷ 3 ∷ []) 0 ∷ done 9 (1 ∷ []) 0 ∷ [])
    (λ s. s EventState 4 ≐ fired)

-- False road: granting block by block. Task 4 asks for the new block 5, which is free, and for block 1 in EW, which main
-- holds: the grant is refused and 4 holds neither.
abbrev pub grant_whole : Edge
grant_whole =
    running_main
    (done 1 (2 ∷ 2 ∷ []) 3 ∷ done 2 (2 ∷ 3 ∷ 17 ∷ 0 ∷ 0 ∷ []) 4 ∷ done 4 (2 ∷ 0 ∷ []) 5 ∷ done 5 (2 ∷ 5 ∷ 4 ∷ 0 ∷ 2 ∷ []) 0
    ∷ done 5 (2 ∷ 1 ∷ 4 ∷ 1 ∷ 3 ∷ []) 0 ∷ refused 10 (4 ∷ []) 18 ∷ [])
    (λ s. s SlotMark (at 4 0) ≐ satisfied and s SlotMark (at 4 1) ≐ satisfied)

-- False road: a second claim replacing the first. Slot 0 of task 4 was claimed in mode 1, and stays so.
abbrev pub first_claim : Edge
first_claim =
    running_main
    (done 1 (2 ∷ 1 ∷ []) 3 ∷ done 2 (2 ∷ 3 ∷ 17 ∷ 0 ∷ 0 ∷ []) 4 ∷ done 5 (2 ∷ 0 ∷ 4 ∷ 0 ∷ 1 ∷ []) 0 ∷ refused 5 (2 ∷ 0 ∷ 4 ∷ 0 ∷ 2 ∷ []) 13 ∷ [])
    (λ s. s SlotMode (at 4 0) ≐ 1)

-- Document 02, E4. A counted event with the count 1: a second link gives 24, a second satisfaction 14; it goes as its link is
-- delivered, and is gone for every call.
abbrev pub counted_goes : Edge
counted_goes =
    running_main
    (done 13 (2 ∷ 1 ∷ []) 3 ∷ done 1 (2 ∷ 1 ∷ []) 4 ∷ done 2 (2 ∷ 4 ∷ 17 ∷ 0 ∷ 0 ∷ []) 5 ∷ done 5 (2 ∷ 3 ∷ 5 ∷ 0 ∷ 1 ∷ []) 1
    ∷ refused 5 (2 ∷ 3 ∷ 3 ∷ 0 ∷ 1 ∷ []) 24 ∷ done 6 (2 ∷ 3 ∷ 1 ∷ 0 ∷ []) 0 ∷ refused 6 (2 ∷ 3 ∷ 0 ∷ 0 ∷ []) 14 ∷ done 9 (1 ∷ []) 0
    ∷ refused 6 (2 ∷ 3 ∷ 0 ∷ 0 ∷ []) 11 ∷ refused 5 (2 ∷ 3 ∷ 3 ∷ 0 ∷ 1 ∷ []) 11 ∷ refused 8 (2 ∷ 3 ∷ []) 11 ∷ [])
    (λ s. s EventState 3 ≐ destroyed_fired)

-- With the count 2: fired it stays, a link made then is ready, and one of two delivered is not its count.
abbrev pub counted_stays : Edge
counted_stays =
    running_main
    (done 13 (2 ∷ 2 ∷ []) 3 ∷ done 6 (2 ∷ 3 ∷ 0 ∷ 0 ∷ []) 0 ∷ done 3 (2 ∷ 3 ∷ []) 4 ∷ done 5 (2 ∷ 3 ∷ 3 ∷ 0 ∷ 1 ∷ []) 1
    ∷ done 5 (2 ∷ 3 ∷ 4 ∷ 0 ∷ 1 ∷ []) 2 ∷ done 9 (2 ∷ []) 0 ∷ [])
    (λ s. s EventState 3 ≐ fired and s EventState 4 ≐ fired and s LinkState 1 ≐ ready)

-- The other link leads to itself: its delivery is dropped, and counts.
abbrev pub counted_stays_then : Edge
counted_stays_then =
    record {
      calls = counted_stays.calls ++ (done 9 (1 ∷ []) 0 ∷ []);
      shows = λ s. s EventState 3 ≐ destroyed_fired and s Dropped 0 ≐ 1;
    }

-- Document 02, E5. Task 4 runs, and so does 5, which it made: 4 ends and climbs no step, as 5 is live.
abbrev pub climbs_none : Edge
climbs_none =
    running_main
    (done 1 (2 ∷ 0 ∷ []) 3 ∷ done 2 (2 ∷ 3 ∷ 17 ∷ 0 ∷ 0 ∷ []) 4 ∷ done 10 (4 ∷ []) 0 ∷ done 11 (4 ∷ []) 0
    ∷ done 2 (4 ∷ 3 ∷ 17 ∷ 0 ∷ 0 ∷ []) 5 ∷ done 2 (4 ∷ 3 ∷ 17 ∷ 1 ∷ 1 ∷ []) 6 ∷ done 10 (5 ∷ []) 0 ∷ done 11 (5 ∷ []) 0
    ∷ done 12 (4 ∷ 0 ∷ []) 0 ∷ [])
    nothing_more

-- 5 ends too, and climbs to 4 and no further: 6, which 4 made, is live. 6 is destroyed: to 4, and to main, which is live. Destroying
-- a template climbs no step, and neither does main.
abbrev pub climbs_on : Edge
climbs_on =
    record {
      calls = climbs_none.calls ++ (done 12 (5 ∷ 0 ∷ []) 1 ∷ done 8 (2 ∷ 6 ∷ []) 2 ∷ done 8 (2 ∷ 3 ∷ []) 0 ∷ done 12 (2 ∷ 0 ∷ []) 0 ∷ []);
      shows = nothing_more;
    }

-- Main ends first. The last task climbs to it, and it is the top.
abbrev pub climbs_to_main : Edge
climbs_to_main =
    record {
      calls = climbs_none.calls ++
          (done 8 (2 ∷ 6 ∷ []) 1 ∷ done 12 (2 ∷ 0 ∷ []) 0 ∷ refused 12 (4 ∷ 0 ∷ []) 11 ∷ done 12 (5 ∷ 0 ∷ []) 2 ∷ []);
      shows = nothing_more;
    }

abbrev pub edges : List Edge
edges =
    p1 ∷ p2 ∷ p3 ∷ p4 ∷ p8 ∷ p8_then ∷ p9 ∷ p10 ∷ ready_stays ∷ grant_whole ∷ first_claim
    ∷ counted_goes ∷ counted_stays ∷ counted_stays_then ∷ climbs_none ∷ climbs_on ∷ climbs_to_main ∷ []

abbrev pub all_met : List Edge → Formula
all_met [] = 0 ≐ 0
all_met (e ∷ es) = is_met e and all_met es

pub edges-met : Holds (all_met edges)
unfolding plays put change test of_type count under climb refusal new new_template new_event new_task make_task new_block fire fire_one
    satisfy_slot tally satisfy_event satisfy claim new_link depend bury_doomed let_go release destroy_event fire_finished destroy_task
    destroy_block destroy drops bring expire deliver grant start end rules fresh_session answer after outcome
edges-met = passed (all_met edges) refl
