-- Making a task keeps the rules, with its output event or without. Its creator runs: so it is no ended task that gets its
-- first live descendant, and whoever the creator follows was busy before.
use Rattle.std.specs.Prelude.{ℕ, ◌+◌, ◌-◌, ◌≤◌, ◌<◌, ◌≡◌, [], ◌∷◌}
use Rattle.std.proofs.Math.Path.{refl, subst}
use Rattle.std.proofs.Common.{ap, sym, ◌∙◌, inl, inr, add-one, eq-eqb}
use native.Mathlib.Omega.{arith}
use Rattle.session.specs.Table.{Session, put}
use Rattle.session.specs.declared.Field.TheVariants.{Objects, Kind, TaskState, TaskCreator, TaskSlots, TaskFinish, TaskOutput}
use Rattle.session.specs.declared.Field.TheVariants.{EventState, EventType, SlotMark}
use Rattle.rules.specs.Formula.{Holds, choose, Formula.◌≐◌, Formula.◌≼◌, Formula.◌and◌, Formula.◌or◌}
use Rattle.rules.specs.EventTypeLaws.{output_known}
use Rattle.rules.specs.FormulaLaws.{Case, decide, choose_yes, choose_no, Case.it_does, Case.it_does_not}
use Rattle.session.specs.Names.{task, event, waiting, resolved, running, ended, output, most_objects}
use Rattle.rules.specs.Reading.{at, is_running}
use Rattle.rules.specs.Checks.{task_checks, task_slots}
use Rattle.rules.specs.Effects.{new, new_task, new_event, make_task}
use Rattle.rules.specs.Sound.{full}
use Rattle.rules.specs.Descendants.{busy, under}
use Rattle.laws.specs.Met.{Checked}
use Rattle.laws.specs.Outside.{outside_within}
use Rattle.laws.specs.Writes.{new_task-writes}
use Rattle.laws.specs.Shape.Sort.{a_task, an_event}
use Rattle.laws.specs.Frame.{Shown.due}
use Rattle.laws.specs.Rows.{Name, says}
use Rattle.laws.specs.Rows.Name.{task_parts, creators, states, settled, outputs}
use Rattle.laws.specs.Keeping.{But, but, all, Excepted, Kept}
use Rattle.laws.specs.Conjuncts.{Task, task_says, task_of, State, state_says, state_of, Output, output_says, output_of_lem}
use Rattle.laws.specs.Conjuncts.Task.{is_task, state_low, state_high, few_slots, finish_flag, output_flag}
use Rattle.laws.specs.Conjuncts.State.{waits_unfilled, later_full, holding_slot}
use Rattle.laws.specs.Conjuncts.Output.{output_made, output_event, output_type, fires_with, goes_with, stands}
use Rattle.laws.specs.Grown.{next, Built, Built.counted, Built.written}
use Rattle.laws.specs.Born.{Born, was}
use Rattle.laws.specs.Under.{under_same, under_enough, creator_falls, creator-made}
use Rattle.laws.specs.Making.{New, says_of, each_more, new-mark, made_keeps}
use Rattle.laws.specs.MakingOutputs.{follows, output_at, made-output, made-outputs}
use Rattle.laws.specs.Event.{event_kind, event_open_lem, event_type, event_born, event_shows}

-- a new task's state: resolved where it has no slots
abbrev first : ℕ → ℕ
first n = choose (n ≐ 0) resolved waiting

first-state : (n : ℕ) → Holds (first n ≐ waiting and 1 ≼ n or first n ≐ resolved and n ≐ 0)
first-state n = go (decide (n ≐ 0))
  where
    go : Case (n ≐ 0) → Holds (first n ≐ waiting and 1 ≼ n or first n ≐ resolved and n ≐ 0)
    go (it_does e) = inr (choose_yes (n ≐ 0) resolved waiting e, e)
    go (it_does_not f) = inl (choose_no (n ≐ 0) resolved waiting f, omega arith)

-- either way neither running nor later
early : (n : ℕ) → Holds (1 ≼ first n and first n ≼ resolved)
early n = go (first-state n)
  where
    go : Holds (first n ≐ waiting and 1 ≼ n or first n ≐ resolved and n ≐ 0) → Holds (1 ≼ first n and first n ≼ resolved)
    go (inl x) = let e = x.0 in (omega arith, omega arith)
    go (inr x) = let e = x.0 in (omega arith, omega arith)

module _ (s : Session) (caller n finish out : ℕ) where
  abbrev after : Session
  after = new_task s caller (next s) n finish out

  built : Built s (next s) after
  unfolding new_task new
  built =
      written _ TaskOutput out refl (written _ TaskFinish finish refl (written _ TaskSlots n refl
      (written _ TaskCreator caller refl (written _ TaskState (first n) refl (written _ Kind task refl counted)))))

  kind : after Kind (next s) ≡ task
  unfolding new_task new put
  kind = rw (eq-eqb (next s) (next s) refl) refl

  state : after TaskState (next s) ≡ first n
  unfolding new_task new put
  state = rw (eq-eqb (next s) (next s) refl) refl

  maker : after TaskCreator (next s) ≡ caller
  unfolding new_task new put
  maker = rw (eq-eqb (next s) (next s) refl) refl

  slots : after TaskSlots (next s) ≡ n
  unfolding new_task new put
  slots = rw (eq-eqb (next s) (next s) refl) refl

  has_finish : after TaskFinish (next s) ≡ finish
  unfolding new_task new put
  has_finish = rw (eq-eqb (next s) (next s) refl) refl

  has-output : after TaskOutput (next s) ≡ out
  unfolding new_task new put
  has-output = rw (eq-eqb (next s) (next s) refl) refl

  born : next s ≤ most_objects → Born s after a_task
  born l =
      let w = new_task-writes s caller (next s) n finish out in
      record { room = l; built = built; writes = outside_within w refl; kind = kind }

  module _ (few : n ≤ 16) (finish-bit : finish ≤ 1) (output-bit : out ≤ 1) (runs : Holds (is_running s caller))
      (room : next s ≤ most_objects) (h : But (outputs ∷ []) s) where
    old_kind : after Kind caller ≡ task
    old_kind = was (born room) Kind refl caller runs.0.1 ∙ runs.1.0

    old_state : after TaskState caller ≡ running
    old_state = was (born room) TaskState refl caller runs.0.1 ∙ runs.1.1

    task-part : (m : Task) → Holds (task_says (next s) m after)
    task-part is_task = kind
    task-part state_low = rw state (early n).0
    task-part state_high = let l = early n in rw state (omega arith)
    task-part few_slots = rw slots few
    task-part finish_flag = rw has_finish finish-bit
    task-part output_flag = rw has-output output-bit

    unmarked : (j : ℕ) → j < after TaskSlots (next s) → after SlotMark (at (next s) j) ≡ 0
    unfolding new_task new put
    unmarked j l = new-mark (born room) h j (let e = slots in omega arith)

    -- no slot is satisfied yet
    abbrev Starts : Type 0
    Starts = Holds (first n ≐ waiting and 1 ≼ n or first n ≐ resolved and n ≐ 0)

    unfilled : Starts → after TaskState (next s) ≡ waiting → Holds (full after (next s)) → ⊥
    unfilled (inl x) e f =
        let some = x.1 in
        let q = slots in
        let l = f 0 (omega arith) in
        let z = unmarked 0 (omega arith) in
        omega arith
    unfilled (inr x) e f = let q = state in let r = x.0 in omega arith

    filled : Starts → resolved ≤ after TaskState (next s) → Holds (full after (next s))
    filled (inl x) e j l = let q = state in let r = x.0 in absurd (omega arith)
    filled (inr x) e j l = let q = slots in let r = x.1 in absurd (omega arith)

    task-state : (m : State) → Holds (state_says (next s) m after)
    task-state waits_unfilled = unfilled (first-state n)
    task-state later_full = λ x. filled (first-state n) x.0
    task-state holding_slot =
        λ j l.
        let q = state in
        let e = early n in
        let z = unmarked j l in
        ((λ x. absurd (let g = x.0 in omega arith)), λ y. absurd (omega arith))

    shows : (m : Name) → New a_task m → Holds (says_of m after (next s))
    shows task_parts due = task_of (next s) after task-part
    shows creators due =
        λ _. inr (rw maker (runs.0.0, ((let l = runs.0.1 in omega arith), (old_kind, inl old_state))))
    shows states due = λ _. state_of (next s) after task-state
    shows settled due = λ j l y. absurd (let z = unmarked j l in omega arith)
    shows Rattle.laws.specs.Rows.counts x' = elim x' [ ]
    shows Rattle.laws.specs.Rows.kinds x'' = elim x'' [ ]
    shows Rattle.laws.specs.Rows.template_parts x3 = elim x3 [ ]
    shows Rattle.laws.specs.Rows.event_parts x4 = elim x4 [ ]
    shows Rattle.laws.specs.Rows.block_parts x5 = elim x5 [ ]
    shows Rattle.laws.specs.Rows.roots x6 = elim x6 [ ]
    shows outputs x7 = elim x7 [ ]
    shows Rattle.laws.specs.Rows.slots x8 = elim x8 [ ]
    shows Rattle.laws.specs.Rows.links x9 = elim x9 [ ]
    shows Rattle.laws.specs.Rows.one_link x10 = elim x10 [ ]
    shows Rattle.laws.specs.Rows.blocks x11 = elim x11 [ ]
    shows Rattle.laws.specs.Rows.compatible x12 = elim x12 [ ]
    shows Rattle.laws.specs.Rows.latches x13 = elim x13 [ ]
    shows Rattle.laws.specs.Rows.counted_events x14 = elim x14 [ ]
    shows Rattle.laws.specs.Rows.dropped x15 = elim x15 [ ]
    shows Rattle.laws.specs.Rows.free_slots x16 = elim x16 [ ]
    shows Rattle.laws.specs.Rows.free_links x17 = elim x17 [ ]

    -- whom the new task follows was busy: its creator is live
    quiet : (i : ℕ) → s TaskState i ≡ ended → Holds (follows s after i) → Holds (busy s i)
    unfolding under
    quiet i e x = go (subst (λ c. Holds (c ≐ i or under (after TaskCreator) (s Objects 0) c i)) maker y.1)
      where
        y : Holds (1 ≼ after TaskCreator (next s)
            and (after TaskCreator (next s) ≐ i or under (after TaskCreator) (s Objects 0) (after TaskCreator (next s)) i))
        y = subst (λ k. Holds (under (after TaskCreator) k (next s) i)) (add-one (s Objects 0)) x.1

        l : caller ≤ s Objects 0
        l = runs.0.1

        go : Holds (caller ≐ i or under (after TaskCreator) (s Objects 0) caller i) → Holds (busy s i)
        go (inl q) = let a = ap (s TaskState) q in let c = runs.1.1 in absurd (omega arith)
        go (inr u) =
            let agree = was (born room) TaskCreator refl in
            let m = s Objects 0 in
            let v = under_same (after TaskCreator) (s TaskCreator) m agree (creator-made s h) m caller i l u in
            let c = runs.1.1 in
            let w = under_enough (s TaskCreator) m (creator_falls s h) m caller caller i l (omega arith) v in
            (caller, omega arith, ((runs.1.0, omega arith), w))

    rest-after : But (outputs ∷ []) after
    rest-after = made_keeps (born room) h shows

    module _ (o : Holds (says outputs s)) where
      old_outputs : (i : ℕ) → i < next s → Holds (output_at after i)
      old_outputs i l = made-output (born room) h i l (quiet i) (o i l)

      without_output : (out ≡ 1 → ⊥) → Kept after
      without_output none = all (outputs ∷ []) rest-after again
        where
          here : Holds (output_at after (next s))
          here = (λ x. absurd (none (sym has-output ∙ x.1)), λ x. absurd (let k = kind in let e = x.0 in omega arith))

          again : (m : Name) → Excepted (outputs ∷ []) m → Holds (says m after)
          again outputs due = made-outputs (born room) h old_outputs here
          again Rattle.laws.specs.Rows.counts x' = elim x' [ ]
          again Rattle.laws.specs.Rows.kinds x'' = elim x'' [ ]
          again Rattle.laws.specs.Rows.template_parts x3 = elim x3 [ ]
          again task_parts x4 = elim x4 [ ]
          again Rattle.laws.specs.Rows.event_parts x5 = elim x5 [ ]
          again Rattle.laws.specs.Rows.block_parts x6 = elim x6 [ ]
          again Rattle.laws.specs.Rows.roots x7 = elim x7 [ ]
          again creators x8 = elim x8 [ ]
          again Rattle.laws.specs.Rows.slots x9 = elim x9 [ ]
          again Rattle.laws.specs.Rows.links x10 = elim x10 [ ]
          again Rattle.laws.specs.Rows.one_link x11 = elim x11 [ ]
          again states x12 = elim x12 [ ]
          again Rattle.laws.specs.Rows.blocks x13 = elim x13 [ ]
          again Rattle.laws.specs.Rows.compatible x14 = elim x14 [ ]
          again Rattle.laws.specs.Rows.latches x15 = elim x15 [ ]
          again Rattle.laws.specs.Rows.counted_events x16 = elim x16 [ ]
          again Rattle.laws.specs.Rows.dropped x17 = elim x17 [ ]
          again Rattle.laws.specs.Rows.free_slots x18 = elim x18 [ ]
          again Rattle.laws.specs.Rows.free_links x19 = elim x19 [ ]
          again settled x20 = elim x20 [ ]

      abbrev both : Session
      both = new_event after (next s + 1) output 0

      module _ (room' : next s + 1 ≤ most_objects) where
        output_born : Born after both an_event
        unfolding new_task new put
        output_born = event_born after output 0 room'

        output_shows : (m : Name) → New an_event m → Holds (says_of m both (next s + 1))
        unfolding new_task new put
        output_shows = event_shows after output 0 output_known (inr ((λ e. omega arith), refl)) room' rest-after

        follower_kind : both Kind (next s + 1) ≡ event
        unfolding new_task new put
        follower_kind = event_kind after output 0

        follower_type : both EventType (next s + 1) ≡ output
        unfolding new_task new put
        follower_type = event_type after output 0

        follower_open : both EventState (next s + 1) ≡ 1
        unfolding new_task new put
        follower_open = event_open_lem after output 0

        task_kind : both Kind (next s) ≡ task
        unfolding new_task new put
        task_kind = was output_born Kind refl (next s) (omega arith) ∙ kind

        not-ended : both TaskState (next s) ≤ resolved
        unfolding new_event new put
        not-ended = rw state (early n).1

        task-output : both TaskOutput (next s) ≡ out
        unfolding new_event new put
        task-output = has-output

        count : both Objects 0 ≡ next s + 1
        unfolding new_event new put
        count = refl

        -- the task's event is open, and the task neither ended nor destroyed
        event-of_task : (m : Output) → Holds (output_says (next s) m both)
        event-of_task output_made = let c = count in (omega arith, omega arith)
        event-of_task output_event = follower_kind
        event-of_task output_type = follower_type
        event-of_task fires_with =
            let e = follower_open in
            let a = not-ended in
            ((λ q. absurd (omega arith)), λ y. absurd (let q = y.0 in omega arith))
        event-of_task goes_with =
            let e = follower_open in
            let a = not-ended in
            ((λ q. absurd (omega arith)), λ q. absurd (omega arith))
        event-of_task stands = let e = follower_open in λ q. omega arith

        at-task : Holds (output_at both (next s))
        at-task =
            let k = task_kind in
            ((λ _. output_of_lem (next s) both event-of_task), λ x. absurd (let e = x.0 in omega arith))

        at-event : out ≡ 1 → Holds (output_at both (next s + 1))
        at-event e =
            let k = follower_kind in
            let before : next s ≡ next s + 1 - 1 = omega arith in (
              (λ x. absurd (let q = x.0 in omega arith)),
              λ _. subst (λ i. Holds (both Kind i ≐ task and both TaskOutput i ≐ 1)) before (task_kind, task-output ∙ e),
            )

        with_output : out ≡ 1 → Kept both
        unfolding new_task new put
        with_output e = all (outputs ∷ []) (made_keeps output_born rest-after output_shows) again
          where
            old : (i : ℕ) → i < next s → Holds (output_at both i)
            old i l =
                let no_task : (Holds (follows after both i) → ⊥) = λ x. let k = follower_kind in let q = x.0.0 in omega arith in
                made-output output_born rest-after i (omega arith) (λ _ x. absurd (no_task x)) (old_outputs i l)

            again : (m : Name) → Excepted (outputs ∷ []) m → Holds (says m both)
            again outputs due = made-outputs output_born rest-after (each_more _ (next s) old at-task) (at-event e)
            again Rattle.laws.specs.Rows.counts x' = elim x' [ ]
            again Rattle.laws.specs.Rows.kinds x'' = elim x'' [ ]
            again Rattle.laws.specs.Rows.template_parts x3 = elim x3 [ ]
            again task_parts x4 = elim x4 [ ]
            again Rattle.laws.specs.Rows.event_parts x5 = elim x5 [ ]
            again Rattle.laws.specs.Rows.block_parts x6 = elim x6 [ ]
            again Rattle.laws.specs.Rows.roots x7 = elim x7 [ ]
            again creators x8 = elim x8 [ ]
            again Rattle.laws.specs.Rows.slots x9 = elim x9 [ ]
            again Rattle.laws.specs.Rows.links x10 = elim x10 [ ]
            again Rattle.laws.specs.Rows.one_link x11 = elim x11 [ ]
            again states x12 = elim x12 [ ]
            again Rattle.laws.specs.Rows.blocks x13 = elim x13 [ ]
            again Rattle.laws.specs.Rows.compatible x14 = elim x14 [ ]
            again Rattle.laws.specs.Rows.latches x15 = elim x15 [ ]
            again Rattle.laws.specs.Rows.counted_events x16 = elim x16 [ ]
            again Rattle.laws.specs.Rows.dropped x17 = elim x17 [ ]
            again Rattle.laws.specs.Rows.free_slots x18 = elim x18 [ ]
            again Rattle.laws.specs.Rows.free_links x19 = elim x19 [ ]
            again settled x20 = elim x20 [ ]

      make_keeps : s Objects 0 + (1 + out) ≤ most_objects → Kept (make_task s caller n finish out)
      unfolding make_task
      make_keeps l = go (decide (out ≐ 1))
        where
          go : Case (out ≐ 1) → Kept (make_task s caller n finish out)
          go (it_does e) = subst (But []) (sym (choose_yes (out ≐ 1) both after e)) (with_output (omega arith) e)
          go (it_does_not f) = subst (But []) (sym (choose_no (out ≐ 1) both after f)) (without_output f)

pub task_keeps : (s : Session) (caller tm n finish out : ℕ) → Checked (task_checks s caller tm n finish out) → Kept s
    → Kept (make_task s caller (task_slots s tm n) finish out)
task_keeps s caller tm n finish out m r =
    let l : s Objects 0 + (1 + out) ≤ most_objects = m 20 in
    let few = (m 12).0 in
    let flags = (m 7).1 in
    let slots = task_slots s tm n in
    make_keeps s caller slots finish out few flags.0 flags.1 (m 8) (omega arith) (but (outputs ∷ []) r) (r outputs) l
