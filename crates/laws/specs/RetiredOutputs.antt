-- The output events once a task has ended or was destroyed: its own was open, and those of other tasks are late at the most.
use Rattle.std.specs.Prelude.{ℕ, ◌+◌, ◌≤◌, ◌<◌, ◌≡◌, refl}
use Rattle.std.proofs.Common.{ap, subst, ◌∙◌, arith}
use Rattle.session.specs.Table.{Session, put}
use Rattle.session.specs.declared.Field.TheVariants.{Objects, Kind, TaskState, TaskFinish, TaskOutput, EventState, EventType}
use Rattle.rules.specs.Formula.{Formula, Holds}
use Rattle.session.specs.Names.{task, event, running, event_open, output}
use Rattle.rules.specs.Reading.{made, is_kind}
use Rattle.rules.specs.Sound.{output_of}
use Rattle.rules.specs.Descendants.{busy}
use Rattle.laws.specs.Frame.{AllOf}
use Rattle.laws.specs.Rows.Name.{counts, task_parts, event_parts, outputs}
use Rattle.laws.specs.Keeping.{Kept}
use Rattle.laws.specs.Conjuncts.{event_row, event_by_name, output_by_name, task_by_name, Task.finish_flag}
use Rattle.laws.specs.Conjuncts.Event.{state_low, state_high}
use Rattle.laws.specs.Conjuncts.Output.{output_made, output_event, output_type}
use Rattle.laws.specs.Places.{Places, places, put-here, Places.one, Places.two}
use Rattle.laws.specs.Standing
use Rattle.laws.specs.Moving.{move, Moved, after-move, Moved.state_stays, Moved.state_moves}
use Rattle.laws.specs.Retiring.{Retires, retire_busy}
use Rattle.laws.specs.Finishing.{late, late_of, late_outputs, on_time_lem, falls_late}

-- the output event of a live task is there, and open
pub record OpenOutput (s : Session) (t : ℕ) : Type 0 where
  pub exists : Holds (made s (t + 1))
  pub kind : Holds (is_kind s event (t + 1))
  pub type : s EventType (t + 1) ≡ output
  pub state : s EventState (t + 1) ≡ event_open

pub open_output : (s : Session) (t : ℕ) → Kept s → Holds (made s t) → Holds (is_kind s task t) → s TaskState t ≤ running
    → s TaskOutput t ≡ 1 → OpenOutput s t
open_output s t h m k live out =
    let v = output_by_name t s ((h outputs t (let l = m.1 in omega arith)).0 (k, out)) in
    record {
      exists = v output_made;
      kind = v output_event;
      type = v output_type;
      state = Standing.open_output s t (h counts) (h event_parts) (h outputs) m k out live;
    }

pub finish_mark : (s : Session) (t : ℕ) → Kept s → t < s Objects 0 + 1 → Holds (is_kind s task t) → s TaskFinish t ≤ 1
finish_mark s t h l k = task_by_name t s k (h task_parts t (let c = h counts in omega arith)) finish_flag

module _ (s : Session) (t v : ℕ) (x : Retires s t v) (h : Kept s) where
  -- what is said of the output event of task i, late at the most, if its state is e
  abbrev late_with : ℕ → ℕ → Formula
  late_with i e = late e (move s t v TaskState i) (s TaskFinish i) (busy (move s t v) i)

  -- another task's output event
  late_beside : (i e : ℕ) → i < s Objects 0 + 1 → Holds (is_kind s task i) → Holds (output_of s i) → e ≡ s EventState (i + 1)
      → (t ≡ i → ⊥) → Holds (late_with i e)
  late_beside i e l k y q n = go (after-move s t v i)
    where
      event-at : AllOf (event_row (i + 1)) s
      event-at =
          let o = output_by_name i s y in
          let m = o output_made in
          event_by_name (i + 1) s (o output_event) (h event_parts (i + 1) (let c = h counts in omega arith))

      go : Moved s t v i → Holds (late_with i e)
      go (state_moves p _) = absurd (n p)
      go (state_stays st) =
          rw (st, q)
          (falls_late (s EventState (i + 1)) (s TaskState i) (s TaskFinish i) (busy s i) (busy (move s t v) i)
          (event-at state_low) (event-at state_high) (finish_mark s i h l k) (retire_busy s t v x i) (on_time_lem s i y).1)

  -- the whole rule, if the states of the events but its own are as they were and its own is right
  pub late-after : (states : ℕ → ℕ) → ((i : ℕ) → (t ≡ i → ⊥) → states (i + 1) ≡ s EventState (i + 1))
      → (s TaskOutput t ≡ 1 → Holds (late (states (t + 1)) v (s TaskFinish t) (busy (move s t v) t)))
      → Holds (late_outputs (move s t v) states)
  unfolding put
  late-after states beside own i l = (λ c. go (places t i) c.0 c.1 ((h outputs i l).0 c), (h outputs i l).1)
    where
      here : s TaskOutput t ≡ 1 → Holds (late_with t (states (t + 1)))
      here out = rw (put-here s TaskState t t v refl) (own out)

      go : Places t i → s Kind i ≡ task → s TaskOutput i ≡ 1 → Holds (output_of s i) → Holds (late_of (move s t v) states i)
      go (one p) k out y =
          ((on_time_lem s i y).0, subst (λ (k : ℕ). Holds (late_with k (states (k + 1)))) p (here (ap (s TaskOutput) p ∙ out)))
      go (two n) k out y = ((on_time_lem s i y).0, late_beside i (states (i + 1)) l k y (beside i n) n)
