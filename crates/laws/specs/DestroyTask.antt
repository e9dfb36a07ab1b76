-- The destroying of a task that was not granted keeps a session: its output event goes with it, and finish tasks above it that
-- were waiting for it alone have their events fired.
use Rattle.std.specs.Prelude.{ℕ, ◌+◌, ◌≤◌, ◌≡◌, refl, [], ◌∷◌}
use native.Mathlib.Omega.{arith}
use Rattle.session.specs.Table.{Session, put, change}
use Rattle.session.specs.declared.Field.TheVariants.{TaskState, TaskFinish, TaskOutput, EventState}
use Rattle.rules.specs.Formula.{Formula, Holds, choose, Formula.◌≐◌}
use Rattle.rules.specs.FormulaLaws.{Case, decide, choose_yes, choose_no, Case.it_does, Case.it_does_not}
use Rattle.session.specs.Names.{task, resolved, ended, task_destroyed, fired, destroyed_unfired}
use Rattle.rules.specs.Reading.{made, is_kind}
use Rattle.rules.specs.Effects.{destroy_task, destroy_event, fire_finished}
use Rattle.rules.specs.Descendants.{busy}
use Rattle.laws.specs.Rows.Name.{outputs}
use Rattle.laws.specs.Keeping.{But, Kept}
use Rattle.laws.specs.DestroyEvent.{EventAfter, event-after, destroy_event-rest}
use Rattle.laws.specs.DestroyEvent.EventAfter.{gone_fired, gone_unfired, stays}
use Rattle.laws.specs.Moving.{move}
use Rattle.laws.specs.Retiring.{Retires, goes, retire_rest}
use Rattle.laws.specs.RetiredOutputs.{OpenOutput, open_output, late-after}
use Rattle.laws.specs.Finishing.{late, late_outputs, finishing_keeps}

-- a destroyed task's output event is destroyed
late_destroyed : (e finish : ℕ) (b : Formula) → e ≡ destroyed_unfired → Holds (late e task_destroyed finish b)
late_destroyed e finish b q =
    rw q (λ f. absurd (omega arith), (λ d. absurd (no d.0), ((λ _. refl, λ _. refl), λ f. omega arith)))
  where
    no : task_destroyed ≡ ended → ⊥
    no f = omega arith

module _ (s : Session) (t : ℕ) (x : Retires s t task_destroyed) (h : Kept s) where
  abbrev left : Session
  left = move s t task_destroyed

  without_output : (s TaskOutput t ≡ 1 → ⊥) → Kept (fire_finished left)
  unfolding put
  without_output n =
      finishing_keeps left (retire_rest s t task_destroyed x h)
      (late-after s t task_destroyed x h (s EventState) (λ i d. refl) (λ out. absurd (n out)))

  module _ (out : OpenOutput s t) where
    abbrev gone : Session
    gone = destroy_event left (t + 1)

    gone_beside : (i : ℕ) → (t ≡ i → ⊥) → gone EventState (i + 1) ≡ s EventState (i + 1)
    unfolding put
    gone_beside i n = go (event-after left (t + 1) (i + 1))
      where
        apart : t + 1 ≡ i + 1 → ⊥
        apart p = n (omega arith)

        go : EventAfter left (t + 1) (i + 1) → gone EventState (i + 1) ≡ s EventState (i + 1)
        go (stays _ q) = q
        go (gone_fired p f q) = absurd (apart p)
        go (gone_unfired p f q) = absurd (apart p)

    gone-own : gone EventState (t + 1) ≡ destroyed_unfired
    unfolding put
    gone-own = go (event-after left (t + 1) (t + 1))
      where
        unfired : s EventState (t + 1) ≡ fired → ⊥
        unfired f = let e = out.state in omega arith

        go : EventAfter left (t + 1) (t + 1) → gone EventState (t + 1) ≡ destroyed_unfired
        go (stays n q) = absurd (n refl)
        go (gone_fired p f q) = absurd (unfired f)
        go (gone_unfired p f q) = q

    gone-rest : But (outputs ∷ []) gone
    unfolding put
    gone-rest =
        let e = out.state in
        destroy_event-rest left (t + 1) out.kind (omega arith) (omega arith) (retire_rest s t task_destroyed x h)

    gone-late : Holds (late_outputs gone (gone EventState))
    unfolding destroy_event put change
    gone-late =
        late-after s t task_destroyed x h (gone EventState) gone_beside
        (λ _. late_destroyed (gone EventState (t + 1)) (s TaskFinish t) (busy left t) gone-own)

    with_output : Kept (fire_finished gone)
    with_output = finishing_keeps gone gone-rest gone-late

  -- what is left once it is destroyed
  abbrev after_goes : Session
  after_goes = choose (s TaskOutput t ≐ 1) (destroy_event left (t + 1)) left

  goes_keeps : Kept (fire_finished after_goes)
  goes_keeps = go (decide (s TaskOutput t ≐ 1))
    where
      go : Case (s TaskOutput t ≐ 1) → Kept (fire_finished after_goes)
      go (it_does y) =
          rw (choose_yes (s TaskOutput t ≐ 1) (destroy_event left (t + 1)) left y)
          (with_output (open_output s t h x.exists x.kind x.from y))
      go (it_does_not n) = rw (choose_no (s TaskOutput t ≐ 1) (destroy_event left (t + 1)) left n) (without_output n)

pub destroy_task_keeps : (s : Session) (t : ℕ) → Holds (made s t) → Holds (is_kind s task t) → s TaskState t ≤ resolved
    → Kept s → Kept (destroy_task s t)
unfolding destroy_task
destroy_task_keeps s t m k early h = goes_keeps s t (goes s t h m k early) h
