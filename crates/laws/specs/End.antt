-- An end keeps a session: the task lets go of what it holds and is ended, a plain task's output event fires, and so do those of
-- finish tasks that were waiting for it alone.
use Rattle.std.specs.Prelude.{ℕ, ◌+◌, ◌≤◌, ◌<◌, ◌≡◌, refl, [], ◌∷◌}
use Rattle.std.proofs.Common.{inl, inr, arith}
use Rattle.session.specs.Table.{Session, put, change}
use Rattle.session.specs.declared.Field.TheVariants.{Objects, TaskState, TaskSlots, TaskFinish, TaskOutput, EventState}
use Rattle.session.specs.declared.Field.TheVariants.{EventType, EventTally, SlotMark}
use Rattle.rules.specs.Formula.{Formula, Holds, choose, ◌iff◌, Formula.◌≐◌, Formula.◌and◌}
use Rattle.rules.specs.FormulaLaws.{Case, decide, choose_yes, choose_no, Case.it_does, Case.it_does_not}
use Rattle.session.specs.Names.{task, running, ended, task_destroyed, event_open, fired, destroyed_unfired, latch, even_tally, held}
use Rattle.session.specs.Names.{object_places}
use Rattle.rules.specs.Reading.{at, made, is_kind}
use Rattle.rules.specs.Checks.{end_checks}
use Rattle.rules.specs.Effects.{end, let_go, bury_doomed, fire, fire_one, fire_finished}
use Rattle.rules.specs.Sound.{is_payload}
use Rattle.rules.specs.Descendants.{busy}
use Rattle.laws.specs.Rows.Name.{counts, task_parts, outputs}
use Rattle.laws.specs.Keeping.{But, Kept}
use Rattle.laws.specs.Met.{Checked}
use Rattle.laws.specs.SlotPlaces.{at_div, part-slots}
use Rattle.laws.specs.Firing.{EventAfter, event-after, EventAfter.fires_now, EventAfter.stays}
use Rattle.laws.specs.SatisfyEvent.{fire_one-rest}
use Rattle.laws.specs.Satisfy.{payload_of}
use Rattle.laws.specs.LettingGo.{let_go_keeps, none_held, none_held_made}
use Rattle.laws.specs.Moving.{move}
use Rattle.laws.specs.Retiring.{Retires, ends, retire_rest}
use Rattle.laws.specs.RetiredOutputs.{OpenOutput, open_output, finish_mark, late-after}
use Rattle.laws.specs.Finishing.{late, late_outputs, finishing_keeps}

-- an ended task's output event: fired if it is plain, and open or fired if it is a finish task
late-fired : (e finish : ℕ) (b : Formula) → e ≡ fired → finish ≡ 0 → Holds (late e ended finish b)
late-fired e finish b q plain =
    rw q (λ f. (refl, inl plain), (λ d. inl refl, ((λ f. absurd (omega arith), λ f. absurd (omega arith)), λ f. omega arith)))

late_open : (e finish : ℕ) (b : Formula) → e ≡ event_open → finish ≡ 1 → Holds (late e ended finish b)
late_open e finish b q fin =
    rw q (λ f. absurd (omega arith), (λ d. inr (refl, fin), (never, λ f. omega arith)))
  where
    never : Holds (event_open ≐ destroyed_unfired iff ended ≐ task_destroyed)
    never = (λ f. absurd (omega arith), λ f. absurd (omega arith))

-- once nothing is held
module _ (s : Session) (t : ℕ) (x : Retires s t ended) (h : Kept s) where
  abbrev left : Session
  left = move s t ended

  -- without output or of a finish task
  unfired : (s TaskOutput t ≡ 1 → s TaskFinish t ≡ 1) → (s TaskOutput t ≡ 1 → OpenOutput s t) → Kept (fire_finished left)
  unfolding put
  unfired fin out =
      finishing_keeps left (retire_rest s t ended x h)
      (late-after s t ended x h (s EventState) (λ i d. refl)
      (λ q. late_open (s EventState (t + 1)) (s TaskFinish t) (busy left t) (out q).state (fin q)))

  -- a plain task with output
  module _ (b : ℕ) (payload : Holds (is_payload s b)) (plain : s TaskFinish t ≡ 0) (out : OpenOutput s t) where
    abbrev done : Session
    done = fire_one left (t + 1) b

    after : (i : ℕ) → EventAfter left (λ k. k ≐ t + 1) (λ k. b) i
    after i = event-after left (λ k. k ≐ t + 1) (λ k. b) i

    done_beside : (i : ℕ) → (t ≡ i → ⊥) → done EventState (i + 1) ≡ s EventState (i + 1)
    unfolding put fire_one
    done_beside i n = go (after (i + 1))
      where
        go : EventAfter left (λ k. k ≐ t + 1) (λ k. b) (i + 1) → done EventState (i + 1) ≡ s EventState (i + 1)
        go (stays _ q _) = q
        go (fires_now p _ _) = absurd (n (omega arith))

    done-own : done EventState (t + 1) ≡ fired
    unfolding put fire_one
    done-own = go (after (t + 1))
      where
        go : EventAfter left (λ k. k ≐ t + 1) (λ k. b) (t + 1) → done EventState (t + 1) ≡ fired
        go (stays n _ _) = absurd (n refl)
        go (fires_now _ q _) = q

    done-rest : But (outputs ∷ []) done
    unfolding put
    done-rest = fire_one-rest left (t + 1) b (retire_rest s t ended x h) out.kind out.state payload no_latch
      where
        no_latch : s EventType (t + 1) ≡ latch → s EventTally (t + 1) ≡ even_tally
        no_latch q = let ty = out.type in absurd (omega arith)

    done-late : Holds (late_outputs done (done EventState))
    unfolding fire_one fire put change
    done-late =
        late-after s t ended x h (done EventState) done_beside
        (λ _. late-fired (done EventState (t + 1)) (s TaskFinish t) (busy left t) done-own plain)

    fires : Kept (fire_finished done)
    fires = finishing_keeps done done-rest done-late

  -- what is left by an end that returns b
  abbrev after_end : ℕ → Session
  after_end b = choose (s TaskOutput t ≐ 1 and s TaskFinish t ≐ 0) (fire_one left (t + 1) b) left

  ended_keeps : (b : ℕ) → Holds (is_payload s b) → Kept (fire_finished (after_end b))
  ended_keeps b payload = go (decide plain_output)
    where
      plain_output : Formula
      plain_output = s TaskOutput t ≐ 1 and s TaskFinish t ≐ 0

      below : t < s Objects 0 + 1
      below = let l = x.exists.1 in omega arith

      out : s TaskOutput t ≡ 1 → OpenOutput s t
      out q = open_output s t h x.exists x.kind x.from q

      finish : (Holds plain_output → ⊥) → s TaskOutput t ≡ 1 → s TaskFinish t ≡ 1
      finish n q =
          let l : s TaskFinish t ≤ 1 = finish_mark s t h below x.kind in
          let m : s TaskFinish t ≡ 0 → ⊥ = λ z. n (q, z) in
          omega arith

      go : Case plain_output → Kept (fire_finished (after_end b))
      go (it_does y) = rw (choose_yes plain_output (fire_one left (t + 1) b) left y) (fires b payload y.1 (out y.0))
      go (it_does_not n) = rw (choose_no plain_output (fire_one left (t + 1) b) left n) (unfired (finish n) out)

-- t lets go of everything
abbrev emptied : Session → ℕ → Session
emptied s t = let_go s t (λ k. 0 ≐ 0)

-- and may end then
may_end : (s : Session) (t : ℕ) → Holds (made s t) → Holds (is_kind s task t) → s TaskState t ≡ running → Kept s
    → Kept (emptied s t) → Retires (emptied s t) t ended
unfolding let_go bury_doomed change
may_end s t m k e h after = ends (emptied s t) t after m k e no_slot_lem (λ b l kb q c. none_held_made s t b c q)
  where
    low : t < object_places
    low = let c = h counts in omega arith

    no_slot_lem : (j : ℕ) → j < s TaskSlots t → emptied s t SlotMark (at t j) ≡ held → ⊥
    no_slot_lem j l q = let few = part-slots s t (h task_parts t low) in none_held s t (at t j) (at_div t j (omega arith)) q

pub end_keeps : (s : Session) (t b : ℕ) → Checked (end_checks s t b) → Kept s → Kept (end s t b)
unfolding end let_go bury_doomed change
end_keeps s t b m k =
    let exists = (m 9).0 in
    let kind = (m 10).0 in
    let runs = m 16 in
    let h = let_go_keeps s t (λ k. 0 ≐ 0) (exists, (kind, runs)) k in
    let x = may_end s t exists kind runs k h in
    ended_keeps (emptied s t) t x h b (payload_of s b (m 9).1 (m 10).1)
