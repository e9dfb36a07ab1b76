-- The firing after an end or the destroying of a task: where the only thing wrong is that output events of finish tasks are still
-- open, it fires those, and all rules hold again.
use Rattle.std.specs.Prelude.{ℕ, ◌+◌, ◌-◌, ◌≤◌, ◌≡◌, refl, ◌⊎◌, [], ◌∷◌}
use Rattle.std.proofs.Common.{inl, inr, arith}
use Rattle.session.specs.Table.{Session, change}
use Rattle.session.specs.declared.Field.TheVariants.{Objects, TaskState, TaskFinish, TaskOutput, EventState, EventType}
use Rattle.rules.specs.Formula.{Formula, Holds, not, ◌iff◌, Formula.◌≐◌, Formula.◌and◌, Formula.◌or◌, Formula.◌then◌}
use Rattle.rules.specs.Formula.Formula.{each}
use Rattle.rules.specs.FormulaLaws.{Case, decide, Case.it_does, Case.it_does_not}
use Rattle.session.specs.Names.{task, event, ended, task_destroyed, event_open, fired, destroyed_unfired, destroyed_fired, output}
use Rattle.rules.specs.Reading.{made, is_kind}
use Rattle.rules.specs.Effects.{fire, fire_finished, finishes}
use Rattle.rules.specs.Sound.{output_of}
use Rattle.rules.specs.Descendants.{busy}
use Rattle.laws.specs.Frame.{AllOf, Shown.due}
use Rattle.laws.specs.Rows.{Name, says}
use Rattle.laws.specs.Rows.Name.{outputs}
use Rattle.laws.specs.Keeping.{But, all, Excepted, Kept}
use Rattle.laws.specs.Conjuncts.{output_row, output_by_name, output_of_lem, finishes_by_name, finishes_of}
use Rattle.laws.specs.Conjuncts.Output.{output_made, output_event, output_type, fires_with, goes_with, stands}
use Rattle.laws.specs.Firing.{MayFire, EventAfter, event-after, fire-rest, EventAfter.fires_now, EventAfter.stays}

-- a task's output event should have fired: the task's state, its finish mark, and whether it is busy
abbrev should_fire : ℕ → ℕ → Formula → Formula
should_fire state finish busy = state ≐ ended and (finish ≐ 0 or not busy)

-- what the rule says of an output event's state
abbrev pub on_time : ℕ → ℕ → ℕ → Formula → Formula
on_time e state finish busy =
    (e ≐ fired iff should_fire state finish busy) and (e ≐ destroyed_unfired iff state ≐ task_destroyed) and not (e ≐ destroyed_fired)

-- the same, but that a finish task's may be open still
abbrev pub late : ℕ → ℕ → ℕ → Formula → Formula
late e state finish busy =
    (e ≐ fired then should_fire state finish busy)
    and (should_fire state finish busy then e ≐ fired or e ≐ event_open and finish ≐ 1)
    and (e ≐ destroyed_unfired iff state ≐ task_destroyed) and not (e ≐ destroyed_fired)

-- an output event
abbrev pub is_output : Session → ℕ → Formula
is_output s e = made s e and is_kind s event e and s EventType e ≐ output

-- what the rule says of a task's output event is these two
pub on_time_lem : (s : Session) (t : ℕ) → Holds (output_of s t)
    → Holds (is_output s (t + 1) and on_time (s EventState (t + 1)) (s TaskState t) (s TaskFinish t) (busy s t))
on_time_lem s t x =
    let v = output_by_name t s x in ((v output_made, (v output_event, v output_type)), (v fires_with, (v goes_with, v stands)))

pub from-on_time : (s : Session) (t : ℕ) → Holds (is_output s (t + 1))
    → Holds (on_time (s EventState (t + 1)) (s TaskState t) (s TaskFinish t) (busy s t)) → Holds (output_of s t)
from-on_time s t x y = output_of_lem t s each_of
  where
    each_of : AllOf (output_row t) s
    each_of output_made = x.0
    each_of output_event = x.1.0
    each_of output_type = x.1.1
    each_of fires_with = y.0
    each_of goes_with = y.1.0
    each_of stands = y.1.1

-- the same with the event late at the most, and the whole rule with that, were the events' states those given
abbrev pub late_of : Session → (ℕ → ℕ) → ℕ → Formula
late_of s states t = is_output s (t + 1) and late (states (t + 1)) (s TaskState t) (s TaskFinish t) (busy s t)

abbrev pub late_outputs : Session → (ℕ → ℕ) → Formula
late_outputs s states =
    each (s Objects 0 + 1) (λ h. (is_kind s task h and s TaskOutput h ≐ 1 then late_of s states h)
    and (is_kind s event h and s EventType h ≐ output then is_kind s task (h - 1) and s TaskOutput (h - 1) ≐ 1))

-- an event on time may be late once its task is less busy
pub falls_late : (e state finish : ℕ) (b c : Formula) → 1 ≤ e → e ≤ destroyed_fired → finish ≤ 1 → (Holds c → Holds b)
    → Holds (on_time e state finish b) → Holds (late e state finish c)
falls_late e state finish b c lo hi f less x =
    (λ q. ((x.0.0 q).0, quiet (x.0.0 q).1), (λ d. go (decide (should_fire state finish b)) d, x.1))
  where
    quiet : finish ≡ 0 ⊎ (Holds b → ⊥) → finish ≡ 0 ⊎ (Holds c → ⊥)
    quiet (inl z) = inl z
    quiet (inr n) = inr (λ y. n (less y))

    not_destroyed : state ≡ ended → e ≡ destroyed_unfired → ⊥
    not_destroyed d q = let r : state ≡ task_destroyed = x.1.0.0 q in omega arith

    is_open : (Holds (should_fire state finish b) → ⊥) → state ≡ ended → e ≡ event_open
    is_open n d =
        let a : e ≡ fired → ⊥ = λ q. n (x.0.0 q) in
        let b : e ≡ destroyed_unfired → ⊥ = not_destroyed d in
        let c : e ≡ destroyed_fired → ⊥ = x.1.1 in
        omega arith

    finishing : (Holds (should_fire state finish b) → ⊥) → state ≡ ended → finish ≡ 1
    finishing n d = let a : finish ≡ 0 → ⊥ = λ z. n (d, inl z) in omega arith

    go : Case (should_fire state finish b) → Holds (should_fire state finish c) → e ≡ fired ⊎ (e ≡ event_open) × (finish ≡ 1)
    go (it_does y) d = inl (x.0.1 y)
    go (it_does_not n) d = inr (is_open n d.0, finishing n d.0)

-- what fires, fires on time
fires_on_time : (state finish : ℕ) (b : Formula) → state ≡ ended → (Holds b → ⊥) → Holds (on_time fired state finish b)
fires_on_time state finish b d n =
    ((λ q. (d, inr n), λ q. refl), ((λ q. absurd (omega arith), λ q. absurd (omega arith)), λ q. omega arith))

-- what stays as it is was on time
was-on_time : (e state finish : ℕ) (b : Formula) → (e ≡ event_open → finish ≡ 1 → state ≡ ended → (Holds b → ⊥) → ⊥)
    → Holds (late e state finish b) → Holds (on_time e state finish b)
was-on_time e state finish b n x = ((x.0, λ d. go d.0 d.1 (x.1.0 d)), x.1.1)
  where
    go : state ≡ ended → finish ≡ 0 ⊎ (Holds b → ⊥) → e ≡ fired ⊎ (e ≡ event_open) × (finish ≡ 1) → e ≡ fired
    go d q (inl f) = f
    go d (inl z) (inr o) = let f = o.1 in absurd (omega arith)
    go d (inr m) (inr o) = absurd (n o.0 o.1 d m)

module _ (s : Session) where
  may_finish : MayFire s (finishes s) (λ e. 0)
  may_finish e x =
      let f = finishes_by_name s e x in
      (f.kind, f.unfired, inl refl, λ q. let o = f.type in absurd (omega arith))

  back : (t : ℕ) → t + 1 - 1 ≡ t
  back t = omega arith

  finished : (t : ℕ) → Holds (late_of s (s EventState) t) → EventAfter s (finishes s) (λ e. 0) (t + 1)
      → Holds (on_time (fire s (finishes s) (λ e. 0) EventState (t + 1)) (s TaskState t) (s TaskFinish t) (busy s t))
  finished t x (fires_now y e p) =
      let f = finishes_by_name s (t + 1) y in
      rw e (fires_on_time (s TaskState t) (s TaskFinish t) (busy s t) (rw (back t) at f.over) (rw (back t) at f.idle))
  finished t ((made, (kind, type)), when) (stays n e p) =
      rw e (was-on_time (s EventState (t + 1)) (s TaskState t) (s TaskFinish t) (busy s t) none when)
    where
      none : s EventState (t + 1) ≡ event_open → s TaskFinish t ≡ 1 → s TaskState t ≡ ended → (Holds (busy s t) → ⊥) → ⊥
      none o f d m =
          n (finishes_of s (t + 1)
          (record {
            kind = kind;
            type = type;
            unfired = o;
            finish = rw (back t) f;
            over = rw (back t) d;
            idle = rw (back t) m;
          }))

  finishing_outputs : Holds (late_outputs s (s EventState)) → Holds (says outputs (fire_finished s))
  unfolding fire_finished fire change
  finishing_outputs h i l = (λ c. go ((h i l).0 c), (h i l).1)
    where
      go : Holds (late_of s (s EventState) i) → Holds (output_of (fire_finished s) i)
      go x = from-on_time (fire_finished s) i x.0 (finished i x (event-after s (finishes s) (λ e. 0) (i + 1)))

  finishing_rest : But (outputs ∷ []) s → But (outputs ∷ []) (fire_finished s)
  unfolding fire_finished
  finishing_rest h = fire-rest s (finishes s) (λ e. 0) h may_finish

  pub finishing_keeps : But (outputs ∷ []) s → Holds (late_outputs s (s EventState)) → Kept (fire_finished s)
  finishing_keeps h x = all (outputs ∷ []) (finishing_rest h) again
    where
      again : (n : Name) → Excepted (outputs ∷ []) n → Holds (says n (fire_finished s))
      again outputs due = finishing_outputs x
      again Rattle.laws.specs.Rows.counts x'' = elim x'' [ ]
      again Rattle.laws.specs.Rows.kinds x3 = elim x3 [ ]
      again Rattle.laws.specs.Rows.template_parts x4 = elim x4 [ ]
      again Rattle.laws.specs.Rows.task_parts x5 = elim x5 [ ]
      again Rattle.laws.specs.Rows.event_parts x6 = elim x6 [ ]
      again Rattle.laws.specs.Rows.block_parts x7 = elim x7 [ ]
      again Rattle.laws.specs.Rows.roots x8 = elim x8 [ ]
      again Rattle.laws.specs.Rows.creators x9 = elim x9 [ ]
      again Rattle.laws.specs.Rows.slots x10 = elim x10 [ ]
      again Rattle.laws.specs.Rows.links x11 = elim x11 [ ]
      again Rattle.laws.specs.Rows.one_link x12 = elim x12 [ ]
      again Rattle.laws.specs.Rows.states x13 = elim x13 [ ]
      again Rattle.laws.specs.Rows.blocks x14 = elim x14 [ ]
      again Rattle.laws.specs.Rows.compatible x15 = elim x15 [ ]
      again Rattle.laws.specs.Rows.latches x16 = elim x16 [ ]
      again Rattle.laws.specs.Rows.counted_events x17 = elim x17 [ ]
      again Rattle.laws.specs.Rows.dropped x18 = elim x18 [ ]
      again Rattle.laws.specs.Rows.free_slots x19 = elim x19 [ ]
      again Rattle.laws.specs.Rows.free_links x20 = elim x20 [ ]
      again Rattle.laws.specs.Rows.settled x21 = elim x21 [ ]
