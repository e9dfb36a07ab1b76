-- A task that does not run yet moves to another state before its end, as by a grant or a start: what the rules say of
-- creators, outputs, blocks and slots lasts, since no descendant comes or goes and no running task stops.
use Rattle.std.specs.Prelude.{ℕ, ◌≤◌, ◌≡◌, ◌⊎◌, [], ◌∷◌}
use Rattle.std.proofs.Common.{sym, ◌∙◌, arith}
use Rattle.std.proofs.Math.Logic.{inl, inr}
use Rattle.session.specs.Table.{Session, put}
use Rattle.session.specs.declared.Field.TheVariants.{Kind, TaskState, TaskCreator, TaskFinish}
use Rattle.rules.specs.Formula.{Holds}
use Rattle.session.specs.Names.{running, granted, ended, task, task_destroyed}
use Rattle.rules.specs.Sound.{task_part, creators, creator, outputs, output_of}
use Rattle.rules.specs.Descendants.{busy}
use Rattle.laws.specs.Outside.{Outside, outside_same, outside_put}
use Rattle.laws.specs.Frame.{AllOf, DueOf, Shown.due}
use Rattle.laws.specs.Conjuncts.{Task, task_row, task_says, task_lasts, Task.state_low, Task.state_high}
use Rattle.laws.specs.Conjuncts.{Output, output_row, output_says, output_by_name, output_lasts}
use Rattle.laws.specs.Conjuncts.Output.{fires_with, goes_with}
use Rattle.laws.specs.Places.{Places, places, put-here, put_there, Places.one, Places.two}

-- task t in state v
abbrev pub move : Session → ℕ → ℕ → Session
move s t v = put s TaskState t v

pub move-writes : (s : Session) (t v : ℕ) → Outside s (move s t v) (TaskState ∷ [])
move-writes s t v = outside_put t v (outside_same s)

-- a task's state after: v at t, and as it was elsewhere
pub data Moved (s : Session) (t v i : ℕ) : Type 0 where
  state_stays : move s t v TaskState i ≡ s TaskState i → Moved s t v i
  state_moves : t ≡ i → move s t v TaskState i ≡ v → Moved s t v i

pub after-move : (s : Session) (t v i : ℕ) → Moved s t v i
after-move s t v i = go (places t i)
  where
    go : Places t i → Moved s t v i
    go (one e) = state_moves e (put-here s TaskState t i v e)
    go (two n) = state_stays (put_there s TaskState t i v n)

-- any state of a task will do for what the rules say of the object
module _ (s : Session) (t v : ℕ) (kind : s Kind t ≡ task) (some : 1 ≤ v) (high : v ≤ task_destroyed) where
  pub move-task_part : (i : ℕ) → Holds (task_part s i) → Holds (task_part (move s t v) i)
  unfolding put
  move-task_part i x = go (after-move s t v i)
    where
      go : Moved s t v i → Holds (task_part (move s t v) i)
      go (state_stays e) = rw e x
      go (state_moves p e) = task_lasts i (move-writes s t v) (rw (← p) kind) x shows
        where
          shows : (n : Task) → DueOf (task_row i) (TaskState ∷ []) n → Holds (task_says i n (move s t v))
          shows state_low due = rw e some
          shows state_high due = rw e high
          shows Rattle.laws.specs.Conjuncts.is_task x3 = elim x3 [ ]
          shows Rattle.laws.specs.Conjuncts.few_slots x4 = elim x4 [ ]
          shows Rattle.laws.specs.Conjuncts.finish_flag x5 = elim x5 [ ]
          shows Rattle.laws.specs.Conjuncts.output_flag x6 = elim x6 [ ]

-- where no task comes to live, none becomes busy
pub move-busy : (s : Session) (t v : ℕ) → ((i : ℕ) → move s t v TaskState i ≤ running → s TaskState i ≤ running)
    → (a : ℕ) → Holds (busy (move s t v) a) → Holds (busy s a)
unfolding put
move-busy s t v was-live a x = (x.0, x.1, ((x.2.0.0, was-live x.0 x.2.0.1), x.2.1))

module _ (s : Session) (t v : ℕ) (kind : s Kind t ≡ task) (was : s TaskState t ≤ granted) (some : 1 ≤ v)
    (is : v ≤ running) where
  was-at : (i : ℕ) → t ≡ i → s TaskState i ≤ granted
  was-at i e = rw (← e) was

  still-live : (i : ℕ) → s TaskState i ≤ running → move s t v TaskState i ≤ running
  still-live i h = go (after-move s t v i)
    where
      go : Moved s t v i → move s t v TaskState i ≤ running
      go (state_stays e) = omega arith
      go (state_moves p e) = omega arith

  was-live : (i : ℕ) → move s t v TaskState i ≤ running → s TaskState i ≤ running
  was-live i h = go (after-move s t v i)
    where
      go : Moved s t v i → s TaskState i ≤ running
      go (state_stays e) = omega arith
      go (state_moves p e) = let l = was-at i p in omega arith

  -- who ran, had ended or was destroyed still does or is
  pub still : (w : ℕ) → running ≤ w → (i : ℕ) → s TaskState i ≡ w → move s t v TaskState i ≡ w
  still w h i e = go (after-move s t v i)
    where
      go : Moved s t v i → move s t v TaskState i ≡ w
      go (state_stays q) = q ∙ e
      go (state_moves p q) = let l = was-at i p in absurd (omega arith)

  -- and who has ended or is destroyed had or was
  pub stood : (w : ℕ) → ended ≤ w → (i : ℕ) → move s t v TaskState i ≡ w → s TaskState i ≡ w
  stood w h i e = go (after-move s t v i)
    where
      go : Moved s t v i → s TaskState i ≡ w
      go (state_stays q) = sym q ∙ e
      go (state_moves p q) = absurd (omega arith)

  pub move-creators : Holds (creators s) → Holds (creators (move s t v))
  unfolding put
  move-creators h i l k = go (h i l k)
    where
      lasts : s TaskState (s TaskCreator i) ≡ running ⊎ s TaskState (s TaskCreator i) ≡ ended
          → move s t v TaskState (s TaskCreator i) ≡ running ⊎ move s t v TaskState (s TaskCreator i) ≡ ended
      lasts (inl e) = inl (still running (omega arith) (s TaskCreator i) e)
      lasts (inr e) = inr (still ended (omega arith) (s TaskCreator i) e)

      go : Holds (creator s i) → Holds (creator (move s t v) i)
      go (inl e) = inl e
      go (inr (made, (lower, (k, state)))) = inr (made, (lower, (k, lasts state)))

  -- no descendant goes or comes
  was-busy : (a : ℕ) → Holds (busy (move s t v) a) → Holds (busy s a)
  was-busy = move-busy s t v was-live

  still-busy : (a : ℕ) → Holds (busy s a) → Holds (busy (move s t v) a)
  unfolding put
  still-busy a x = (x.0, x.1, ((x.2.0.0, still-live x.0 x.2.0.1), x.2.1))

  move-output_of : (i : ℕ) → Holds (output_of s i) → Holds (output_of (move s t v) i)
  unfolding put
  move-output_of i x = output_lasts i (move-writes s t v) x shows
    where
      o : AllOf (output_row i) s
      o = output_by_name i s x

      quiet : s TaskFinish i ≡ 0 ⊎ (Holds (busy s i) → ⊥) → s TaskFinish i ≡ 0 ⊎ (Holds (busy (move s t v) i) → ⊥)
      quiet (inl e) = inl e
      quiet (inr n) = inr (λ x. n (was-busy i x))

      was_quiet : s TaskFinish i ≡ 0 ⊎ (Holds (busy (move s t v) i) → ⊥) → s TaskFinish i ≡ 0 ⊎ (Holds (busy s i) → ⊥)
      was_quiet (inl e) = inl e
      was_quiet (inr n) = inr (λ x. n (still-busy i x))

      shows : (n : Output) → DueOf (output_row i) (TaskState ∷ []) n → Holds (output_says i n (move s t v))
      shows fires_with due = (
        λ e. let y = (o fires_with).0 e in (still ended (omega arith) i y.0, quiet y.1),
        λ y. (o fires_with).1 (stood ended (omega arith) i y.0, was_quiet y.1),
      )
      shows goes_with due = (
        λ e. still task_destroyed (omega arith) i ((o goes_with).0 e),
        λ e. (o goes_with).1 (stood task_destroyed (omega arith) i e),
      )
      shows Rattle.laws.specs.Conjuncts.output_made x'' = elim x'' [ ]
      shows Rattle.laws.specs.Conjuncts.output_event x3 = elim x3 [ ]
      shows Rattle.laws.specs.Conjuncts.output_type x4 = elim x4 [ ]
      shows Rattle.laws.specs.Conjuncts.stands x5 = elim x5 [ ]

  pub move-outputs : Holds (outputs s) → Holds (outputs (move s t v))
  unfolding put
  move-outputs h i l = (λ x. move-output_of i ((h i l).0 x), (h i l).1)
