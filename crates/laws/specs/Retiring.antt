-- A task that is live becomes ended or destroyed: if it holds nothing, all rules but that of the outputs survive it, and no task
-- becomes busy by it. One field is written, the tasks' states; five more rules read it.
use Rattle.std.specs.Prelude.{ℕ, ◌+◌, ◌≤◌, ◌<◌, ◌≡◌, ◌⊎◌, [], ◌∷◌}
use Rattle.std.proofs.Math.Path.{refl, ap}
use Rattle.std.proofs.Common.{sym, ◌∙◌, inl, arith}
use Rattle.std.proofs.Math.Logic.{inr}
use Rattle.session.specs.Table.{Session, put, change}
use Rattle.session.specs.declared.Field.TheVariants.{Objects, Kind, TaskState, TaskCreator, TaskSlots, SlotMark, BlockCreator}
use Rattle.session.specs.declared.Field.TheVariants.{BlockHeld}
use Rattle.rules.specs.Formula.{Holds}
use Rattle.session.specs.Names.{task, block, resolved, granted, running, ended, task_destroyed, held}
use Rattle.rules.specs.Reading.{made, is_kind, at}
use Rattle.rules.specs.Sound.{state, full}
use Rattle.rules.specs.Descendants.{busy}
use Rattle.laws.specs.Outside.{Outside, outside_same, outside_put}
use Rattle.laws.specs.Frame.{AllOf, Shown.due}
use Rattle.laws.specs.Rows.{Name, says}
use Rattle.laws.specs.Rows.Name.{task_parts, creators, outputs, slots, states, blocks}
use Rattle.laws.specs.Keeping.{But, but, Due, kept_by, Kept}
use Rattle.laws.specs.Conjuncts.{state_row, state_by_name, state_of, started, creator_lasts}
use Rattle.laws.specs.Conjuncts.State.{waits_unfilled, later_full, holding_slot}
use Rattle.laws.specs.Marks.{Marking, marked-slots}
use Rattle.laws.specs.Moving.{move, Moved, after-move, move-task_part, move-busy, Moved.state_stays, Moved.state_moves}

-- what is known of task t, which is to have the state v
pub record Retires (s : Session) (t v : ℕ) : Type 0 where
  pub exists : Holds (made s t)
  pub kind : Holds (is_kind s task t)
  pub from : s TaskState t ≤ running
  pub low : ended ≤ v
  pub high : v ≤ task_destroyed
  -- only a task that started is a creator, and it can but end
  pub how : v ≡ ended ⊎ s TaskState t ≤ resolved
  pub satisfied : v ≡ ended → Holds (full s t)
  -- it holds nothing
  pub no_slot_lem : (j : ℕ) → j < s TaskSlots t → s SlotMark (at t j) ≡ held → ⊥
  pub no_block : (b : ℕ) → b < s Objects 0 + 1 → s Kind b ≡ block → s BlockHeld b ≡ 1 → s BlockCreator b ≡ t → ⊥

below : (s : Session) (t : ℕ) → Holds (made s t) → t < s Objects 0 + 1
below s t m = let l = m.1 in omega arith

-- a running task that holds nothing ends
pub ends : (s : Session) (t : ℕ) → Kept s → Holds (made s t) → Holds (is_kind s task t) → s TaskState t ≡ running
    → ((j : ℕ) → j < s TaskSlots t → s SlotMark (at t j) ≡ held → ⊥)
    → ((b : ℕ) → b < s Objects 0 + 1 → s Kind b ≡ block → s BlockHeld b ≡ 1 → s BlockCreator b ≡ t → ⊥)
    → Retires s t ended
ends s t h m k e no_slot_lem no_block =
    record {
      exists = m;
      kind = k;
      from = omega arith;
      low = omega arith;
      high = omega arith;
      how = inl refl;
      satisfied = λ _. state_by_name t s (h states t (below s t m) k) later_full (omega arith, omega arith);
      no_slot_lem = no_slot_lem;
      no_block = no_block;
    }

-- a task that was not granted is destroyed
pub goes : (s : Session) (t : ℕ) → Kept s → Holds (made s t) → Holds (is_kind s task t) → s TaskState t ≤ resolved
    → Retires s t task_destroyed
goes s t h m k e =
    record {
      exists = m;
      kind = k;
      from = omega arith;
      low = omega arith;
      high = omega arith;
      how = inr e;
      satisfied = λ q. absurd (omega arith);
      no_slot_lem = λ j l q. neither ((state_by_name t s (h states t (below s t m) k) holding_slot j l).1 q).1;
      no_block = λ b l kb q c. not-running (ap (s TaskState) (sym c) ∙ ((h blocks b l kb).0 q).1);
    }
  where
    not-running : s TaskState t ≡ running → ⊥
    not-running q = omega arith

    neither : s TaskState t ≡ granted ⊎ s TaskState t ≡ running → ⊥
    neither (inl q) = omega arith
    neither (inr q) = not-running q

module _ (s : Session) (t v : ℕ) (x : Retires s t v) where
  writes : Outside s (move s t v) (TaskState ∷ [])
  writes = outside_put t v (outside_same s)

  -- what is live was live
  was-live : (i : ℕ) → move s t v TaskState i ≤ running → s TaskState i ≤ running
  was-live i h = go (after-move s t v i)
    where
      go : Moved s t v i → s TaskState i ≤ running
      go (state_stays e) = omega arith
      go (state_moves p e) = let l = x.low in absurd (omega arith)

  -- so no task becomes busy
  pub retire_busy : (a : ℕ) → Holds (busy (move s t v) a) → Holds (busy s a)
  retire_busy = move-busy s t v was-live

  retire_started : (i : ℕ) → Holds (started s i) → Holds (started (move s t v) i)
  unfolding put
  retire_started i c = go (after-move s t v (s TaskCreator i)) x.how c
    where
      go : Moved s t v (s TaskCreator i) → (v ≡ ended ⊎ s TaskState t ≤ resolved) → Holds (started s i)
          → Holds (started (move s t v) i)
      go (state_stays e) d c = rw e c
      go (state_moves p e) (inl q) c = inr (e ∙ q)
      go (state_moves p e) (inr q) (inl c) = let r : s TaskState t ≡ running = ap (s TaskState) p ∙ c in absurd (omega arith)
      go (state_moves p e) (inr q) (inr c) = let r : s TaskState t ≡ ended = ap (s TaskState) p ∙ c in absurd (omega arith)

  -- no slot changes, and who was destroyed still is
  retire_marks : Marking s (s SlotMark) (move s t v TaskState)
  retire_marks =
      record {
        zero_stays = λ i p e. e;
        zero_was = λ i e. e;
        low = λ i l. l;
        destroyed_stays = λ i e. go i e (after-move s t v i);
      }
    where
      go : (i : ℕ) → s TaskState i ≡ task_destroyed → Moved s t v i → move s t v TaskState i ≡ task_destroyed
      go i d (state_stays e) = e ∙ d
      go i d (state_moves p e) =
          let f = x.from in let q : s TaskState t ≡ task_destroyed = ap (s TaskState) p ∙ d in absurd (omega arith)

  -- what is said of a task that is ended or destroyed
  retired : (i : ℕ) → t ≡ i → move s t v TaskState i ≡ v → AllOf (state_row i) (move s t v)
  unfolding put
  retired i p e waits_unfilled = rw e (let l = x.low in λ a. absurd (omega arith))
  retired i p e later_full = rw e (λ a. full_at (let l = x.low in let h = a.1 in omega arith))
    where
      full_at : v ≡ ended → Holds (full s i)
      full_at q = rw p at (x.satisfied q)
  retired i p e holding_slot =
      rw e (λ j m. (λ a. let l = x.low in let g = a.0 in absurd (omega arith), λ h. absurd (empty j m h)))
    where
      empty : (j : ℕ) → j < s TaskSlots i → s SlotMark (at i j) ≡ held → ⊥
      empty = rw p at x.no_slot_lem

  retire_state : (i : ℕ) → Holds (state s i) → Holds (state (move s t v) i)
  unfolding put
  retire_state i c = go (after-move s t v i)
    where
      go : Moved s t v i → Holds (state (move s t v) i)
      go (state_stays e) = rw e c
      go (state_moves p e) = state_of i (move s t v) (retired i p e)

  -- a block that is held has another creator, which runs still
  still_runs : (b : ℕ) → b < s Objects 0 + 1 → s Kind b ≡ block → s BlockHeld b ≡ 1 → s TaskState (s BlockCreator b) ≡ running
      → move s t v TaskState (s BlockCreator b) ≡ running
  still_runs b l k e r = go (after-move s t v (s BlockCreator b))
    where
      go : Moved s t v (s BlockCreator b) → move s t v TaskState (s BlockCreator b) ≡ running
      go (state_stays q) = q ∙ r
      go (state_moves p q) = absurd (x.no_block b l k e (sym p))

  module _ (h : Kept s) where
    shows : (n : Name) → Due (TaskState ∷ []) (outputs ∷ []) n → Holds (says n (move s t v))
    unfolding put change
    shows task_parts due = λ i l. move-task_part s t v x.kind (omega (arith, x.low)) x.high i (h task_parts i l)
    shows creators due = λ i l k. creator_lasts i writes refl (retire_started i) (h creators i l k)
    shows slots due = marked-slots retire_marks (h slots)
    shows states due = λ i l k. retire_state i (h states i l k)
    shows blocks due = λ b l k. let c = h blocks b l k in (λ e. ((c.0 e).0, still_runs b l k e (c.0 e).1), c.1)
    shows Rattle.laws.specs.Rows.counts x'' = elim x'' [ ]
    shows Rattle.laws.specs.Rows.kinds x3 = elim x3 [ ]
    shows Rattle.laws.specs.Rows.template_parts x4 = elim x4 [ ]
    shows Rattle.laws.specs.Rows.event_parts x5 = elim x5 [ ]
    shows Rattle.laws.specs.Rows.block_parts x6 = elim x6 [ ]
    shows Rattle.laws.specs.Rows.roots x7 = elim x7 [ ]
    shows outputs x8 = elim x8 [ ]
    shows Rattle.laws.specs.Rows.links x9 = elim x9 [ ]
    shows Rattle.laws.specs.Rows.one_link x10 = elim x10 [ ]
    shows Rattle.laws.specs.Rows.compatible x11 = elim x11 [ ]
    shows Rattle.laws.specs.Rows.latches x12 = elim x12 [ ]
    shows Rattle.laws.specs.Rows.counted_events x13 = elim x13 [ ]
    shows Rattle.laws.specs.Rows.dropped x14 = elim x14 [ ]
    shows Rattle.laws.specs.Rows.free_slots x15 = elim x15 [ ]
    shows Rattle.laws.specs.Rows.free_links x16 = elim x16 [ ]
    shows Rattle.laws.specs.Rows.settled x17 = elim x17 [ ]

    -- all rules but that of the outputs
    pub retire_rest : But (outputs ∷ []) (move s t v)
    retire_rest = kept_by (outputs ∷ []) writes (but (outputs ∷ []) h) shows
