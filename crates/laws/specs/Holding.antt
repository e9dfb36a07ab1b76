-- Where no task is granted or running nobody holds anything: so nothing conflicts, no block is doomed, and a resolved task
-- is granted unless a block of its slots was destroyed. What a granted, a running task and a ready link let happen.
use Rattle.std.specs.Prelude.{ℕ, zero, suc, ◌+◌, ◌*◌, ◌/◌, ◌%◌, ◌≤◌, ◌<◌, ◌≡◌, refl, ◌⊎◌}
use Rattle.std.proofs.Common.{ap, sym, ◌∙◌, inl, inr, arith}
use Rattle.session.specs.Table.{Session}
use Rattle.session.specs.declared.Field.TheVariants.{Objects, Kind, TaskState, TaskSlots, BlockState, BlockCreator, BlockHeld}
use Rattle.session.specs.declared.Field.TheVariants.{SlotMark, SlotPayload}
use Rattle.session.specs.Names.{task, block, waiting, resolved, granted, running, ended, held, doomed, block_destroyed}
use Rattle.rules.specs.Formula.{Formula, Holds, not, Formula.◌≐◌, Formula.◌≼◌, Formula.◌and◌, Formula.◌or◌}
use Rattle.rules.specs.Formula.Formula.{each, some}
use Rattle.rules.specs.FormulaLaws.{Case, decide, Case.it_does, Case.it_does_not}
use Rattle.rules.specs.Reading.{at, made, is_kind, is_gone, is_held}
use Rattle.rules.specs.Checks.{or_null, remains, slot_free, grant_checks, start_checks, end_checks}
use Rattle.rules.specs.Sound.{is_payload, no_slot, slot, claimed, block_part, full}
use Rattle.laws.specs.Rows.Name.{counts, kinds, task_parts, block_parts, slots, states, blocks}
use Rattle.laws.specs.Keeping.{Kept}
use Rattle.laws.specs.Conjuncts.{slot-place, claimed_by_name, task_by_name, block_by_name, block_says, state_by_name}
use Rattle.laws.specs.Conjuncts.{Claimed.payload, Task.state_low, State.waits_unfilled, State.holding_slot}
use Rattle.laws.specs.Conjuncts.Block.{state_high, has_creator}
use Rattle.laws.specs.Marks.{slot_low}
use Rattle.laws.specs.Met.{met}
use Rattle.laws.specs.SlotPlaces.{place_split, place_low, place_owner}

-- a task is gone only when it has ended, a block only when it is doomed or destroyed
pub task-gone : (s : Session) (h : ℕ) → s Kind h ≡ task → Holds (is_gone s h) → ended ≤ s TaskState h
task-gone s h k (inl x) = let e = x.0 in absurd (omega arith)
task-gone s h k (inr (inl x)) = x.1
task-gone s h k (inr (inr (inl x))) = let e = x.0 in absurd (omega arith)
task-gone s h k (inr (inr (inr x))) = let e = x.0 in absurd (omega arith)

pub block-gone : (s : Session) (h : ℕ) → s Kind h ≡ block → Holds (is_gone s h) → doomed ≤ s BlockState h
block-gone s h k (inl x) = let e = x.0 in absurd (omega arith)
block-gone s h k (inr (inl x)) = let e = x.0 in absurd (omega arith)
block-gone s h k (inr (inr (inl x))) = let e = x.0 in absurd (omega arith)
block-gone s h k (inr (inr (inr x))) = x.1

-- a place where a formula fails, unless it holds at each
failing : (n : ℕ) (f : ℕ → Formula) → (Holds (each n f) → ⊥) → (i : ℕ) × (i < n) × (Holds (f i) → ⊥)
failing n f no-each = go (decide (some n (λ i. not (f i))))
  where
    at_each : (Holds (some n (λ i. not (f i))) → ⊥) → (i : ℕ) → i < n → Case (f i) → Holds (f i)
    at_each m i l (it_does x) = x
    at_each m i l (it_does_not z) = absurd (m (i, l, z))

    go : Case (some n (λ i. not (f i))) → (i : ℕ) × (i < n) × (Holds (f i) → ⊥)
    go (it_does x) = x
    go (it_does_not m) = absurd (no-each (λ i l. at_each m i l (decide (f i))))

-- no task is granted or running
abbrev pub Idle : Session → Type 0
Idle s = (h : ℕ) → Holds (made s h) → Holds (is_kind s task h) → (s TaskState h ≡ granted → ⊥) × (s TaskState h ≡ running → ⊥)

-- a slot is empty or has a block that is not destroyed
abbrev usable : Session → ℕ → ℕ → Formula
usable s t j = s SlotPayload (at t j) ≐ 0 or not (s BlockState (s SlotPayload (at t j)) ≐ block_destroyed)

-- a slot is not satisfied, or has a destroyed block
abbrev pub lacks : Session → ℕ → ℕ → Formula
lacks s t j =
    s SlotMark (at t j) ≐ 0
    or is_kind s block (s SlotPayload (at t j)) and s BlockState (s SlotPayload (at t j)) ≐ block_destroyed

unusable : (s : Session) (t j : ℕ) → (Holds (usable s t j) → ⊥) → Holds (is_payload s (s SlotPayload (at t j)))
    → (s Kind (s SlotPayload (at t j)) ≡ block) × (s BlockState (s SlotPayload (at t j)) ≡ block_destroyed)
unusable s t j n (inl e) = absurd (n (inl e))
unusable s t j n (inr x) = (x.1, go (decide (s BlockState (s SlotPayload (at t j)) ≐ block_destroyed)))
  where
    go : Case (s BlockState (s SlotPayload (at t j)) ≐ block_destroyed) → s BlockState (s SlotPayload (at t j)) ≡ block_destroyed
    go (it_does y) = y
    go (it_does_not m) = absurd (n (inr m))

module _ (s : Session) (r : Kept s) (idle : Idle s) where
  -- handle 0 is no task
  tasked : (h : ℕ) → h < s Objects 0 + 1 → s Kind h ≡ task → Holds (made s h)
  tasked zero l e = let z = (r kinds).0 in absurd (omega arith)
  tasked (suc h) l e = (omega arith, omega arith)

  -- the payload of a slot that a task has is one
  slot_payload : (t j : ℕ) → t < s Objects 0 + 1 → j < s TaskSlots t → Holds (is_payload s (s SlotPayload (at t j)))
  slot_payload t j l b = go (slot-place s t j (r slots t l j (slot_low s (r counts) (r task_parts) t j l b)))
    where
      go : Holds (no_slot s (at t j)) ⊎ Holds (claimed s t j) → Holds (is_payload s (s SlotPayload (at t j)))
      go (inl x) = inl x.1.1
      go (inr x) = claimed_by_name t j s x payload

  part : (b : ℕ) → b < s Objects 0 + 1 → Holds (block_part s b)
  part b l = let c = r counts in r block_parts b (omega arith)

  no_hold : (h j : ℕ) → h < s Objects 0 + 1 → j < 16 → s SlotMark (at h j) ≡ held → ⊥
  no_hold h j l m e = go (r slots h l j m)
    where
      go : Holds (slot s h j) → ⊥
      go (inr (past, (mode, (mark, p)))) = omega arith
      go (inl (kind, (b, x))) = stops ((state_by_name h s (r states h l kind) holding_slot j b).1 e).1
        where
          quiet : (s TaskState h ≡ granted → ⊥) × (s TaskState h ≡ running → ⊥)
          quiet = idle h (tasked h l kind) kind

          stops : s TaskState h ≡ granted ⊎ s TaskState h ≡ running → ⊥
          stops (inl a) = quiet.0 a
          stops (inr a) = quiet.1 a

  no_slot-held : (i : ℕ) → i < 16 * (s Objects 0 + 1) → s SlotMark i ≡ held → ⊥
  no_slot-held i l e =
      no_hold (i / 16) (i % 16) (place_owner (s Objects 0 + 1) i l) (place_low i) (ap (s SlotMark) (sym (place_split i)) ∙ e)

  no_block_held : (b : ℕ) → b < s Objects 0 + 1 → s BlockHeld b ≡ 1 → ⊥
  no_block_held b l e = go (part b l)
    where
      go : Holds (block_part s b) → ⊥
      go (inr (n, (state, (creator, flag)))) = omega arith
      go (inl x) = maker (block_by_name b s x.0 (part b l) has_creator) ((r blocks b l x.0).0 e)
        where
          maker : Holds (block_says b has_creator s) → (1 ≤ s BlockCreator b) × (s TaskState (s BlockCreator b) ≡ running) → ⊥
          maker (inl y) z = let p = y.1 in let q = z.0 in omega arith
          maker (inr y) z = (idle (s BlockCreator b) y.0 y.1).1 z.1

  nobody_holds : (b : ℕ) → b < s Objects 0 + 1 → Holds (is_held s b) → ⊥
  nobody_holds b l (inl x) = no_slot-held x.0 x.1 x.2.0
  nobody_holds b l (inr e) = no_block_held b l e

  none_doomed : (b : ℕ) → b < s Objects 0 + 1 → s Kind b ≡ block → s BlockState b ≡ doomed → ⊥
  none_doomed b l e d = nobody_holds b l ((r blocks b l e).1.0 d)

  -- a payload that is no destroyed block remains
  payload_remains : (p : ℕ) → Holds (is_payload s p) → (p ≡ 0 ⊎ (s BlockState p ≡ block_destroyed → ⊥))
      → Holds (or_null s (remains s) p)
  payload_remains p (inl e) y = inl e
  payload_remains p (inr x) (inl e) = inl e
  payload_remains p (inr x) (inr n) =
      inr (λ g. apart (s BlockState p) (none_doomed p low x.1) n (block-gone s p x.1 g)
      (block_by_name p s x.1 (part p low) state_high))
    where
      low : p < s Objects 0 + 1
      low = let h = x.0.1 in omega arith

      apart : (v : ℕ) → (v ≡ doomed → ⊥) → (v ≡ block_destroyed → ⊥) → doomed ≤ v → v ≤ block_destroyed → ⊥
      apart v a b h l = omega arith

  -- nothing stands against a slot's block
  all_free : (t i : ℕ) → Holds (is_payload s (s SlotPayload i)) → Holds (slot_free s t i)
  all_free t i (inl e) = inl e
  all_free t i (inr x) =
      let h = x.0.1 in
      inr (λ y. no_slot-held y.0 y.1 y.2.1.0, λ y. no_block_held (s SlotPayload i) (omega arith) y.0)

  grantable : (t : ℕ) → Holds (made s t) → Holds (is_kind s task t) → s TaskState t ≡ resolved
      → ((j : ℕ) → j < s TaskSlots t → s SlotPayload (at t j) ≡ 0 ⊎ (s BlockState (s SlotPayload (at t j)) ≡ block_destroyed → ⊥))
      → met (grant_checks s t)
  grantable t m e q f =
      (m, (e, (there, (q, (remain, (λ j b. all_free t (at t j) (brings j b), tt))))))
    where
      known : t < s Objects 0 + 1
      known = let h = m.1 in omega arith

      there : Holds (is_gone s t) → ⊥
      there g = let h = task-gone s t e g in omega arith

      brings : (j : ℕ) → j < s TaskSlots t → Holds (is_payload s (s SlotPayload (at t j)))
      brings j b = slot_payload t j known b

      remain : (j : ℕ) → j < s TaskSlots t → Holds (or_null s (remains s) (s SlotPayload (at t j)))
      remain j b = payload_remains (s SlotPayload (at t j)) (brings j b) (f j b)

  -- a live task that cannot be granted lacks something
  pub waits : (t : ℕ) → Holds (made s t) → Holds (is_kind s task t) → s TaskState t ≤ running → (met (grant_checks s t) → ⊥)
      → Holds (some (s TaskSlots t) (lacks s t))
  waits t m e live n = go (decide (s TaskState t ≐ waiting)) (decide (each (s TaskSlots t) (usable s t)))
    where
      known : t < s Objects 0 + 1
      known = let h = m.1 in omega arith

      begun : 1 ≤ s TaskState t
      begun = let c = r counts in task_by_name t s e (r task_parts t (omega arith)) state_low

      unfilled : s TaskState t ≡ waiting → Holds (full s t) → ⊥
      unfilled = state_by_name t s (r states t known e) waits_unfilled

      -- neither waiting nor granted nor running
      is-resolved : (v : ℕ) → 1 ≤ v → v ≤ running → (v ≡ waiting → ⊥) → (v ≡ granted → ⊥) → (v ≡ running → ⊥) → v ≡ resolved
      is-resolved v a b c d f = omega arith

      empty : (i : ℕ) × (i < s TaskSlots t) × (1 ≤ s SlotMark (at t i) → ⊥) → Holds (some (s TaskSlots t) (lacks s t))
      empty x = let z = x.2 in (x.0, x.1, inl (omega arith))

      destroyed : (i : ℕ) × (i < s TaskSlots t) × (Holds (usable s t i) → ⊥) → Holds (some (s TaskSlots t) (lacks s t))
      destroyed x = (x.0, x.1, inr (unusable s t x.0 x.2 (slot_payload t x.0 known x.1)))

      go : Case (s TaskState t ≐ waiting) → Case (each (s TaskSlots t) (usable s t)) → Holds (some (s TaskSlots t) (lacks s t))
      go (it_does a) b = empty (failing (s TaskSlots t) (λ j. 1 ≼ s SlotMark (at t j)) (unfilled a))
      go (it_does_not a) (it_does_not b) = destroyed (failing (s TaskSlots t) (usable s t) b)
      go (it_does_not a) (it_does b) =
          let quiet = idle t m e in
          absurd (n (grantable t m e (is-resolved (s TaskState t) begun live a quiet.0 quiet.1) b))

pub startable : (s : Session) (t : ℕ) → Holds (made s t) → Holds (is_kind s task t) → s TaskState t ≡ granted
    → met (start_checks s t)
startable s t m e q = (m, (e, ((λ g. let h = task-gone s t e g in omega arith), (q, tt))))

pub endable : (s : Session) (t : ℕ) → Holds (made s t) → Holds (is_kind s task t) → s TaskState t ≡ running
    → met (end_checks s t 0)
endable s t m e q = ((m, inl refl), ((e, inl refl), (((λ g. let h = task-gone s t e g in omega arith), inl refl), (q, tt))))
