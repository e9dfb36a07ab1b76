-- The places of slots: each slot has its own, which tells its owner and its number.
use Rattle.std.specs.Prelude.{ℕ, ◌*◌, ◌/◌, ◌%◌, ◌≤◌, ◌<◌, ◌≡◌}
use Rattle.std.proofs.Common.{inl, inr, arith}
use Rattle.session.specs.Table.{Session}
use Rattle.session.specs.declared.Field.TheVariants.{Kind, TaskSlots}
use Rattle.session.specs.Names.{task, event}
use Rattle.rules.specs.Formula.{Holds}
use Rattle.rules.specs.FormulaLaws.{Case, decide, Case.it_does, Case.it_does_not}
use Rattle.rules.specs.Reading.{at, is_kind, has_slot}
use Rattle.rules.specs.Sound.{task_part}
use Rattle.laws.specs.Conjuncts.{task_by_name, no_task, Task.few_slots}

pub at_div : (t j : ℕ) → j < 16 → at t j / 16 ≡ t
at_div t j h = omega arith

-- every place is a slot of somebody
pub place_split : (i : ℕ) → i ≡ at (i / 16) (i % 16)
place_split i = omega arith

pub place_low : (i : ℕ) → i % 16 < 16
place_low i = omega arith

-- a place below 16 * n is a slot of somebody below n
pub place_owner : (n i : ℕ) → i < 16 * n → i / 16 < n
place_owner n i h = omega arith

-- slots at one place are one slot
pub same-task : (h k t j : ℕ) → k < 16 → j < 16 → at t j ≡ at h k → t ≡ h
same-task h k t j l m e = omega arith

pub same-slot : (h k t j : ℕ) → k < 16 → j < 16 → at t j ≡ at h k → j ≡ k
same-slot h k t j l m e = let q : t ≡ h = same-task h k t j l m e in omega arith

-- a task has at most 16 slots
pub part-slots : (s : Session) (h : ℕ) → Holds (task_part s h) → s TaskSlots h ≤ 16
part-slots s h x = go (decide (is_kind s task h))
  where
    go : Case (is_kind s task h) → s TaskSlots h ≤ 16
    go (it_does k) = task_by_name h s k x few_slots
    go (it_does_not n) = let z = (no_task s h n x).no_slots in omega arith

-- a slot that a task has
pub task-slot : (s : Session) (t j : ℕ) → s Kind t ≡ task → Holds (has_slot s t j) → j < s TaskSlots t
task-slot s t j k (inl x) = x.1
task-slot s t j k (inr x) = let e : s Kind t ≡ event = x.0 in absurd (omega arith)

-- a slot that a task or an event has is below 16
pub low_slot : (s : Session) (h j : ℕ) → Holds (task_part s h) → Holds (has_slot s h j) → j < 16
low_slot s h j p (inl (k, l)) = let f = part-slots s h p in omega arith
low_slot s h j p (inr (k, inl z)) = omega arith
low_slot s h j p (inr (k, inr z)) = omega arith
