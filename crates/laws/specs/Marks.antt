-- Slots' marks and tasks' states may change, so long as no slot becomes satisfied or unsatisfied and no task stops being
-- destroyed: what the rules say of slots then lasts. A grant and the letting go of holds are such changes.
use Prim.Native.Nat.{ℕ, ◌+◌, ◌≤◌, ◌<◌}
use Rattle.std.specs.Prelude.{◌≡◌, ◌⊎◌, List, [], ◌∷◌}
use Rattle.std.proofs.Math.Logic.{inl, inr}
use Rattle.std.proofs.Common.{arith}
use Rattle.session.specs.Table.{Session, change}
use Rattle.session.specs.declared.Field.{Field}
use Rattle.session.specs.declared.Field.TheVariants.{Objects, Kind, TaskState, TaskSlots, SlotMark, SlotPayload}
use Rattle.session.specs.Names.{task, held, task_destroyed}
use Rattle.rules.specs.Formula.{Holds}
use Rattle.rules.specs.Reading.{at}
use Rattle.rules.specs.Sound.{slot, claimed, no_slot, full}
use Rattle.laws.specs.Outside.{Outside, outside_same, outside_change}
use Rattle.laws.specs.Frame.{AllOf, DueOf, Shown.due}
use Rattle.laws.specs.Rows.{says}
use Rattle.laws.specs.Rows.Name.{counts, task_parts, roots, slots, settled}
use Rattle.laws.specs.Keeping.{Kept}
use Rattle.laws.specs.Conjuncts.{Claimed, claimed_row, claimed_says, claimed_by_name, claimed_lasts, slot-place}
use Rattle.laws.specs.Conjuncts.Claimed.{mark_high, empty, waits, brought}
use Rattle.laws.specs.Conjuncts.{Root, root_row, root_says, roots_by_name, roots_last, Root.main_mark}
use Rattle.laws.specs.SlotPlaces.{part-slots}

-- a slot that a task has is below 16
pub slot_low : (s : Session) → Holds (says counts s) → Holds (says task_parts s) → (h j : ℕ) → h < s Objects 0 + 1
    → j < s TaskSlots h → j < 16
slot_low s c t h j l b = let few = part-slots s h (t h (omega arith)) in omega arith

-- a slot that is not satisfied has no payload
pub no_payload : (s : Session) → Holds (says slots s) → (h j : ℕ) → h < s Objects 0 + 1 → j < 16 → s SlotMark (at h j) ≡ 0
    → s SlotPayload (at h j) ≡ 0
no_payload s o h j l m e = go (slot-place s h j (o h l j m))
  where
    go : Holds (no_slot s (at h j)) ⊎ Holds (claimed s h j) → s SlotPayload (at h j) ≡ 0
    go (inl x) = x.1.1
    go (inr x) = claimed_by_name h j s x empty e

-- a slot with a payload is one that its task has
pub payload_slot : (s : Session) → Holds (says slots s) → (h j : ℕ) → h < s Objects 0 + 1 → j < 16 → 1 ≤ s SlotPayload (at h j)
    → (s Kind h ≡ task) × (j < s TaskSlots h)
payload_slot s o h j l m p = go (o h l j m)
  where
    go : Holds (slot s h j) → (s Kind h ≡ task) × (j < s TaskSlots h)
    go (inl (kind, (low, x))) = (kind, low)
    go (inr (past, (mode, (mark, payload)))) = absurd (omega arith)

pub positive : (n : ℕ) → (n ≡ 0 → ⊥) → 1 ≤ n
positive n f = omega arith

-- new marks and states for the old ones
abbrev pub marked : Session → (ℕ → ℕ) → (ℕ → ℕ) → Session
marked s m ts = change (change s SlotMark m) TaskState ts

abbrev fields : List Field
fields = TaskState ∷ SlotMark ∷ []

pub record Marking (s : Session) (m ts : ℕ → ℕ) : Type 0 where
  pub zero_stays : (i : ℕ) → s SlotPayload i ≡ 0 → s SlotMark i ≡ 0 → m i ≡ 0
  pub zero_was : (i : ℕ) → m i ≡ 0 → s SlotMark i ≡ 0
  pub low : (i : ℕ) → s SlotMark i ≤ held → m i ≤ held
  pub destroyed_stays : (h : ℕ) → s TaskState h ≡ task_destroyed → ts h ≡ task_destroyed

module _ {s : Session} {m ts : ℕ → ℕ} (k : Marking s m ts) where
  writes : Outside s (marked s m ts) fields
  writes = outside_change ts (outside_change m (outside_same s))

  some_stays : (i : ℕ) → 1 ≤ s SlotMark i → 1 ≤ m i
  some_stays i h = positive (m i) (λ e. let z = k.zero_was i e in omega arith)

  some_was : (i : ℕ) → (s SlotMark i ≡ 0 → s SlotPayload i ≡ 0) → 1 ≤ m i → 1 ≤ s SlotMark i
  some_was i f h = positive (s SlotMark i) (λ e. let z = k.zero_stays i (f e) e in omega arith)

  pub marked-roots : Holds (says roots s) → Holds (says roots (marked s m ts))
  unfolding change
  marked-roots h = roots_last writes h shows
    where
      shows : (n : Root) → DueOf root_row fields n → Holds (root_says n (marked s m ts))
      shows main_mark due = some_stays (at 2 0) (roots_by_name s h main_mark)
      shows Rattle.laws.specs.Conjuncts.first_block x' = elim x' [ ]
      shows Rattle.laws.specs.Conjuncts.first_creator x'' = elim x'' [ ]
      shows Rattle.laws.specs.Conjuncts.main_task x3 = elim x3 [ ]
      shows Rattle.laws.specs.Conjuncts.main_creator x4 = elim x4 [ ]
      shows Rattle.laws.specs.Conjuncts.main_slots x5 = elim x5 [ ]
      shows Rattle.laws.specs.Conjuncts.main_finish x6 = elim x6 [ ]
      shows Rattle.laws.specs.Conjuncts.main_output x7 = elim x7 [ ]
      shows Rattle.laws.specs.Conjuncts.main_mode x8 = elim x8 [ ]
      shows Rattle.laws.specs.Conjuncts.main_payload x9 = elim x9 [ ]

  pub marked-no_slot : (i : ℕ) → Holds (no_slot s i) → Holds (no_slot (marked s m ts) i)
  unfolding change
  marked-no_slot i (mode, (mark, payload)) = (mode, (k.zero_stays i payload mark, payload))

  marked-claimed : (h j : ℕ) → Holds (claimed s h j) → Holds (claimed (marked s m ts) h j)
  unfolding change
  marked-claimed h j x = claimed_lasts h j writes x shows
    where
      i : ℕ
      i = at h j

      c : AllOf (claimed_row h j) s
      c = claimed_by_name h j s x

      waiting : Holds (claimed_says h j waits s) → Holds (claimed_says h j waits (marked s m ts))
      waiting (inl e) = inl (k.destroyed_stays h e)
      waiting (inr y) = inr (λ e. y.0 (k.zero_was i e), λ l. k.zero_stays i (c empty (y.1 l)) (y.1 l))

      shows : (n : Claimed) → DueOf (claimed_row h j) fields n → Holds (claimed_says h j n (marked s m ts))
      shows mark_high due = k.low i (c mark_high)
      shows empty due = λ e. c empty (k.zero_was i e)
      shows waits due = waiting (c waits)
      shows brought due = λ l. c brought (some_was i (c empty) l)
      shows Rattle.laws.specs.Conjuncts.mode_low x'' = elim x'' [ ]
      shows Rattle.laws.specs.Conjuncts.mode_high x3 = elim x3 [ ]
      shows Rattle.laws.specs.Conjuncts.payload x4 = elim x4 [ ]

  marked-slot : (h j : ℕ) → Holds (slot s h j) → Holds (slot (marked s m ts) h j)
  unfolding change
  marked-slot h j (inl (kind, (low, inl (mode, (mark, (payload, n)))))) =
      inl (kind, (low, inl (mode, (k.zero_stays (at h j) payload mark, (payload, n)))))
  marked-slot h j (inl (kind, (low, inr x))) = inl (kind, (low, inr (marked-claimed h j x)))
  marked-slot h j (inr (past, x)) = inr (past, marked-no_slot (at h j) x)

  pub marked-slots : Holds (says slots s) → Holds (says slots (marked s m ts))
  unfolding change
  marked-slots o h l j b = marked-slot h j (o h l j b)

  -- a slot that was satisfied still is
  pub marked-full : (h : ℕ) → Holds (full s h) → Holds (full (marked s m ts) h)
  unfolding change
  marked-full h f j b = some_stays (at h j) (f j b)

  -- and the other way round
  module _ (r : Kept s) (h : ℕ) (l : h < s Objects 0 + 1) where
    slot-was : (j : ℕ) → j < s TaskSlots h → 1 ≤ m (at h j) → 1 ≤ s SlotMark (at h j)
    slot-was j b = some_was (at h j) (no_payload s (r slots) h j l (slot_low s (r counts) (r task_parts) h j l b))

    pub marked_was_full : Holds (full (marked s m ts) h) → Holds (full s h)
    unfolding change
    marked_was_full f j b = slot-was j b (f j b)

  pub marked-settled : Kept s → Holds (says settled (marked s m ts))
  unfolding change
  marked-settled r h l j b p = r settled h l j b (slot-was r h l j b p)
