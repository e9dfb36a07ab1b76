-- Who holds a block, task by task.
use Rattle.std.specs.Prelude.{ℕ, ◌+◌, ◌/◌, ◌%◌, ◌≤◌, ◌<◌, ◌≡◌, List, Option}
use Rattle.std.proofs.Common.{subst, inl, inr, arith}
use Rattle.std.proofs.Math.Decide.{dec_lt}
use Rattle.session.specs.Table.{Session, read}
use Rattle.session.specs.TableLaws.{read_past}
use Rattle.session.specs.declared.Field.TheVariants.{Objects, TaskSlots, BlockHeld, SlotMark}
use Rattle.session.specs.Names.{held, most_objects}
use Rattle.rules.specs.Formula.{Formula, Holds, Formula.some}
use Rattle.rules.specs.Reading.{at, is_held, slot_holds}
use Rattle.reading.specs.Eights.{OrEnd, or_end_so}
use Rattle.reading.specs.Holders.{is_holder, Passed, First}

-- only the pre-slots of granted and running tasks hold
abbrev pub Active : Session → Type 0
Active s = (h j : ℕ) → h ≤ s Objects 0 → j < 16 → s SlotMark (at h j) ≡ held → Holds (is_holder s h) × (j < s TaskSlots h)

-- some slot of h holds block b
abbrev pub slots_hold : Session → ℕ → ℕ → Formula
slots_hold s b h = some 16 (λ j. slot_holds s b (at h j))

-- a block is held by a slot of some task, or from its creation
pub held_by : (s : Session) (b h : ℕ) → h ≤ s Objects 0 → Holds (slots_hold s b h) → Holds (is_held s b)
held_by s b h l x = inl (at h x.0, let j = x.1 in omega arith, x.2)

pub held_by_none : (s : Session) (b n : ℕ) → n ≡ s Objects 0 + 1 → ((h : ℕ) → h < n → Holds (slots_hold s b h) → ⊥)
    → (s BlockHeld b ≡ 1 → ⊥)
    → Holds (is_held s b) → ⊥
held_by_none s b n e none made (inl x) =
    let i = x.0 in
    none (i / 16) (let l = x.1 in omega arith)
    (i % 16, omega arith, subst (λ (k : ℕ). Holds (slot_holds s b k)) (omega arith) x.2)
held_by_none s b n e none made (inr y) = made y

-- no task that was passed in looking for a holder holds b
pub held_past : (s : Session) (b n a r : ℕ) → n ≡ s Objects 0 + 1 → r ≤ n → Active s
    → ((h : ℕ) → h < a → Holds (slots_hold s b h) → ⊥) → Passed (is_holder s) a r
    → (h : ℕ) → h < r → Holds (slots_hold s b h) → ⊥
held_past s b n a r e few active none p h l x = go (dec_lt h a)
  where
    go : Dec (h < a) → ⊥
    go (yes m) = none h m x
    go (no m) = p.none h l (omega arith) (active h x.0 (omega arith) x.1 x.2.0).0

-- nobody before a holds block b; and so it is up to the next holder, if a is none of those who hold it
abbrev pub NoneHolds : Session → ℕ → ℕ → Type 0
NoneHolds s b a = (h : ℕ) → h < a → Holds (slots_hold s b h) → ⊥

pub held_next : (s : Session) (b n a : ℕ) (r : Option ℕ) → n ≡ s Objects 0 + 1 → Active s → NoneHolds s b a
    → OrEnd (First (is_holder s) a n) n r → OrEnd (NoneHolds s b) n r
held_next s b n a r e active none x =
    or_end_so (First (is_holder s) a n) (NoneHolds s b) n r (λ q l f. held_past s b n a q e l active none f.passed) x

-- past the last handle there are no slots
pub no_slots : (m : List ℕ) (b t : ℕ) → most_objects < t → Holds (slots_hold (read m) b t) → ⊥
no_slots m b t l x =
    let e : read m SlotMark (at t x.0) ≡ held = x.2.0 in omega (arith, e, read_past m SlotMark (at t x.0) (omega arith))
