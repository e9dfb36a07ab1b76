-- What a grant looks at: the task as a record, and the holds that stop its pre-slots.
use Rattle.std.specs.Prelude.{ℕ, zero, suc, ◌+◌, ◌<◌, ◌≡◌, List, [], ◌∷◌, ◌++◌, length, set, take}
use Rattle.std.proofs.Common.{add-one, take-suc-set}
use Rattle.session.specs.Table.{Session, at}
use Rattle.session.specs.declared.Field.TheVariants.{TaskState, TaskCreator, TaskSlots, TaskFinish, TaskOutput, BlockCreator}
use Rattle.session.specs.declared.Field.TheVariants.{BlockHeld, SlotMode, SlotMark, SlotPayload}
use Rattle.session.specs.Names.{held, mode_ro, mode_rw}
use Rattle.rules.specs.declared.Slot.{Slot}
use Rattle.rules.specs.declared.Task.{Task}
use Rattle.rules.specs.Formula.{Formula, not, Formula.◌≐◌, Formula.◌and◌, Formula.◌or◌, Formula.each, Formula.some}
use Rattle.rules.specs.Modes.{stopped_by}
use Rattle.rules.specs.Checks.{or_null, remains, slot_free}

-- the slot at place i
unfoldable pub slot_at : Session → ℕ → Slot
slot_at s i = record { mode = s SlotMode i; mark = s SlotMark i; payload = s SlotPayload i }

-- f 0, f 1, .. f (n - 1)
unfoldable pub up_to : {A : Type 0} → ℕ → (ℕ → A) → List A
up_to zero f = []
up_to (suc n) f = up_to n f ++ (f n ∷ [])

unfoldable pub task_at : Session → ℕ → Task
task_at s t =
    record {
      state = s TaskState t;
      creator = s TaskCreator t;
      count = s TaskSlots t;
      finish = s TaskFinish t;
      output = s TaskOutput t;
      slots = up_to 16 (λ j. slot_at s (at t j));
    }

-- one more slot read into a row of them
pub up_to-more : {A : Type 0} (l : List A) (j : ℕ) (f : ℕ → A) → j < length l → take j l ≡ up_to j f
    → take (j + 1) (set l j (f j)) ≡ up_to (j + 1) f
unfolding up_to
up_to-more l j f h e = rw (add-one, take-suc-set l j (f j), e)

-- a pre-slot that asks for a block in a mode that some hold stops
abbrev pub is_claim : Slot → Formula
is_claim p = not (p.payload ≐ 0) and not (p.mode ≐ mode_ro)

abbrev pub has_claim : Session → ℕ → Formula
has_claim s t = some (s TaskSlots t) (λ j. is_claim (slot_at s (at t j)))

-- pre-slot p asks for the block that slot q of another task holds, which stops it
abbrev pub clash : Slot → Slot → Formula
clash p q = q.payload ≐ p.payload and stopped_by p.mode q.mode

-- pre-slot p of t asks for a block that another task holds since its creation, which stops it
abbrev pub maker_clash : Session → ℕ → Slot → Formula
maker_clash s t p =
    not (p.payload ≐ 0) and s BlockHeld p.payload ≐ 1 and not (s BlockCreator p.payload ≐ t) and stopped_by p.mode mode_rw

-- the hold at place k stops what pre-slot p of t asks for; place 0 is no task's, and stands for the hold from creation
abbrev pub hold_clash : Session → ℕ → Slot → ℕ → Formula
hold_clash s t p k = k ≐ 0 and maker_clash s t p or not (k ≐ 0) and s SlotMark k ≐ held and clash p (slot_at s k)

-- check 17, "A pre-slot's block is doomed or destroyed"
abbrev pub blocks_remain : Session → ℕ → Formula
blocks_remain s t = each (s TaskSlots t) (λ j. or_null s (remains s) (s SlotPayload (at t j)))

-- check 18, "A hold of another task conflicts"
abbrev pub slots_free : Session → ℕ → Formula
slots_free s t = each (s TaskSlots t) (λ j. slot_free s t (at t j))
