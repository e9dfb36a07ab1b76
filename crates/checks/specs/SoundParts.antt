-- What a sound session says of its counts, and of who holds blocks by slots.
use Rattle.std.specs.Prelude.{ℕ, ◌/◌, ◌%◌, ◌≤◌, ◌<◌, ◌≡◌, ◌⊎◌}
use Rattle.std.proofs.Common.{subst, sym, inl, inr, arith}
use Rattle.std.proofs.Math.Decide.{dec_lt}
use Rattle.session.specs.Table.{Session}
use Rattle.session.specs.declared.Field.TheVariants.{Objects, TaskState, TaskSlots, SlotMark, SlotPayload}
use Rattle.session.specs.Names.{most_objects, granted, running, held, slot_places}
use Rattle.rules.specs.Formula.{Holds}
use Rattle.rules.specs.Reading.{at}
use Rattle.rules.specs.Sound.{sound, slot}
use Rattle.laws.specs.Rows.Name.{counts, task_parts, slots, states, free_slots}
use Rattle.laws.specs.ByName.{sound_by_name}
use Rattle.laws.specs.Conjuncts.{state_by_name, State.holding_slot}
use Rattle.laws.specs.SlotPlaces.{part-slots, place_split, place_low}

pub few_objects : (s : Session) → Holds (sound s) → s Objects 0 ≤ most_objects
few_objects s h = (sound_by_name s h counts).1.0

-- a task has at most 16 slots
pub sound_few_slots : (s : Session) → Holds (sound s) → (t : ℕ) → t ≤ s Objects 0 → s TaskSlots t ≤ 16
sound_few_slots s h t l = let f = few_objects s h in part-slots s t (sound_by_name s h task_parts t (omega arith))

-- a slot that holds is an object's
held-made : (s : Session) → Holds (sound s) → (k : ℕ) → k < slot_places → s SlotMark k ≡ held → k / 16 ≤ s Objects 0
held-made s h k l e = go (dec_lt (s Objects 0) (k / 16))
  where
    e' : s SlotMark (at (k / 16) (k % 16)) ≡ held
    e' = subst (λ (i : ℕ). s SlotMark i ≡ held) (place_split k) e

    go : Dec (s Objects 0 < k / 16) → k / 16 ≤ s Objects 0
    go (yes b) =
        let z = (sound_by_name s h free_slots (k / 16) (omega arith) b (k % 16) (place_low k)).1.0 in
        let y = e' in
        absurd (omega arith)
    go (no b) = omega arith

-- what a sound session says of a slot that holds: whose it is, that it is one of its owner's, and that it has a block
pub record Hold (s : Session) (k : ℕ) : Type 0 where
  pub made : k / 16 ≤ s Objects 0
  pub owner : (s TaskState (k / 16) ≡ granted) ⊎ (s TaskState (k / 16) ≡ running)
  pub used : k % 16 < s TaskSlots (k / 16)
  pub block : 1 ≤ s SlotPayload k

pub hold_at : (s : Session) → Holds (sound s) → (k : ℕ) → k < slot_places → s SlotMark k ≡ held → Hold s k
hold_at s h k few e = go (sound_by_name s h slots (k / 16) (let m = l in omega arith) (k % 16) (place_low k))
  where
    l : k / 16 ≤ s Objects 0
    l = held-made s h k few e

    e' : s SlotMark (at (k / 16) (k % 16)) ≡ held
    e' = subst (λ (i : ℕ). s SlotMark i ≡ held) (place_split k) e

    go : Holds (slot s (k / 16) (k % 16)) → Hold s k
    go (inl x) =
        let t = k / 16 in
        let m = l in
        let state = state_by_name t s (sound_by_name s h states t (omega arith) x.0) in
        let r = (state holding_slot (k % 16) x.1.0).1 e' in
        record {
          made = l;
          owner = r.1;
          used = x.1.0;
          block = subst (λ (i : ℕ). 1 ≤ s SlotPayload i) (sym (place_split k))
              r.0;
        }
    go (inr (past, (no_mode, (no_mark, no_payload)))) = let y = e' in absurd (omega arith)
