-- Which modes a session compares. Every slot is empty or has one of the modes 1 to 4; so each that holds a block or asks for one
-- has, and what the mode rule gives for other numbers is never asked.
use Rattle.std.specs.Prelude.{ℕ, ◌+◌, ◌*◌, ◌/◌, ◌%◌, ◌<◌, ◌≡◌, ◌⊎◌}
use Rattle.std.proofs.Common.{sym, subst, inl, inr, arith}
use Rattle.session.specs.Table.{Session}
use Rattle.session.specs.declared.Field.TheVariants.{Objects, SlotMode, SlotMark, SlotPayload}
use Rattle.session.specs.Names.{held}
use Rattle.rules.specs.Formula.{Holds, Formula.◌or◌}
use Rattle.rules.specs.Reading.{at}
use Rattle.rules.specs.Modes.{is_mode}
use Rattle.rules.specs.Sound.{slots, slot, no_slot, claimed}
use Rattle.laws.specs.Conjuncts.{slot-place, claimed_by_name, Claimed.mode_low, Claimed.mode_high}
use Rattle.laws.specs.SlotPlaces.{place_split, place_low, place_owner}

module _ (s : Session) (sl : Holds (slots s)) (i : ℕ) (l : i < 16 * (s Objects 0 + 1)) where
  pub slot_mode : Holds (no_slot s i or is_mode (s SlotMode i))
  slot_mode = subst (λ (k : ℕ). Holds (no_slot s k or is_mode (s SlotMode k))) (sym (place_split i)) (go (slot-place s t j at_slot))
    where
      t : ℕ
      t = i / 16

      j : ℕ
      j = i % 16

      at_slot : Holds (slot s t j)
      at_slot = sl t (place_owner (s Objects 0 + 1) i l) j (place_low i)

      go : Holds (no_slot s (at t j)) ⊎ Holds (claimed s t j) → Holds (no_slot s (at t j) or is_mode (s SlotMode (at t j)))
      go (inl x) = inl x
      go (inr x) = inr (claimed_by_name t j s x mode_low, claimed_by_name t j s x mode_high)

  used_mode : (Holds (no_slot s i) → ⊥) → Holds (is_mode (s SlotMode i))
  used_mode n = go slot_mode
    where
      go : Holds (no_slot s i or is_mode (s SlotMode i)) → Holds (is_mode (s SlotMode i))
      go (inl x) = absurd (n x)
      go (inr x) = x

  -- soundness compares the modes of slots that hold, and RW
  pub held_mode : s SlotMark i ≡ held → Holds (is_mode (s SlotMode i))
  held_mode h = used_mode (λ x. let e = x.1.0 in omega arith)

  -- check 18 compares the mode of a slot that asks for a block with these
  pub asked_mode : (s SlotPayload i ≡ 0 → ⊥) → Holds (is_mode (s SlotMode i))
  asked_mode n = used_mode (λ x. n x.1.1)
