-- What a sound session says of its places past the count of objects, and of who holds blocks.
use Rattle.std.specs.Prelude.{ℕ, ◌+◌, ◌<◌, ◌≡◌, List}
use Rattle.std.proofs.Common.{inl, inr, arith}
use Rattle.std.proofs.Math.Decide.{dec_lt}
use Rattle.session.specs.Table.{Session, read}
use Rattle.session.specs.declared.Field.TheVariants.{Objects, Kind, TaskSlots, BlockState, BlockHeld}
use Rattle.session.specs.Names.{object_places}
use Rattle.session.specs.TableLaws.{read_past}
use Rattle.rules.specs.Formula.{Holds}
use Rattle.rules.specs.Reading.{is_held}
use Rattle.rules.specs.Sound.{sound, slot, block_part}
use Rattle.laws.specs.Rows.Name.{counts, kinds, block_parts, slots, states, blocks}
use Rattle.laws.specs.Keeping.{Sound}
use Rattle.laws.specs.ByName.{sound_by_name}
use Rattle.laws.specs.Conjuncts.{state_by_name, State.holding_slot}
use Rattle.reading.specs.Holders.{is_holder}
use Rattle.reading.specs.Holds.{Active}
use Rattle.holding.specs.Letting.{Unheld, Unmarked, Doomed}

module _ (ws : List ℕ) (good : Holds (sound (read ws))) where
  abbrev s : Session
  s = read ws

  r : Sound (read ws)
  r = sound_by_name (read ws) good

  -- no object past the count has a kind
  pub unmade : (h : ℕ) → s Objects 0 < h → s Kind h ≡ 0
  unmade h l = go (dec_lt h object_places)
    where
      go : Dec (h < object_places) → s Kind h ≡ 0
      go (yes b) = (r kinds).1.1 h b l
      go (no n) = read_past ws Kind h (omega arith)

  past_block : (b : ℕ) → s Objects 0 < b → (s BlockState b ≡ 0) × (s BlockHeld b ≡ 0)
  past_block b l = go (dec_lt b object_places)
    where
      part : Holds (block_part s b) → (s BlockState b ≡ 0) × (s BlockHeld b ≡ 0)
      part (inl x) = let z = unmade b l in let k = x.0 in absurd (omega arith)
      part (inr (other, (no_state, (no_creator, not-held)))) = (no_state, not-held)

      go : Dec (b < object_places) → (s BlockState b ≡ 0) × (s BlockHeld b ≡ 0)
      go (yes h) = part (r block_parts b h)
      go (no n) = (read_past ws BlockState b (omega arith), read_past ws BlockHeld b (omega arith))

  pub unheld : Unheld s
  unheld b l = (past_block b l).1

  pub unmarked : Unmarked s
  unmarked b l = (past_block b l).0

  pub doomed-held : Doomed s
  doomed-held b d = go (dec_lt (s Objects 0) b)
    where
      part : b < s Objects 0 + 1 → Holds (block_part s b) → Holds (is_held s b)
      part l (inl x) = (r blocks b l x.0).1.0 d
      part l (inr x) = let z = x.1.0 in absurd (omega arith)

      go : Dec (s Objects 0 < b) → Holds (is_held s b)
      go (yes l) = let z = unmarked b l in absurd (omega arith)
      go (no n) = part (omega arith) (r block_parts b (omega (arith, (r counts).1.0)))

  pub active : Active s
  active h j l b e = go (r slots h (omega arith) j b)
    where
      go : Holds (slot s h j) → Holds (is_holder s h) × (j < s TaskSlots h)
      go (inl x) = (((state_by_name h s (r states h (omega arith) x.0) holding_slot j x.1.0).1 e).1, x.1.0)
      go (inr (past, (no_mode, (no_mark, no_payload)))) = absurd (omega arith)
