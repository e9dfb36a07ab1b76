-- The rules of a sound session, in the order in which the code looks at them.
use Rattle.std.specs.Prelude.{ℕ, zero, suc, ◌+◌, ◌*◌, ◌/◌, ◌%◌, ◌≤◌, ◌<◌, ◌≡◌, refl, List, Bool, false, length, leb}
use Rattle.std.proofs.Common.{sym, ◌∙◌, subst, inl, inr, arith, le-leb}
use Rattle.std.proofs.lemmas.Bool.{lt-leb}
use Rattle.session.specs.Table.{Session, read, words, pick}
use Rattle.session.specs.declared.Field.TheVariants.{Objects, Links, Kind, SlotMode, SlotMark, SlotPayload}
use Rattle.session.specs.Names.{held, task, most_objects, most_links, object_places}
use Rattle.rules.specs.Formula.{Formula, Holds, test, Formula.◌and◌, Formula.◌or◌}
use Rattle.rules.specs.Reading.{at}
use Rattle.rules.specs.Modes.{is_mode}
use Rattle.rules.specs.Sound.{is_payload, sound, counts, objects, roots, creators, outputs, slots, slot, unclaimed, claimed, links}
use Rattle.rules.specs.Sound.{one_link, states, blocks, compatible, latches, counted_events, dropped, unused}
use Rattle.rules.specs.FormulaLaws.{test-same}
use Rattle.laws.specs.SlotPlaces.{place_split, place_low, place_owner}
use Rattle.laws.specs.Parts.{task_parts_of}
use Rattle.laws.specs.Under.{Falls, creators_fall}
use Rattle.laws.specs.ByName.{Rules, rules_of, sound-from, ◌&◌}
use Rattle.laws.specs.SlotModes.{held_mode}
use Rattle.laws.specs.Conjuncts.{claimed_by_name, unclaimed_by_name, Claimed.payload}

-- the answer on lent memory: memory that is too short is not sound
unfoldable pub sound_memory : List ℕ → Bool
sound_memory ws = pick (leb words (length ws)) (test (sound (read ws))) false

-- what it says of memory of sufficient length
pub memory_tested : (ws : List ℕ) → words ≤ length ws → sound_memory ws ≡ test (sound (read ws))
unfolding sound_memory
memory_tested ws h = rw (le-leb words (length ws) h)

-- and of shorter memory
pub short_unsound : (ws : List ℕ) → length ws < words → false ≡ sound_memory ws
unfolding sound_memory
short_unsound ws h = rw (lt-leb words (length ws) h) refl

-- the numbers of objects and links, as they were read
pub record Counted (s : Session) (n m : ℕ) : Type 0 where
  pub few_objects : n ≤ most_objects
  pub few_links : m ≤ most_links
  pub objects : n ≡ s Objects 0
  pub links : m ≡ s Links 0

-- a rule that was looked at and holds
pub record Known (f : Formula) : Type 0 where
  pub it : Holds f

module _ (s : Session) where
  abbrev pub parts : Formula
  parts = objects s and roots s and creators s and unused s

  abbrev pub linked_up : Formula
  linked_up = one_link s and slots s

  abbrev pub uses : Formula
  uses = states s and blocks s and compatible s and latches s and counted_events s and dropped s

  -- what is left to look at
  abbrev pub from_slots : Formula
  from_slots = linked_up and uses

  abbrev pub from_links : Formula
  from_links = links s and from_slots

  abbrev pub from_outputs : Formula
  from_outputs = outputs s and from_links

  abbrev pub from_parts : Formula
  from_parts = parts and from_outputs

  abbrev pub grouped : Formula
  grouped = counts s and from_parts

  pub sound-grouped : test grouped ≡ test (sound s)
  sound-grouped = test-same grouped (sound s) to (λ h. from (rules_of s h))
    where
      to : Holds grouped → Holds (sound s)
      to h = sound-from s (search)

      from : Rules s → Holds grouped
      from r =
          r.counts & (r.objects & r.roots & r.creators & r.unused) & r.outputs & r.links & (r.one_link & r.slots)
          & r.states & r.blocks & r.compatible & r.latches & r.counted_events & r.dropped

  -- what the rules about objects by themselves say of creators
  pub parts_fall : s Objects 0 ≤ most_objects → Holds parts → Falls s
  parts_fall few (o, (r, (m, u))) = creators_fall s few (task_parts_of s o u) r m

  -- what a slot that is held is
  pub record IsHeld (i : ℕ) : Type 0 where
    pub block : s SlotPayload i < object_places
    pub mode : Holds (is_mode (s SlotMode i))
    pub task_low : 1 ≤ i / 16

  -- what every slot that is held is
  abbrev pub AreHeld : Type 0
  AreHeld = (i : ℕ) → i < 16 * (s Objects 0 + 1) → s SlotMark i ≡ held → IsHeld i

  pub slots-held : Holds (objects s) → s Objects 0 ≤ most_objects → Holds (slots s) → (i : ℕ) → i < 16 * (s Objects 0 + 1)
      → s SlotMark i ≡ held → IsHeld i
  slots-held o b sl i l m =
      subst IsHeld (sym (place_split i)) (go (sl (i / 16) (place_owner (s Objects 0 + 1) i l) (i % 16) (place_low i)))
    where
      t : ℕ
      t = i / 16

      j : ℕ
      j = i % 16

      mark : s SlotMark (at t j) ≡ held
      mark = subst (λ (k : ℕ). s SlotMark k ≡ held) (place_split i) m

      mode : Holds (is_mode (s SlotMode (at t j)))
      mode = subst (λ (k : ℕ). Holds (is_mode (s SlotMode k))) (place_split i) (held_mode s sl i l m)

      owner : s Kind t ≡ task → 1 ≤ at t j / 16
      owner k = subst (λ (p : ℕ). 1 ≤ p / 16) (place_split i) (go0 t refl)
        where
          go0 : (n : ℕ) → n ≡ t → 1 ≤ t
          go0 zero e = let z : ◌≡◌ {A = ℕ} 0 2 = sym o.0 ∙ subst (λ (q : ℕ). s Kind q ≡ task) (sym e) k in absurd (omega arith)
          go0 (suc n) e = omega arith

      low : Holds (is_payload s (s SlotPayload (at t j))) → s SlotPayload (at t j) < object_places
      low (inl e) = omega arith
      low (inr x) = let q = x.0.1 in omega arith

      in_task : s Kind t ≡ task → Holds (unclaimed s t j or claimed s t j) → IsHeld (at t j)
      in_task k (inl x) = let z = (unclaimed_by_name s t j x).no_mark in absurd (omega (arith, mark))
      in_task k (inr x) = record { block = low (claimed_by_name t j s x payload); mode = mode; task_low = owner k }

      go : Holds (slot s t j) → IsHeld (at t j)
      go (inl x) = in_task x.0 x.1.1
      go (inr (past, (no_mode, (no_mark, no_payload)))) = absurd (omega (arith, mark))
