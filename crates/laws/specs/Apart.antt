-- A session in which every rule holds, but that of the slots not at one slot: what stands between the two parts of a claim and
-- of a delivery.
use Rattle.std.specs.Prelude.{ℕ, ◌+◌, ◌<◌, ◌≡◌, [], ◌∷◌}
use Rattle.std.proofs.Common.{subst}
use Rattle.session.specs.Table.{Session}
use Rattle.session.specs.declared.Field.TheVariants.{Objects}
use Rattle.rules.specs.Formula.{Holds}
use Rattle.rules.specs.Sound.{slot}
use Rattle.rules.specs.Sound as rule
use Rattle.laws.specs.Places.{Places, places, Places.one, Places.two}
use Rattle.laws.specs.Rows.{Name, says}
use Rattle.laws.specs.Rows.Name.{slots}
use Rattle.laws.specs.Frame.{Shown.due}
use Rattle.laws.specs.Keeping.{But, but, all, Excepted, Kept}

-- the rule of the slots, from one slot and all others
pub all_slots : (s : Session) (t j : ℕ)
    → ((h : ℕ) → h < s Objects 0 + 1 → (k : ℕ) → k < 16 → (t ≡ h → j ≡ k → ⊥) → Holds (slot s h k)) → Holds (slot s t j)
    → Holds (rule.slots s)
all_slots s t j others here h l k m = go (places t h) (places j k)
  where
    go : Places t h → Places j k → Holds (slot s h k)
    go (one e) (one q) = subst (λ (i : ℕ). Holds (slot s h i)) q (subst (λ (i : ℕ). Holds (slot s i j)) e here)
    go (one e) (two q) = others h l k m (λ _ x. q x)
    go (two e) _ = others h l k m (λ x _. e x)

-- slot j of t is set apart
pub record Apart (s : Session) (t j : ℕ) : Type 0 where
  pub others : But (slots ∷ []) s
  pub elsewhere : (h : ℕ) → h < s Objects 0 + 1 → (k : ℕ) → k < 16 → (t ≡ h → j ≡ k → ⊥) → Holds (slot s h k)

-- with the slot set apart in order, all are
pub whole : (s : Session) (t j : ℕ) → Apart s t j → Holds (slot s t j) → Kept s
whole s t j a here = all (slots ∷ []) a.others again
  where
    again : (n : Name) → Excepted (slots ∷ []) n → Holds (says n s)
    again slots due = all_slots s t j a.elsewhere here
    again Rattle.laws.specs.Rows.counts x' = elim x' [ ]
    again Rattle.laws.specs.Rows.kinds x'' = elim x'' [ ]
    again Rattle.laws.specs.Rows.template_parts x3 = elim x3 [ ]
    again Rattle.laws.specs.Rows.task_parts x4 = elim x4 [ ]
    again Rattle.laws.specs.Rows.event_parts x5 = elim x5 [ ]
    again Rattle.laws.specs.Rows.block_parts x6 = elim x6 [ ]
    again Rattle.laws.specs.Rows.roots x7 = elim x7 [ ]
    again Rattle.laws.specs.Rows.creators x8 = elim x8 [ ]
    again Rattle.laws.specs.Rows.outputs x9 = elim x9 [ ]
    again Rattle.laws.specs.Rows.links x10 = elim x10 [ ]
    again Rattle.laws.specs.Rows.one_link x11 = elim x11 [ ]
    again Rattle.laws.specs.Rows.states x12 = elim x12 [ ]
    again Rattle.laws.specs.Rows.blocks x13 = elim x13 [ ]
    again Rattle.laws.specs.Rows.compatible x14 = elim x14 [ ]
    again Rattle.laws.specs.Rows.latches x15 = elim x15 [ ]
    again Rattle.laws.specs.Rows.counted_events x16 = elim x16 [ ]
    again Rattle.laws.specs.Rows.dropped x17 = elim x17 [ ]
    again Rattle.laws.specs.Rows.free_slots x18 = elim x18 [ ]
    again Rattle.laws.specs.Rows.free_links x19 = elim x19 [ ]
    again Rattle.laws.specs.Rows.settled x20 = elim x20 [ ]

-- where all is in order, any slot may be set apart
pub apart : (s : Session) (t j : ℕ) → Kept s → Apart s t j
apart s t j h = record { others = but (slots ∷ []) h; elsewhere = λ i l k m _. h slots i l k m }
