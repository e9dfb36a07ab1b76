-- A slot of a task is claimed: it is set apart until a link leads to it or it is satisfied. One field is written, the slots'
-- modes.
use Rattle.std.specs.Prelude.{ℕ, ◌≤◌, ◌<◌, ◌≡◌, ◌⊎◌, [], ◌∷◌}
use Rattle.std.proofs.Common.{inl, inr, arith}
use Rattle.session.specs.Table.{Session, put}
use Rattle.session.specs.declared.Field.TheVariants.{Objects, Kind, TaskSlots, SlotMode, SlotMark}
use Rattle.session.specs.Names.{task, held, mode_rw}
use Rattle.rules.specs.Formula.{Holds}
use Rattle.rules.specs.Reading.{made, at}
use Rattle.rules.specs.Sound.{slot, unclaimed, claimed, no_slot, clash}
use Rattle.laws.specs.Rows.{Name, says}
use Rattle.laws.specs.Rows.Name.{roots, slots, compatible, free_slots}
use Rattle.laws.specs.Outside.{outside_same, outside_put}
use Rattle.laws.specs.Frame.{Shown.due}
use Rattle.laws.specs.Keeping.{but, Due, kept_by, Kept}
use Rattle.laws.specs.Conjuncts.{roots_by_name, Root.main_mode}
use Rattle.laws.specs.Apart.{Apart}
use Rattle.laws.specs.Places.{put_there}
use Rattle.laws.specs.SlotPlaces.{same-task, same-slot}

-- a slot without a mode is unclaimed
pub is-unclaimed : (s : Session) (t j : ℕ) → s Kind t ≡ task → j < s TaskSlots t → s SlotMode (at t j) ≡ 0 → Holds (slot s t j)
    → Holds (unclaimed s t j)
is-unclaimed s t j k l z (inr x) = let b : s TaskSlots t ≤ j = x.0 k in absurd (omega arith)
is-unclaimed s t j k l z (inl x) = go x.1.1
  where
    go : Holds (unclaimed s t j) ⊎ Holds (claimed s t j) → Holds (unclaimed s t j)
    go (inl y) = y
    go (inr y) = let b : 1 ≤ s SlotMode (at t j) = y.0 in absurd (omega arith)

module _ (s : Session) (t j mode : ℕ) (m : Holds (made s t)) (low : j < 16) (free : Holds (unclaimed s t j)) (h : Kept s) where
  -- the other places have the mode that they had
  beside : (i : ℕ) → (at t j ≡ i → ⊥) → put s SlotMode (at t j) mode SlotMode i ≡ s SlotMode i
  beside i n = put_there s SlotMode (at t j) i mode n

  beside_held : (i : ℕ) → s SlotMark i ≡ held → put s SlotMode (at t j) mode SlotMode i ≡ s SlotMode i
  beside_held i h = beside i (λ q. let z : s SlotMark i ≡ 0 = rw (← q) free.1.0 in omega arith)

  beside_slot : (h k : ℕ) → k < 16 → (t ≡ h → j ≡ k → ⊥) → put s SlotMode (at t j) mode SlotMode (at h k) ≡ s SlotMode (at h k)
  beside_slot h k l n = beside (at h k) (λ q. n (same-task h k t j l low q) (same-slot h k t j l low q))

  -- the main task's slot has a mode
  beside_root : s SlotMode (at 2 0) ≡ mode_rw → put s SlotMode (at t j) mode SlotMode (at 2 0) ≡ s SlotMode (at 2 0)
  beside_root e = beside (at 2 0) (λ q. let z : s SlotMode (at 2 0) ≡ 0 = rw (← q) free.0 in omega arith)

  claim-compatible : Holds (says compatible (put s SlotMode (at t j) mode))
  unfolding put
  claim-compatible i l e =
      let x = h compatible i l e in (λ k b y. x.0 k b (clashed k y), rw (beside_held i e) x.1)
    where
      clashed : (k : ℕ) → Holds (clash (put s SlotMode (at t j) mode) i k) → Holds (clash s i k)
      clashed k (mark, (other, (payload, c))) = (mark, (other, (payload, rw (beside_held i e, beside_held k mark) at c)))

  claim_none : (i : ℕ) → s Objects 0 < i → (k : ℕ) → k < 16 → Holds (no_slot s (at i k))
      → Holds (no_slot (put s SlotMode (at t j) mode) (at i k))
  unfolding put
  claim_none i g k b x = rw (beside_slot i k b (λ e _. omega arith)) x

  shows : (n : Name) → Due (SlotMode ∷ []) (slots ∷ []) n → Holds (says n (put s SlotMode (at t j) mode))
  unfolding put
  shows roots due = rw (beside_root (roots_by_name s (h roots) main_mode)) (h roots)
  shows compatible due = claim-compatible
  shows free_slots due = λ i l g k b. claim_none i g k b (h free_slots i l g k b)
  shows Rattle.laws.specs.Rows.counts x' = elim x' [ ]
  shows Rattle.laws.specs.Rows.kinds x'' = elim x'' [ ]
  shows Rattle.laws.specs.Rows.template_parts x3 = elim x3 [ ]
  shows Rattle.laws.specs.Rows.task_parts x4 = elim x4 [ ]
  shows Rattle.laws.specs.Rows.event_parts x5 = elim x5 [ ]
  shows Rattle.laws.specs.Rows.block_parts x6 = elim x6 [ ]
  shows Rattle.laws.specs.Rows.creators x7 = elim x7 [ ]
  shows Rattle.laws.specs.Rows.outputs x8 = elim x8 [ ]
  shows slots x9 = elim x9 [ ]
  shows Rattle.laws.specs.Rows.links x10 = elim x10 [ ]
  shows Rattle.laws.specs.Rows.one_link x11 = elim x11 [ ]
  shows Rattle.laws.specs.Rows.states x12 = elim x12 [ ]
  shows Rattle.laws.specs.Rows.blocks x13 = elim x13 [ ]
  shows Rattle.laws.specs.Rows.latches x14 = elim x14 [ ]
  shows Rattle.laws.specs.Rows.counted_events x15 = elim x15 [ ]
  shows Rattle.laws.specs.Rows.dropped x16 = elim x16 [ ]
  shows Rattle.laws.specs.Rows.free_links x17 = elim x17 [ ]
  shows Rattle.laws.specs.Rows.settled x18 = elim x18 [ ]

  pub claim_apart : Apart (put s SlotMode (at t j) mode) t j
  unfolding put
  claim_apart =
      record {
        others = kept_by (slots ∷ []) (outside_put {f = SlotMode} (at t j) mode (outside_same s)) (but (slots ∷ []) h) shows;
        elsewhere = λ i l k b n. rw (beside_slot i k b n) (h slots i l k b);
      }
