-- A running task lets go of holds: marks of its slots fall from held to satisfied, blocks that it made stop being held
-- from their creation, and doomed blocks whose last hold went are destroyed. Three fields are written.
use Rattle.std.specs.Prelude.{ℕ, ◌+◌, ◌/◌, ◌≤◌, ◌<◌, ◌≡◌, refl, []}
use Rattle.std.proofs.Common.{sym, ◌∙◌}
use Rattle.std.proofs.Math.Logic.{inl, inr}
use native.Mathlib.Omega.{arith}
use Rattle.session.specs.Table.{Session, change}
use Rattle.session.specs.declared.Field.TheVariants.{TaskState, TaskSlots, BlockState, BlockCreator, BlockHeld, SlotMark}
use Rattle.session.specs.declared.Field.TheVariants.{Objects, SlotPayload}
use Rattle.session.specs.Names.{granted, satisfied, held, doomed, block_destroyed}
use Rattle.rules.specs.Formula.{Formula, Holds, not, Formula.◌≐◌, Formula.◌and◌}
use Rattle.rules.specs.FormulaLaws.{Case, decide, choose_yes, choose_no, Case.it_does, Case.it_does_not}
use Rattle.rules.specs.Reading.{at, is_held, is_running}
use Rattle.rules.specs.Effects.{let_go, bury_doomed}
use Rattle.rules.specs.Sound.{block_part, state}
use Rattle.laws.specs.Writes.{let_go_fields, let_go-writes}
use Rattle.laws.specs.Frame.{AllOf, DueOf, Shown.due}
use Rattle.laws.specs.Rows.{Name, says}
use Rattle.laws.specs.Rows.Name.{counts, task_parts, block_parts, roots, slots, states, blocks, compatible, free_slots}
use Rattle.laws.specs.Rows.Name.{settled}
use Rattle.laws.specs.Keeping.{Due, kept_by, Kept}
use Rattle.laws.specs.Conjuncts.{Block, block_row, block_says, block_by_name, block_lasts}
use Rattle.laws.specs.Conjuncts.Block.{state_low, state_high, held_flag_lem}
use Rattle.laws.specs.Conjuncts.{State, state_row, state_says, state_by_name, state_lasts}
use Rattle.laws.specs.Conjuncts.State.{waits_unfilled, later_full, holding_slot}
use Rattle.laws.specs.Marks.{Marking, slot_low, marked-roots, marked-no_slot, marked-slots, marked-settled, marked-full}
use Rattle.laws.specs.Marks.{marked_was_full}
use Rattle.laws.specs.SlotPlaces.{at_div}

-- a slot's mark after
pub data MarkAfter (s : Session) (t : ℕ) (which : ℕ → Formula) (i : ℕ) : Type 0 where
  mark_stays : ((i / 16 ≡ t) × ((s SlotMark i ≡ held) × Holds (which (s SlotPayload i))) → ⊥)
      → let_go s t which SlotMark i ≡ s SlotMark i → MarkAfter s t which i
  mark_falls : i / 16 ≡ t → s SlotMark i ≡ held → Holds (which (s SlotPayload i)) → let_go s t which SlotMark i ≡ satisfied
      → MarkAfter s t which i

-- whether a block is held from its creation
pub data HeldAfter (s : Session) (t : ℕ) (which : ℕ → Formula) (b : ℕ) : Type 0 where
  held_stays : ((s BlockCreator b ≡ t) × Holds (which b) → ⊥) → let_go s t which BlockHeld b ≡ s BlockHeld b
      → HeldAfter s t which b
  held_falls : s BlockCreator b ≡ t → Holds (which b) → let_go s t which BlockHeld b ≡ 0 → HeldAfter s t which b

-- a block's state
pub data BlockAfter (s : Session) (t : ℕ) (which : ℕ → Formula) (b : ℕ) : Type 0 where
  block_stays : ((s BlockState b ≡ doomed) × (Holds (is_held (let_go s t which) b) → ⊥) → ⊥)
      → let_go s t which BlockState b ≡ s BlockState b → BlockAfter s t which b
  block_falls : s BlockState b ≡ doomed → (Holds (is_held (let_go s t which) b) → ⊥)
      → let_go s t which BlockState b ≡ block_destroyed → BlockAfter s t which b

module _ (s : Session) (t : ℕ) (which : ℕ → Formula) where
  pub mark-after : (i : ℕ) → MarkAfter s t which i
  unfolding let_go bury_doomed change
  mark-after i = go (decide f)
    where
      f : Formula
      f = (i / 16 ≐ t) and (s SlotMark i ≐ held) and which (s SlotPayload i)

      go : Case f → MarkAfter s t which i
      go (it_does x) = mark_falls x.0 x.1.0 x.1.1 (choose_yes f satisfied (s SlotMark i) x)
      go (it_does_not n) = mark_stays n (choose_no f satisfied (s SlotMark i) n)

  pub held_after : (b : ℕ) → HeldAfter s t which b
  unfolding let_go bury_doomed change
  held_after b = go (decide f)
    where
      f : Formula
      f = s BlockCreator b ≐ t and which b

      go : Case f → HeldAfter s t which b
      go (it_does x) = held_falls x.0 x.1 (choose_yes f 0 (s BlockHeld b) x)
      go (it_does_not n) = held_stays n (choose_no f 0 (s BlockHeld b) n)

  pub block-after : (b : ℕ) → BlockAfter s t which b
  unfolding let_go bury_doomed change
  block-after b = go (decide f)
    where
      f : Formula
      f = s BlockState b ≐ doomed and not (is_held (let_go s t which) b)

      go : Case f → BlockAfter s t which b
      go (it_does x) = block_falls x.0 x.1 (choose_yes f block_destroyed (s BlockState b) x)
      go (it_does_not n) = block_stays n (choose_no f block_destroyed (s BlockState b) n)

  -- what was held before
  pub was-held : (i : ℕ) → let_go s t which SlotMark i ≡ held → s SlotMark i ≡ held
  was-held i h = go (mark-after i)
    where
      go : MarkAfter s t which i → s SlotMark i ≡ held
      go (mark_stays n e) = sym e ∙ h
      go (mark_falls p q w e) = q

  pub was_held_made : (b : ℕ) → let_go s t which BlockHeld b ≡ 1 → s BlockHeld b ≡ 1
  was_held_made b h = go (held_after b)
    where
      go : HeldAfter s t which b → s BlockHeld b ≡ 1
      go (held_stays n e) = sym e ∙ h
      go (held_falls p w e) = omega arith

  pub was-is_held : (b : ℕ) → Holds (is_held (let_go s t which) b) → Holds (is_held s b)
  unfolding let_go bury_doomed change
  was-is_held b x = go x
    where
      go : Holds (is_held (let_go s t which) b) → Holds (is_held s b)
      go (inl y) = inl (y.0, y.1, (was-held y.0 y.2.0, y.2.1))
      go (inr e) = inr (was_held_made b e)

  letting_go : Marking s (let_go s t which SlotMark) (s TaskState)
  letting_go =
      record {
        zero_stays = λ i p e. zero i e (mark-after i);
        zero_was = λ i e. was_zero i e (mark-after i);
        low = λ i l. less i l (mark-after i);
        destroyed_stays = λ h e. e;
      }
    where
      zero : (i : ℕ) → s SlotMark i ≡ 0 → MarkAfter s t which i → let_go s t which SlotMark i ≡ 0
      zero i e (mark_stays n q) = q ∙ e
      zero i e (mark_falls p h w q) = omega arith

      was_zero : (i : ℕ) → let_go s t which SlotMark i ≡ 0 → MarkAfter s t which i → s SlotMark i ≡ 0
      was_zero i e (mark_stays n q) = sym q ∙ e
      was_zero i e (mark_falls p h w q) = omega arith

      less : (i : ℕ) → s SlotMark i ≤ held → MarkAfter s t which i → let_go s t which SlotMark i ≤ held
      less i e (mark_stays n q) = omega arith
      less i e (mark_falls p h w q) = omega arith

  let_go-block_part : (b : ℕ) → Holds (block_part s b) → Holds (block_part (let_go s t which) b)
  unfolding let_go bury_doomed change
  let_go-block_part b x = go x
    where
      flag : s BlockHeld b ≤ 1 → HeldAfter s t which b → let_go s t which BlockHeld b ≤ 1
      flag f (held_stays n e) = omega arith
      flag f (held_falls p w e) = omega arith

      low : 1 ≤ s BlockState b → BlockAfter s t which b → 1 ≤ let_go s t which BlockState b
      low h (block_stays n e) = omega arith
      low h (block_falls p n e) = omega arith

      high : s BlockState b ≤ block_destroyed → BlockAfter s t which b → let_go s t which BlockState b ≤ block_destroyed
      high h (block_stays n e) = omega arith
      high h (block_falls p n e) = omega arith

      no_state : s BlockState b ≡ 0 → BlockAfter s t which b → let_go s t which BlockState b ≡ 0
      no_state h (block_stays n e) = omega arith
      no_state h (block_falls p n e) = omega arith

      no_hold : s BlockHeld b ≡ 0 → HeldAfter s t which b → let_go s t which BlockHeld b ≡ 0
      no_hold h (held_stays n e) = omega arith
      no_hold h (held_falls p w e) = e

      go : Holds (block_part s b) → Holds (block_part (let_go s t which) b)
      go (inr (n, (z, (c, f)))) = inr (n, (no_state z (block-after b), (c, no_hold f (held_after b))))
      go (inl y) = block_lasts b (let_go-writes s t which) y.0 x shows
        where
          v : AllOf (block_row b) s
          v = block_by_name b s y.0 x

          shows : (n : Block) → DueOf (block_row b) let_go_fields n → Holds (block_says b n (let_go s t which))
          shows state_low due = low (v state_low) (block-after b)
          shows state_high due = high (v state_high) (block-after b)
          shows held_flag_lem due = flag (v held_flag_lem) (held_after b)
          shows Rattle.laws.specs.Conjuncts.is_block x3 = elim x3 [ ]
          shows Rattle.laws.specs.Conjuncts.has_creator x4 = elim x4 [ ]

  module _ (run : Holds (is_running s t)) (r : Kept s) where
    let_go-state : (h : ℕ) → h < s Objects 0 + 1 → Holds (state s h) → Holds (state (let_go s t which) h)
    unfolding let_go bury_doomed change
    let_go-state h l x = state_lasts h (let_go-writes s t which) x shows
      where
        v : AllOf (state_row h) s
        v = state_by_name h s x

        -- who is granted is not t
        lasting : (j : ℕ) → j < s TaskSlots h → s TaskState h ≡ granted → s SlotMark (at h j) ≡ held
            → MarkAfter s t which (at h j) → let_go s t which SlotMark (at h j) ≡ held
        lasting j b g e (mark_stays n p) = p ∙ e
        lasting j b g e (mark_falls p d w c) =
            let own : h ≡ t = sym (at_div h j (slot_low s (r counts) (r task_parts) h j l b)) ∙ p in
            let is : s TaskState t ≡ granted = rw own at g in
            let runs = run.1.1 in
            absurd (omega arith)

        shows : (n : State) → DueOf (state_row h) let_go_fields n → Holds (state_says h n (let_go s t which))
        shows waits_unfilled due = λ e f. v waits_unfilled e (marked_was_full letting_go r h l f)
        shows later_full due = λ e. marked-full letting_go h (v later_full e)
        shows holding_slot due = λ j b.
            let y = v holding_slot j b in
            (λ g. lasting j b g.0 (y.0 g) (mark-after (at h j)), λ e. y.1 (was-held (at h j) e))

    let_go-blocks : Holds (says blocks (let_go s t which))
    unfolding let_go bury_doomed change
    let_go-blocks b l k =
        let x = r blocks b l k in
        (λ e. x.0 (was_held_made b e), (λ e. lasting e (block-after b), λ e. gone x.1.1 e (block-after b)))
      where
        lasting : let_go s t which BlockState b ≡ doomed → BlockAfter s t which b → Holds (is_held (let_go s t which) b)
        lasting e (block_stays n q) = go (decide (is_held (let_go s t which) b))
          where
            go : Case (is_held (let_go s t which) b) → Holds (is_held (let_go s t which) b)
            go (it_does x) = x
            go (it_does_not m) = absurd (n (sym q ∙ e, m))
        lasting e (block_falls p n q) = absurd (omega arith)

        gone : (s BlockState b ≡ block_destroyed → Holds (is_held s b) → ⊥) → let_go s t which BlockState b ≡ block_destroyed
            → BlockAfter s t which b → Holds (is_held (let_go s t which) b) → ⊥
        gone f e (block_stays n q) x = f (sym q ∙ e) (was-is_held b x)
        gone f e (block_falls p n q) x = n x

    shows : (n : Name) → Due let_go_fields [] n → Holds (says n (let_go s t which))
    unfolding let_go bury_doomed change
    shows block_parts due = λ b l. let_go-block_part b (r block_parts b l)
    shows roots due = marked-roots letting_go (r roots)
    shows slots due = marked-slots letting_go (r slots)
    shows states due = λ h l k. let_go-state h l (r states h l k)
    shows blocks due = let_go-blocks
    shows compatible due = λ i l e.
        let x = r compatible i l (was-held i e) in
        (λ k b y. x.0 k b (was-held k y.0, y.1), λ y. x.1 (was_held_made (s SlotPayload i) y.0, y.1))
    shows free_slots due = λ h l p j b. marked-no_slot letting_go (at h j) (r free_slots h l p j b)
    shows settled due = marked-settled letting_go r
    shows counts x' = elim x' [ ]
    shows Rattle.laws.specs.Rows.kinds x'' = elim x'' [ ]
    shows Rattle.laws.specs.Rows.template_parts x3 = elim x3 [ ]
    shows task_parts x4 = elim x4 [ ]
    shows Rattle.laws.specs.Rows.event_parts x5 = elim x5 [ ]
    shows Rattle.laws.specs.Rows.creators x6 = elim x6 [ ]
    shows Rattle.laws.specs.Rows.outputs x7 = elim x7 [ ]
    shows Rattle.laws.specs.Rows.links x8 = elim x8 [ ]
    shows Rattle.laws.specs.Rows.one_link x9 = elim x9 [ ]
    shows Rattle.laws.specs.Rows.latches x10 = elim x10 [ ]
    shows Rattle.laws.specs.Rows.counted_events x11 = elim x11 [ ]
    shows Rattle.laws.specs.Rows.dropped x12 = elim x12 [ ]
    shows Rattle.laws.specs.Rows.free_links x13 = elim x13 [ ]

    pub let_go_keeps : Kept (let_go s t which)
    let_go_keeps = kept_by [] (let_go-writes s t which) r shows

-- who lets go of everything holds nothing
module _ (s : Session) (t : ℕ) where
  pub none_held : (i : ℕ) → i / 16 ≡ t → let_go s t (λ k. 0 ≐ 0) SlotMark i ≡ held → ⊥
  none_held i own h = go (mark-after s t (λ k. 0 ≐ 0) i)
    where
      go : MarkAfter s t (λ k. 0 ≐ 0) i → ⊥
      go (mark_stays n e) = n (own, (sym e ∙ h, refl))
      go (mark_falls p q w e) = omega arith

  pub none_held_made : (b : ℕ) → s BlockCreator b ≡ t → let_go s t (λ k. 0 ≐ 0) BlockHeld b ≡ 1 → ⊥
  none_held_made b own h = go (held_after s t (λ k. 0 ≐ 0) b)
    where
      go : HeldAfter s t (λ k. 0 ≐ 0) b → ⊥
      go (held_stays n e) = n (own, refl)
      go (held_falls p w e) = omega arith
