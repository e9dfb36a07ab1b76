-- A grant keeps a session: a resolved task holds all blocks of its slots from now on, none of them destroyed (check 17) and
-- none held by another task in a mode that stops it (check 18): then no two holds conflict. Two fields are written.
use Rattle.std.specs.Prelude.{ℕ, ◌+◌, ◌*◌, ◌/◌, ◌%◌, ◌≤◌, ◌<◌, ◌≡◌, ◌⊎◌, [], ◌∷◌}
use Rattle.std.proofs.Common.{ap, subst, ◌∙◌, inl, inr, arith}
use Rattle.std.proofs.Math.Path.{sym}
use Rattle.session.specs.Table.{Session, put, change}
use Rattle.session.specs.declared.Field.TheVariants.{Objects, Kind, TaskState, TaskSlots, BlockState, BlockCreator, BlockHeld}
use Rattle.session.specs.declared.Field.TheVariants.{SlotMode, SlotMark, SlotPayload}
use Rattle.rules.specs.Formula.{Formula, Holds, Formula.◌≐◌, Formula.◌≼◌, Formula.◌and◌}
use Rattle.rules.specs.FormulaLaws.{Case, decide, choose_yes, choose_no, Case.it_does, Case.it_does_not}
use Rattle.session.specs.Names.{task, waiting, resolved, granted, running, ended, held, block_destroyed, task_destroyed, mode_rw}
use Rattle.rules.specs.Reading.{at, is_gone, is_held}
use Rattle.rules.specs.Modes.{conflict}
use Rattle.rules.specs.ModeLaws.{conflict_swap, conflict_stops}
use Rattle.rules.specs.Checks.{grant_checks, slot_free}
use Rattle.rules.specs.Effects.{grant}
use Rattle.rules.specs.Sound.{state, full, clash}
use Rattle.laws.specs.Writes.{grant-writes}
use Rattle.laws.specs.Frame.{AllOf, DueOf, Shown.due}
use Rattle.laws.specs.Rows.{Name, says}
use Rattle.laws.specs.Rows.Name.{task_parts, roots, creators, outputs, slots, states, blocks, compatible, free_slots}
use Rattle.laws.specs.Rows.Name.{counts, settled}
use Rattle.laws.specs.Keeping.{Due, kept_by, Kept}
use Rattle.laws.specs.Conjuncts.{State, state_row, state_says, state_by_name, state_lasts}
use Rattle.laws.specs.Conjuncts.State.{waits_unfilled, later_full, holding_slot}
use Rattle.laws.specs.Marks.{Marking, payload_slot, marked-roots, marked-no_slot, marked-slots, marked-settled}
use Rattle.laws.specs.Marks.{marked-full, marked_was_full, slot_low}
use Rattle.laws.specs.Met.{Checked}
use Rattle.laws.specs.Moving.{move, Moved, after-move, still, move-creators, move-outputs, move-task_part}
use Rattle.laws.specs.Moving.{Moved.state_stays, Moved.state_moves}
use Rattle.laws.specs.Places.{put-here}
use Rattle.laws.specs.SlotPlaces.{at_div, place_split, place_low}

-- a slot's mark after
data After (s : Session) (t i : ℕ) : Type 0 where
  same : ((i / 16 ≡ t) × (1 ≤ s SlotPayload i) → ⊥) → grant s t SlotMark i ≡ s SlotMark i → After s t i
  taken : i / 16 ≡ t → 1 ≤ s SlotPayload i → grant s t SlotMark i ≡ held → After s t i

module _ (s : Session) (t : ℕ) where
  after-grant : (i : ℕ) → After s t i
  unfolding grant put change
  after-grant i = go (decide f)
    where
      f : Formula
      f = (i / 16 ≐ t) and (1 ≼ s SlotPayload i)

      go : Case f → After s t i
      go (it_does x) = taken x.0 x.1 (choose_yes f held (s SlotMark i) x)
      go (it_does_not n) = same n (choose_no f held (s SlotMark i) n)

  stays_held : (i : ℕ) → s SlotMark i ≡ held → grant s t SlotMark i ≡ held
  stays_held i h = go (after-grant i)
    where
      go : After s t i → grant s t SlotMark i ≡ held
      go (same n e) = e ∙ h
      go (taken p q e) = e

module _ (s : Session) (t : ℕ) (c : Checked (grant_checks s t)) (r : Kept s) where
  kind : s Kind t ≡ task
  kind = c 10

  was : s TaskState t ≡ resolved
  was = c 16

  before : s TaskState t ≤ granted
  before = let e = was in omega arith

  some : 1 ≤ granted
  some = omega arith

  live : granted ≤ running
  live = omega arith

  known : t < s Objects 0 + 1
  known = let l = (c 9).1 in omega arith

  marking : Marking s (grant s t SlotMark) (move s t granted TaskState)
  marking =
      record {
        zero_stays = λ i p e. zero i p e (after-grant s t i);
        zero_was = λ i e. was_zero i e (after-grant s t i);
        low = λ i l. less i l (after-grant s t i);
        destroyed_stays = still s t granted kind before some live task_destroyed (omega arith);
      }
    where
      zero : (i : ℕ) → s SlotPayload i ≡ 0 → s SlotMark i ≡ 0 → After s t i → grant s t SlotMark i ≡ 0
      zero i p e (same n q) = q ∙ e
      zero i p e (taken o h q) = absurd (omega arith)

      was_zero : (i : ℕ) → grant s t SlotMark i ≡ 0 → After s t i → s SlotMark i ≡ 0
      was_zero i e (same n q) = sym q ∙ e
      was_zero i e (taken o h q) = absurd (omega arith)

      less : (i : ℕ) → s SlotMark i ≤ held → After s t i → grant s t SlotMark i ≤ held
      less i e (same n q) = omega arith
      less i e (taken o h q) = omega arith

  -- a place of t's with a payload is one of its slots
  own-slot : (i : ℕ) → i / 16 ≡ t → 1 ≤ s SlotPayload i → (j : ℕ) × (j < s TaskSlots t) × (i ≡ at t j)
  own-slot i o p = (i % 16, (payload_slot s (r slots) t (i % 16) known (place_low i) (rw here at p)).1, here)
    where
      here : i ≡ at t (i % 16)
      here = rw o at (place_split i)

  -- check 17 at such a place
  not-gone : (i : ℕ) → i / 16 ≡ t → 1 ≤ s SlotPayload i → Holds (is_gone s (s SlotPayload i)) → ⊥
  not-gone i o p g = go (c 17 j l)
    where
      own : (j : ℕ) × (j < s TaskSlots t) × (i ≡ at t j)
      own = own-slot i o p

      j : ℕ
      j = own.0

      l : j < s TaskSlots t
      l = own.1

      go : s SlotPayload (at t j) ≡ 0 ⊎ (Holds (is_gone s (s SlotPayload (at t j))) → ⊥) → ⊥
      go (inl e) = let z : s SlotPayload i ≡ 0 = ap (s SlotPayload) own.2 ∙ e in omega arith
      go (inr n) = n (subst (λ (k : ℕ). Holds (is_gone s (s SlotPayload k))) own.2 g)

  -- check 18 at such a place
  free : (i : ℕ) → i / 16 ≡ t → 1 ≤ s SlotPayload i → Holds (slot_free s t i)
  free i o p =
      let own = own-slot i o p in
      subst (λ (k : ℕ). Holds (slot_free s t k)) (sym own.2) (c 18 own.0 own.1)

  grant-blocks : Holds (says blocks (grant s t))
  unfolding grant put change
  grant-blocks b l k =
      let x = r blocks b l k in
      (runs x.0, ((λ e. lasting (x.1.0 e)), λ e y. gone e (x.1.1 e) y))
    where
      runs : {A : Type 0} → (A → (1 ≤ s BlockCreator b) × (s TaskState (s BlockCreator b) ≡ running))
          → A → (1 ≤ s BlockCreator b) × (move s t granted TaskState (s BlockCreator b) ≡ running)
      runs f e = ((f e).0, still s t granted kind before some live running (omega arith) (s BlockCreator b) (f e).1)

      lasting : Holds (is_held s b) → Holds (is_held (grant s t) b)
      lasting (inl y) = inl (y.0, y.1, (stays_held s t y.0 y.2.0, y.2.1))
      lasting (inr e) = inr e

      was_free : s BlockState b ≡ block_destroyed → (Holds (is_held s b) → ⊥) → (i : ℕ) → i < 16 * (s Objects 0 + 1)
          → grant s t SlotMark i ≡ held → s SlotPayload i ≡ b → After s t i → ⊥
      was_free e f i l h p (same n q) = f (inl (i, l, (sym q ∙ h, p)))
      was_free e f i l h p (taken o d q) =
          not-gone i o d (subst (λ (a : ℕ). Holds (is_gone s a)) (sym p) (inr (inr (inr (k, (omega arith))))))

      gone : s BlockState b ≡ block_destroyed → (Holds (is_held s b) → ⊥) → Holds (is_held (grant s t) b) → ⊥
      gone e f (inl y) = was_free e f y.0 y.1 y.2.0 y.2.1 (after-grant s t y.0)
      gone e f (inr y) = f (inr y)

  -- nobody else holds a block that t takes in a mode that conflicts
  apart : (i k : ℕ) → i / 16 ≡ t → 1 ≤ s SlotPayload i → k < 16 * (s Objects 0 + 1) → (k / 16 ≡ t → ⊥) → s SlotMark k ≡ held
      → s SlotPayload k ≡ s SlotPayload i → Holds (conflict (s SlotMode i) (s SlotMode k)) → ⊥
  apart i k o p l n h e x = go (free i o p)
    where
      go : Holds (slot_free s t i) → ⊥
      go (inl z) = omega arith
      go (inr y) = y.0 (k, l, (n, (h, (e, conflict_stops _ _ x))))

  grant-compatible : Holds (says compatible (grant s t))
  unfolding grant put change
  grant-compatible i l h =
      let now = after-grant s t i in (
        λ k b x. two k b x now (after-grant s t k),
        λ x. made x.0 x.1.0 x.1.1 now,
      )
    where
      two : (k : ℕ) → k < i → Holds (clash (grant s t) i k) → After s t i → After s t k → ⊥
      two k b (g, (n, (e, x))) (same m q) (same m' q') = (r compatible i l (sym q ∙ h)).0 k b (sym q' ∙ g, (n, (e, x)))
      two k b (g, (n, (e, x))) (taken o p q) (same m' q') = apart i k o p (omega arith) (λ z. n (z ∙ sym o)) (sym q' ∙ g) e x
      two k b (g, (n, (e, x))) (same m q) (taken o p q') =
          apart k i o p l (λ z. n (o ∙ sym z)) (sym q ∙ h) (sym e) (conflict_swap (s SlotMode i) (s SlotMode k) x)
      two k b (g, (n, (e, x))) (taken o p q) (taken o' p' q') = n (o' ∙ sym o)

      made : s BlockHeld (s SlotPayload i) ≡ 1 → (s BlockCreator (s SlotPayload i) ≡ i / 16 → ⊥)
          → Holds (conflict (s SlotMode i) mode_rw) → After s t i → ⊥
      made e n x (same m q) = (r compatible i l (sym q ∙ h)).1 (e, (n, x))
      made e n x (taken o p q) = go (free i o p)
        where
          go : Holds (slot_free s t i) → ⊥
          go (inl z) = omega arith
          go (inr y) = y.1 (e, ((λ z. n (z ∙ sym o)), conflict_stops _ _ x))

  -- the state of one task after
  module _ (h : ℕ) (l : h < s Objects 0 + 1) (x : Holds (state s h)) where
    v : AllOf (state_row h) s
    v = state_by_name h s x

    not_full : move s t granted TaskState h ≡ waiting → Holds (full s h) → ⊥
    not_full e = go (after-move s t granted h)
      where
        go : Moved s t granted h → Holds (full s h) → ⊥
        go (state_stays q) = v waits_unfilled (sym q ∙ e)
        go (state_moves p q) = absurd (omega arith)

    is-full : resolved ≤ move s t granted TaskState h → move s t granted TaskState h ≤ ended → Holds (full s h)
    is-full a b = go (after-move s t granted h)
      where
        go : Moved s t granted h → Holds (full s h)
        go (state_stays q) = v later_full (omega arith, omega arith)
        go (state_moves p q) = let e : s TaskState h ≡ resolved = rw (← p) was in v later_full (omega arith, omega arith)

    own : (j : ℕ) → j < s TaskSlots h → at h j / 16 ≡ h
    own j b = at_div h j (slot_low s (r counts) (r task_parts) h j l b)

    takes_all : (j : ℕ) → j < s TaskSlots h → move s t granted TaskState h ≡ granted → 1 ≤ s SlotPayload (at h j)
        → grant s t SlotMark (at h j) ≡ held
    takes_all j b g p = go (after-grant s t (at h j)) (after-move s t granted h)
      where
        go : After s t (at h j) → Moved s t granted h → grant s t SlotMark (at h j) ≡ held
        go (taken o d e) m = e
        go (same n e) (state_stays q) = e ∙ (v holding_slot j b).0 (sym q ∙ g, p)
        go (same n e) (state_moves o q) = absurd (n (own j b ∙ sym o, p))

    may_hold : (j : ℕ) → j < s TaskSlots h → grant s t SlotMark (at h j) ≡ held
        → (1 ≤ s SlotPayload (at h j)) × (move s t granted TaskState h ≡ granted ⊎ move s t granted TaskState h ≡ running)
    may_hold j b g = go (after-grant s t (at h j))
      where
        lasts : s TaskState h ≡ granted ⊎ s TaskState h ≡ running → Moved s t granted h
            → move s t granted TaskState h ≡ granted ⊎ move s t granted TaskState h ≡ running
        lasts y (state_moves o q) = inl q
        lasts (inl y) (state_stays q) = inl (q ∙ y)
        lasts (inr y) (state_stays q) = inr (q ∙ y)

        go : After s t (at h j)
            → (1 ≤ s SlotPayload (at h j)) × (move s t granted TaskState h ≡ granted ⊎ move s t granted TaskState h ≡ running)
        go (taken o d e) = (d, inl (put-here s TaskState t h granted (sym o ∙ own j b)))
        go (same n e) = let y = (v holding_slot j b).1 (sym e ∙ g) in (y.0, lasts y.1 (after-move s t granted h))

    grant-state : Holds (state (grant s t) h)
    unfolding grant put change
    grant-state = state_lasts h (grant-writes s t) x after
      where
        after : (n : State) → DueOf (state_row h) (TaskState ∷ SlotMark ∷ []) n → Holds (state_says h n (grant s t))
        after waits_unfilled due = λ e f. not_full e (marked_was_full marking r h l f)
        after later_full due = λ e. marked-full marking h (is-full e.0 e.1)
        after holding_slot due = λ j b. (λ y. takes_all j b y.0 y.1, may_hold j b)

  shows : (n : Name) → Due (TaskState ∷ SlotMark ∷ []) [] n → Holds (says n (grant s t))
  unfolding grant put change
  shows task_parts due = λ i l. move-task_part s t granted kind some (omega arith) i (r task_parts i l)
  shows roots due = marked-roots marking (r roots)
  shows creators due = move-creators s t granted kind before some live (r creators)
  shows outputs due = move-outputs s t granted kind before some live (r outputs)
  shows slots due = marked-slots marking (r slots)
  shows states due = λ h l k. grant-state h l (r states h l k)
  shows blocks due = grant-blocks
  shows compatible due = grant-compatible
  shows free_slots due = λ h l p j b. marked-no_slot marking (at h j) (r free_slots h l p j b)
  shows settled due = marked-settled marking r
  shows counts x' = elim x' [ ]
  shows Rattle.laws.specs.Rows.kinds x'' = elim x'' [ ]
  shows Rattle.laws.specs.Rows.template_parts x3 = elim x3 [ ]
  shows Rattle.laws.specs.Rows.event_parts x4 = elim x4 [ ]
  shows Rattle.laws.specs.Rows.block_parts x5 = elim x5 [ ]
  shows Rattle.laws.specs.Rows.links x6 = elim x6 [ ]
  shows Rattle.laws.specs.Rows.one_link x7 = elim x7 [ ]
  shows Rattle.laws.specs.Rows.latches x8 = elim x8 [ ]
  shows Rattle.laws.specs.Rows.counted_events x9 = elim x9 [ ]
  shows Rattle.laws.specs.Rows.dropped x10 = elim x10 [ ]
  shows Rattle.laws.specs.Rows.free_links x11 = elim x11 [ ]

pub grant_keeps : (s : Session) (t : ℕ) → Checked (grant_checks s t) → Kept s → Kept (grant s t)
grant_keeps s t c h = kept_by [] (grant-writes s t) h (shows s t c h)
