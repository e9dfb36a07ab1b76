-- A slot of a waiting task is satisfied, after a claim or with a delivered link: the slot set apart comes in order, and so all
-- rules hold. Three fields are written: the slot's mark and payload, and the task's state.
use Rattle.std.specs.Prelude.{ℕ, ◌+◌, ◌≤◌, ◌<◌, ◌≡◌, ◌⊎◌, [], ◌∷◌}
use Rattle.std.proofs.Math.Path.{refl, sym, subst}
use Rattle.std.proofs.Common.{◌∙◌}
use Rattle.std.proofs.Math.Logic.{inl, inr}
use native.Mathlib.Omega.{arith}
use Rattle.session.specs.Table.{Session, put}
use Rattle.session.specs.declared.Field.TheVariants.{Objects, Links, Kind, TaskState, TaskSlots, EventPayload, BlockCreator}
use Rattle.session.specs.declared.Field.TheVariants.{SlotMode, SlotMark, SlotPayload, LinkSource, LinkState}
use Rattle.session.specs.Names.{waiting, resolved, running, granted, task, task_destroyed, satisfied, held, delivered}
use Rattle.rules.specs.Formula.{Formula, Holds, choose, Formula.◌≼◌, Formula.each}
use Rattle.rules.specs.FormulaLaws.{Case, decide, choose_yes, choose_no, Case.it_does, Case.it_does_not}
use Rattle.rules.specs.Reading.{made, at, is_held}
use Rattle.rules.specs.Effects.{satisfy_slot}
use Rattle.rules.specs.Sound.{is_payload, slot, state, full, leads_to, no_slot, clash}
use Rattle.laws.specs.Outside.{Outside, outside_same, outside_put}
use Rattle.laws.specs.Writes.{satisfy_slot-writes, slot_fields}
use Rattle.laws.specs.Frame.{AllOf, DueOf, Shown.due}
use Rattle.laws.specs.Rows.{Name, says}
use Rattle.laws.specs.Rows.Name.{counts, task_parts, roots, creators, outputs, slots, states, blocks, compatible}
use Rattle.laws.specs.Rows.Name.{free_slots, settled}
use Rattle.laws.specs.Keeping.{Due, kept_by, Kept}
use Rattle.laws.specs.Conjuncts.{Claimed, claimed_says, claimed_row, claimed_by_name, claimed_of, claimed_lasts}
use Rattle.laws.specs.Conjuncts.Claimed.{mode_low, mode_high, mark_high, payload, empty, waits as awaits, brought}
use Rattle.laws.specs.Conjuncts.{State, state_says, state_row, state_by_name, state_of, state_lasts}
use Rattle.laws.specs.Conjuncts.State.{waits_unfilled, later_full, holding_slot}
use Rattle.laws.specs.Conjuncts.{Root, root_says, root_row, roots_by_name, roots_last}
use Rattle.laws.specs.Conjuncts.Root.{main_mark, main_payload}
use Rattle.laws.specs.Apart.{Apart, whole}
use Rattle.laws.specs.Places.{Places, places, put-here, put_there, Places.one, Places.two}
use Rattle.laws.specs.SlotPlaces.{same-task, same-slot, part-slots}
use Rattle.laws.specs.Moving.{move, still, move-task_part, move-creators, move-outputs}

-- the mark and the payload at a place: new at the slot, as they were elsewhere
pub data Marked (s : Session) (t j p i : ℕ) : Type 0 where
  here : at t j ≡ i → satisfy_slot s t j p SlotMark i ≡ satisfied → satisfy_slot s t j p SlotPayload i ≡ p → Marked s t j p i
  there : (at t j ≡ i → ⊥) → satisfy_slot s t j p SlotMark i ≡ s SlotMark i → satisfy_slot s t j p SlotPayload i ≡ s SlotPayload i
      → Marked s t j p i

pub marked : (s : Session) (t j p i : ℕ) → Marked s t j p i
unfolding satisfy_slot put
marked s t j p i = go (places (at t j) i)
  where
    go : Places (at t j) i → Marked s t j p i
    go (one e) = here e (put-here s SlotMark (at t j) i satisfied e) (put-here s SlotPayload (at t j) i p e)
    go (two n) = there n (put_there s SlotMark (at t j) i satisfied n) (put_there s SlotPayload (at t j) i p n)

-- what a satisfied slot of t leaves: t resolved if that was the last
abbrev marks : Session → ℕ → ℕ → ℕ → Session
marks s t j p = put (put s SlotMark (at t j) satisfied) SlotPayload (at t j) p

abbrev last_one : Session → ℕ → ℕ → ℕ → Formula
last_one s t j p = each (s TaskSlots t) (λ k. 1 ≼ marks s t j p SlotMark (at t k))

abbrev next : Session → ℕ → ℕ → ℕ → ℕ
next s t j p = choose (last_one s t j p) resolved (s TaskState t)

-- a task's state: resolved at t if all its slots are satisfied now, and as it was elsewhere
pub data StateAfter (s : Session) (t j p i : ℕ) : Type 0 where
  other : (t ≡ i → ⊥) → satisfy_slot s t j p TaskState i ≡ s TaskState i → StateAfter s t j p i
  waits : t ≡ i → satisfy_slot s t j p TaskState i ≡ s TaskState t → (Holds (full (satisfy_slot s t j p) t) → ⊥)
      → StateAfter s t j p i
  moved : t ≡ i → satisfy_slot s t j p TaskState i ≡ resolved → Holds (full (satisfy_slot s t j p) t) → StateAfter s t j p i

pub state-after : (s : Session) (t j p i : ℕ) → StateAfter s t j p i
unfolding satisfy_slot put
state-after s t j p i = go (places t i) (decide (last_one s t j p))
  where
    put_next : t ≡ i → satisfy_slot s t j p TaskState i ≡ next s t j p
    put_next e = put-here (marks s t j p) TaskState t i (next s t j p) e

    go : Places t i → Case (last_one s t j p) → StateAfter s t j p i
    go (two n) c = other n (put_there (marks s t j p) TaskState t i (next s t j p) n)
    go (one e) (it_does h) = moved e (put_next e ∙ choose_yes (last_one s t j p) resolved (s TaskState t) h) h
    go (one e) (it_does_not n) = waits e (put_next e ∙ choose_no (last_one s t j p) resolved (s TaskState t) n) n

-- slot j of the waiting task t is claimed and unsatisfied, and its link, if it has one, is delivered and brings p
pub record Vacant (s : Session) (t j p : ℕ) : Type 0 where
  pub is_made : Holds (made s t)
  pub is_task : s Kind t ≡ task
  pub is_slot : j < s TaskSlots t
  pub is_waiting : s TaskState t ≡ waiting
  pub has_mode : 1 ≤ s SlotMode (at t j)
  pub has_range : s SlotMode (at t j) ≤ 4
  pub empty : s SlotMark (at t j) ≡ 0
  pub payload : Holds (is_payload s p)
  pub no_more : (l : ℕ) → l < s Links 0 + 1 → Holds (leads_to s t j l) → s LinkState l ≡ delivered
  pub brought : (l : ℕ) → l < s Links 0 + 1 → Holds (leads_to s t j l) → p ≡ s EventPayload (s LinkSource l)

module _ (s : Session) (t j p : ℕ) (v : Vacant s t j p) (a : Apart s t j) where
  abbrev after : Session
  after = satisfy_slot s t j p

  writes : Outside s after slot_fields
  writes = satisfy_slot-writes s t j p

  few : (i : ℕ) → i < s Objects 0 + 1 → s TaskSlots i ≤ 16
  few i l = let c = a.others counts in part-slots s i (a.others task_parts i (omega arith))

  low : j < 16
  low = let m = v.is_made in let l = v.is_slot in let f = few t (omega arith) in omega arith

  -- the task moves on, but does not run yet
  was : s TaskState t ≤ granted
  was = let w = v.is_waiting in omega arith

  on : (1 ≤ next s t j p) × (next s t j p ≤ resolved)
  on = go (decide (last_one s t j p))
    where
      go : Case (last_one s t j p) → (1 ≤ next s t j p) × (next s t j p ≤ resolved)
      go (it_does h) = rw (choose_yes (last_one s t j p) resolved (s TaskState t) h) (omega arith, omega arith)
      go (it_does_not n) =
          rw (choose_no (last_one s t j p) resolved (s TaskState t) n, v.is_waiting) (omega arith, omega arith)

  some : 1 ≤ next s t j p
  some = on.0

  live : next s t j p ≤ running
  live = let l = on.1 in omega arith

  runs_on : (w : ℕ) → running ≤ w → (i : ℕ) → s TaskState i ≡ w → move s t (next s t j p) TaskState i ≡ w
  runs_on = still s t (next s t j p) v.is_task was some live

  -- what is held was held, with the same payload
  was-held : (i : ℕ) → after SlotMark i ≡ held → (s SlotMark i ≡ held) × (after SlotPayload i ≡ s SlotPayload i)
  was-held i h = go (marked s t j p i)
    where
      go : Marked s t j p i → (s SlotMark i ≡ held) × (after SlotPayload i ≡ s SlotPayload i)
      go (here _ m _) = absurd (omega arith)
      go (there _ m q) = (sym m ∙ h, q)

  -- a place with a mark is another one
  still_marked : (i : ℕ) → 1 ≤ s SlotMark i → (after SlotMark i ≡ s SlotMark i) × (after SlotPayload i ≡ s SlotPayload i)
  still_marked i h = go (marked s t j p i)
    where
      at_t : at t j ≡ i → ⊥
      at_t q = let z : s SlotMark i ≡ 0 = rw (← q) v.empty in omega arith

      go : Marked s t j p i → (after SlotMark i ≡ s SlotMark i) × (after SlotPayload i ≡ s SlotPayload i)
      go (here q _ _) = absurd (at_t q)
      go (there _ m e) = (m, e)

  -- and so is another slot
  beside : (h k : ℕ) → k < 16 → (t ≡ h → j ≡ k → ⊥)
      → (after SlotMark (at h k) ≡ s SlotMark (at h k)) × (after SlotPayload (at h k) ≡ s SlotPayload (at h k))
  beside h k l n = go (marked s t j p (at h k))
    where
      go : Marked s t j p (at h k)
          → (after SlotMark (at h k) ≡ s SlotMark (at h k)) × (after SlotPayload (at h k) ≡ s SlotPayload (at h k))
      go (here q _ _) = absurd (n (same-task h k t j l low q) (same-slot h k t j l low q))
      go (there _ m e) = (m, e)

  fill_roots : Holds (says roots after)
  fill_roots = roots_last writes (a.others roots) shows
    where
      c : AllOf root_row s
      c = roots_by_name s (a.others roots)

      shows : (n : Root) → DueOf root_row slot_fields n → Holds (root_says n after)
      shows main_mark due = let m = still_marked (at 2 0) (c main_mark) in rw m.0 (c main_mark)
      shows main_payload due = let m = still_marked (at 2 0) (c main_mark) in m.1 ∙ c main_payload
      shows Rattle.laws.specs.Conjuncts.first_block x' = elim x' [ ]
      shows Rattle.laws.specs.Conjuncts.first_creator x'' = elim x'' [ ]
      shows Rattle.laws.specs.Conjuncts.main_task x3 = elim x3 [ ]
      shows Rattle.laws.specs.Conjuncts.main_creator x4 = elim x4 [ ]
      shows Rattle.laws.specs.Conjuncts.main_slots x5 = elim x5 [ ]
      shows Rattle.laws.specs.Conjuncts.main_finish x6 = elim x6 [ ]
      shows Rattle.laws.specs.Conjuncts.main_output x7 = elim x7 [ ]
      shows Rattle.laws.specs.Conjuncts.main_mode x8 = elim x8 [ ]

  still-holds : (b : ℕ) → Holds (is_held s b) → Holds (is_held after b)
  unfolding satisfy_slot put
  still-holds b (inr e) = inr e
  still-holds b (inl (i, l, (m, q))) = let y = still_marked i (omega arith) in inl (i, l, (y.0 ∙ m, y.1 ∙ q))

  held_before : (b : ℕ) → Holds (is_held after b) → Holds (is_held s b)
  unfolding satisfy_slot put
  held_before b (inr e) = inr e
  held_before b (inl (i, l, (m, q))) = let y = was-held i m in inl (i, l, (y.0, sym y.1 ∙ q))

  fill_blocks : Holds (says blocks after)
  unfolding satisfy_slot put
  fill_blocks b l k =
      let x = a.others blocks b l k in (
        λ e. ((x.0 e).0, runs_on running (omega arith) (s BlockCreator b) (x.0 e).1),
        (λ e. still-holds b (x.1.0 e), λ e y. x.1.1 e (held_before b y)),
      )

  fill_compatible : Holds (says compatible after)
  unfolding satisfy_slot put
  fill_compatible i l m = (two, rw y.1 (a.others compatible i l y.0).1)
    where
      y : (s SlotMark i ≡ held) × (after SlotPayload i ≡ s SlotPayload i)
      y = was-held i m

      two : (k : ℕ) → k < i → Holds (clash after i k) → ⊥
      two k b (g, (n, (e, x))) =
          let w = was-held k g in
          (a.others compatible i l y.0).0 k b (w.0, (n, (sym w.1 ∙ e ∙ y.1, x)))

  -- the slot that was set apart is claimed and satisfied
  mark-here : after SlotMark (at t j) ≡ satisfied
  unfolding satisfy_slot put
  mark-here = put-here s SlotMark (at t j) (at t j) satisfied refl

  payload_here : after SlotPayload (at t j) ≡ p
  unfolding satisfy_slot put
  payload_here = put-here s SlotPayload (at t j) (at t j) p refl

  fill_claimed : AllOf (claimed_row t j) after
  unfolding satisfy_slot put
  fill_claimed mode_low = v.has_mode
  fill_claimed mode_high = v.has_range
  fill_claimed mark_high = rw mark-here (omega arith)
  fill_claimed payload = rw payload_here v.payload
  fill_claimed empty = λ e. let m = mark-here in absurd (omega arith)
  fill_claimed awaits =
      let m = mark-here in
      inr (λ e. absurd (omega arith), λ x. absurd (x.2.1 (v.no_more x.0 x.1 x.2.0)))
  fill_claimed brought = λ m l b x. payload_here ∙ v.brought l b x.0

  fill_here : Holds (slot after t j)
  unfolding satisfy_slot put
  fill_here = inl (v.is_task, (v.is_slot, inr (claimed_of t j after fill_claimed)))

  -- of another slot, only its task's state may be another
  move-slot : (h k : ℕ) → Holds (slot s h k) → Holds (slot (move s t (next s t j p)) h k)
  unfolding put
  move-slot h k (inr x) = inr x
  move-slot h k (inl (i, (m, inl x))) = inl (i, (m, inl x))
  move-slot h k (inl (i, (m, inr x))) =
      inl (i, (m, inr (claimed_lasts h k (outside_put {f = TaskState} t (next s t j p) (outside_same s)) x shows)))
    where
      lasting : Holds (claimed_says h k awaits s) → Holds (claimed_says h k awaits (move s t (next s t j p)))
      lasting (inl e) = inl (runs_on task_destroyed (omega arith) h e)
      lasting (inr y) = inr y

      shows : (n : Claimed) → DueOf (claimed_row h k) (TaskState ∷ []) n → Holds (claimed_says h k n (move s t (next s t j p)))
      shows awaits due = lasting (claimed_by_name h k s x awaits)
      shows mode_low x6 = elim x6 [ ]
      shows mode_high x7 = elim x7 [ ]
      shows mark_high x8 = elim x8 [ ]
      shows payload x9 = elim x9 [ ]
      shows empty x10 = elim x10 [ ]
      shows brought x11 = elim x11 [ ]

  fill_elsewhere : (h k : ℕ) → k < 16 → (t ≡ h → j ≡ k → ⊥) → Holds (slot s h k) → Holds (slot after h k)
  unfolding satisfy_slot put
  fill_elsewhere h k l n x = let b = beside h k l n in rw (b.0, b.1) (move-slot h k x)

  fill_settled : Holds (says settled after)
  unfolding satisfy_slot put
  fill_settled i l k m y x = go (marked s t j p (at i k))
    where
      fits : k < 16
      fits = let f = few i l in let n : k < s TaskSlots i = m in omega arith

      go : Marked s t j p (at i k) → ⊥
      go (here q _ _) =
          let b : t ≡ i = same-task i k t j fits low q in
          let c : j ≡ k = same-slot i k t j fits low q in
          x.2.1 (v.no_more x.0 x.1 (x.2.0.0 ∙ sym b, x.2.0.1 ∙ sym c))
      go (there _ e _) = a.others settled i l k m (rw (← e) y) x

  -- t's own state agrees with its slots
  own-state : Holds (state s t) → Holds (state after t)
  unfolding satisfy_slot put
  own-state x = state_of t after (go (state-after s t j p t))
    where
      waits-not : s TaskState t ≡ granted ⊎ s TaskState t ≡ running → ⊥
      waits-not (inl e) = let w = v.is_waiting in omega arith
      waits-not (inr e) = let w = v.is_waiting in omega arith

      free : (k : ℕ) → k < s TaskSlots t → after SlotMark (at t k) ≡ held → ⊥
      free k m h = waits-not ((state_by_name t s x holding_slot k m).1 (was-held (at t k) h).0).1

      go : StateAfter s t j p t → AllOf (state_row t) after
      go (other n e) m = absurd (n refl)
      go (waits q e n) waits_unfilled = λ w. n
      go (waits q e n) later_full = let w = v.is_waiting in λ r. absurd (omega arith)
      go (waits q e n) holding_slot =
          let w = v.is_waiting in λ k m. (λ r. absurd (omega arith), λ r. absurd (free k m r))
      go (moved q e f) waits_unfilled = λ w. absurd (omega arith)
      go (moved q e f) later_full = λ r. f
      go (moved q e f) holding_slot = λ k m. (λ r. absurd (omega arith), λ r. absurd (free k m r))

  -- and so does another task's
  other-state : (i : ℕ) → (t ≡ i → ⊥) → i < s Objects 0 + 1 → Holds (state s i) → Holds (state after i)
  unfolding satisfy_slot put
  other-state i n l x = state_lasts i writes x shows
    where
      c : AllOf (state_row i) s
      c = state_by_name i s x

      same : (k : ℕ) → k < s TaskSlots i
          → (after SlotMark (at i k) ≡ s SlotMark (at i k)) × (after SlotPayload (at i k) ≡ s SlotPayload (at i k))
      same k m = let f = few i l in beside i k (omega arith) (λ q _. n q)

      stays : after TaskState i ≡ s TaskState i
      stays = put_there (marks s t j p) TaskState t i (next s t j p) n

      shows : (m : State) → DueOf (state_row i) slot_fields m → Holds (state_says i m after)
      shows waits_unfilled due = λ w f. c waits_unfilled (sym stays ∙ w) (λ k m. rw (← (same k m).0) (f k m))
      shows later_full due = rw stays (λ r k m. rw (same k m).0 (c later_full r k m))
      shows holding_slot due = rw stays (λ k m. rw ((same k m).0, (same k m).1) (c holding_slot k m))

  fill_states : Holds (says states after)
  unfolding satisfy_slot put
  fill_states i l k = go (places t i)
    where
      go : Places t i → Holds (state after i)
      go (one q) = subst (λ (n : ℕ). Holds (state after n)) q (own-state (rw q (a.others states i l k)))
      go (two n) = other-state i n l (a.others states i l k)

  fill_none : (i : ℕ) → s Objects 0 < i → (k : ℕ) → k < 16 → Holds (no_slot s (at i k)) → Holds (no_slot after (at i k))
  unfolding satisfy_slot put
  fill_none i g k b x = let m = v.is_made in let y = beside i k b (λ e _. omega arith) in rw (y.0, y.1) x

  shows : (n : Name) → Due slot_fields (slots ∷ []) n → Holds (says n after)
  unfolding satisfy_slot put
  shows task_parts due =
      let l = live in
      λ i b. move-task_part s t (next s t j p) v.is_task some (omega arith) i (a.others task_parts i b)
  shows roots due = fill_roots
  shows creators due = move-creators s t (next s t j p) v.is_task was some live (a.others creators)
  shows outputs due = move-outputs s t (next s t j p) v.is_task was some live (a.others outputs)
  shows states due = fill_states
  shows blocks due = fill_blocks
  shows compatible due = fill_compatible
  shows free_slots due = λ i l g k b. fill_none i g k b (a.others free_slots i l g k b)
  shows settled due = fill_settled
  shows counts x' = elim x' [ ]
  shows Rattle.laws.specs.Rows.kinds x'' = elim x'' [ ]
  shows Rattle.laws.specs.Rows.template_parts x3 = elim x3 [ ]
  shows Rattle.laws.specs.Rows.event_parts x4 = elim x4 [ ]
  shows Rattle.laws.specs.Rows.block_parts x5 = elim x5 [ ]
  shows slots x6 = elim x6 [ ]
  shows Rattle.laws.specs.Rows.links x7 = elim x7 [ ]
  shows Rattle.laws.specs.Rows.one_link x8 = elim x8 [ ]
  shows Rattle.laws.specs.Rows.latches x9 = elim x9 [ ]
  shows Rattle.laws.specs.Rows.counted_events x10 = elim x10 [ ]
  shows Rattle.laws.specs.Rows.dropped x11 = elim x11 [ ]
  shows Rattle.laws.specs.Rows.free_links x12 = elim x12 [ ]

  -- all rules hold again
  pub fill_keeps : Kept after
  unfolding satisfy_slot put
  fill_keeps = whole after t j apart_yet fill_here
    where
      apart_yet : Apart after t j
      apart_yet =
          record {
            others = kept_by (slots ∷ []) writes a.others shows;
            elsewhere = λ h l k b n. fill_elsewhere h k b n (a.elsewhere h l k b n);
          }
