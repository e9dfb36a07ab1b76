-- What no operation undoes: each one whose checks are met, in a sound session.
use Rattle.std.specs.Prelude.{ℕ, ◌+◌, ◌/◌, ◌≤◌, ◌≡◌}
use Rattle.std.proofs.Math.Path.{refl}
use Rattle.std.proofs.Common.{inl, arith}
use Rattle.std.proofs.Math.Logic.{inr}
use Rattle.session.specs.Table.{Session, put, change}
use Rattle.session.specs.declared.Field.TheVariants.{Dropped, Kind, TemplateState, TaskState, TaskFinish, TaskOutput, EventState}
use Rattle.session.specs.declared.Field.TheVariants.{EventType, EventPayload, BlockState, SlotMode, SlotMark, SlotPayload}
use Rattle.session.specs.declared.Field.TheVariants.{LinkSource, LinkTarget, LinkSlot, LinkState}
use Rattle.rules.specs.Formula.{Formula, Holds, choose, Formula.◌≐◌, Formula.◌≼◌, Formula.◌and◌, Formula.◌or◌}
use Rattle.rules.specs.FormulaLaws.{Case, decide, Case.it_does, Case.it_does_not, choose_case}
use Rattle.session.specs.Names.{template, task, event, waiting, resolved, granted, running, ended, task_destroyed, event_open}
use Rattle.session.specs.Names.{fired, doomed, block_destroyed, ready, delivered, latch, held}
use Rattle.rules.specs.Reading.{at, made, is_kind, is_user_event, is_gone, has_slot, is_held}
use Rattle.rules.specs.Checks.{dependence_checks, satisfy_checks, destroy_checks, deliver_checks, grant_checks, start_checks, end_checks}
use Rattle.rules.specs.Checks.{makes_link}
use Rattle.rules.specs.Effects.{claim, satisfy_slot, satisfy_event, satisfy, new_link, depend, let_go, release, bury_doomed}
use Rattle.rules.specs.Effects.{destroy_event, destroy_task, destroy_block, destroy, drops, bring, expire, deliver, grant, start, fire_one, end}
use Rattle.laws.specs.Met.{Checked}
use Rattle.laws.specs.SlotPlaces.{task-slot}
use Rattle.laws.specs.Frame.{AllOf}
use Rattle.laws.specs.Rows.Name.{counts, task_parts, event_parts, block_parts, outputs, slots, links, states}
use Rattle.laws.specs.Keeping.{Sound}
use Rattle.laws.specs.Conjuncts.{link_row, Linked.target_made, Linked.target_kind, Linked.has_slot_lem}
use Rattle.laws.specs.Standing.{open_unless, open_latch, open_output, output_stands, waits, slot_of, unclaimed-mark}
use Rattle.laws.specs.Standing.{awaited_mark, link_at_lem, block_stands}
use Rattle.laws.specs.Lasting.{Lasts, Later, later_same, later_put, later_then, later_change}
use Rattle.laws.specs.Expire.{later_expire, expire-sound, still-checked}
use Rattle.laws.specs.LastingEffects.{later_fire_one, later_fire_finished, later_destroy_event, later_let_go, later_satisfy_slot}
use Rattle.laws.specs.LastingEffects.{later_satisfy_event, later_new_link}

-- what a destination has to be for a satisfaction of its slot j: a waiting task with that slot unsatisfied, or an event
-- that is open, or has fired and is no latch
abbrev Takes : Session → ℕ → ℕ → Type 0
Takes r d j =
    (r Kind d ≡ task → (r SlotMark (at d j) ≡ 0) × (r TaskState d ≡ waiting))
    × ((r Kind d ≡ task → ⊥) → (r EventType d ≡ latch → r EventState d ≡ event_open) ×
    ((r EventState d ≡ fired → ⊥) → r EventState d ≡ event_open))

takes : (s : Session) (d j : ℕ) → Sound s → Holds (made s d) → Holds (is_kind s task d or is_user_event s d)
    → (Holds (is_gone s d) → ⊥)
    → Holds (has_slot s d j) → (s Kind d ≡ task → s SlotMark (at d j) ≡ 0) → Takes s d j
takes s d j g m k there slot empty = (
  λ t. (empty t, waits s d j (g counts) (g task_parts) (g states) m t there (task-slot s d j t slot) (empty t)),
  λ n. (
    λ ty. open_latch s d (g counts) (g event_parts) m (other n k) ty there,
    λ f. open_unless s d (g counts) (g event_parts) m (other n k) there f,
  ),
)
  where
    other : (s Kind d ≡ task → ⊥) → Holds (is_kind s task d or is_user_event s d) → s Kind d ≡ event
    other n (inl t) = absurd (n t)
    other n (inr u) = u.0

later_satisfy : {s r : Session} (d j p : ℕ) → Later s r → Takes r d j → Later s (satisfy r d j p)
unfolding satisfy
later_satisfy {s} {r} d j p x t =
    choose_case (Later s) (is_kind r task d) (satisfy_slot r d j p) (satisfy_event r d j p)
    (λ k. later_satisfy_slot d j p x (t.0 k).0 (t.0 k).1) (λ k. later_satisfy_event d j p x (t.1 k).0 (t.1 k).1)

-- operation 5
module _ (s : Session) (g : Sound s) (caller source d j mode : ℕ) (m : Checked (dependence_checks s caller source d j mode)) where
  fits : Takes s d j
  fits =
      let there = (m 11).1 in
      let slot = m 12 in
      let named = (m 9).1 in
      takes s d j g named (m 10).1 there slot
      (λ k. unclaimed-mark s d j (slot_of s d j (g counts) (g task_parts) (g slots) named slot) (m 13 k))

  from : (r : Session) → Later s r → Takes r d j
      → Later s (choose (makes_link s source) (new_link r source d j) (satisfy r d j source))
  from r x t =
      choose_case (Later s) (makes_link s source) (new_link r source d j) (satisfy r d j source) (λ k. later_new_link source d j x)
      (λ k. later_satisfy d j source x t)

  pub later_depend : Later s (depend s source d j mode)
  unfolding depend claim put
  later_depend =
      choose_case (λ (r : Session). Later s (choose (makes_link s source) (new_link r source d j) (satisfy r d j source)))
      (is_kind s task d) (put s SlotMode (at d j) mode) s
      (λ k. from (put s SlotMode (at d j) mode)
      (later_put SlotMode (at d j) mode (later_same s) (λ l. let z = m 13 k in absurd (omega arith))) fits)
      (λ k. from s (later_same s) fits)

-- operation 6
pub later_satisfaction : (s : Session) → Sound s → (caller e b j : ℕ) → Checked (satisfy_checks s caller e b j)
    → Later s (satisfy_event s e j b)
later_satisfaction s g caller e b j m =
    let named = (m 9).0 in
    let kind = (m 10).0.0 in
    let there = (m 11).0 in
    later_satisfy_event e j b (later_same s) (λ ty. open_latch s e (g counts) (g event_parts) named kind ty there)
    (λ f. open_unless s e (g counts) (g event_parts) named kind there f)

-- operation 7
pub later_release : (s : Session) (caller b : ℕ) → Later s (release s caller b)
unfolding release
later_release s caller b = later_let_go caller (λ k. k ≐ b) (later_same s)

-- operation 8
module _ (s : Session) (g : Sound s) (caller h : ℕ) (m : Checked (destroy_checks s caller h)) where
  named : Holds (made s h)
  named = m 9

  there : Holds (is_gone s h) → ⊥
  there = m 11

  later_destroy_task : s Kind h ≡ task → Later s (destroy_task s h)
  unfolding destroy_task put
  later_destroy_task k =
      let low : s TaskState h ≤ resolved = m 16 k in
      let r = put s TaskState h task_destroyed in
      let x : Later s (put s TaskState h task_destroyed) = later_put TaskState h task_destroyed (later_same s) (λ l. omega arith) in
      later_fire_finished
      (choose_case (Later s) (s TaskOutput h ≐ 1) (destroy_event r (h + 1)) r
      (λ w. later_destroy_event (h + 1) x (output_stands s h (g outputs) named k w)) (λ w. x))

  later_destroy_block : Later s (destroy_block s caller h)
  unfolding destroy_block
  later_destroy_block =
      let r = release s caller h in
      let low : s BlockState h ≤ 1 = block_stands s h (g counts) (g block_parts) named there in
      later_put BlockState h (choose (is_held r h) doomed block_destroyed) (later_release s caller h)
      (choose_case (λ (v : ℕ). Lasts s BlockState h (s BlockState h) v) (is_held r h) doomed block_destroyed (λ f l. omega arith)
      (λ f l. omega arith))

  event_stands : s Kind h ≡ event → s EventState h ≡ 4 → ⊥
  event_stands k e = there (inr (inr (inl (k, inl (omega arith)))))

  template_stands : s Kind h ≡ template → s TemplateState h ≤ 2
  template_stands k = go (decide (2 ≼ s TemplateState h))
    where
      go : Case (2 ≼ s TemplateState h) → s TemplateState h ≤ 2
      go (it_does c) = absurd (there (inl (k, c)))
      go (it_does_not c) = omega arith

  pub later_destroy : Later s (destroy s caller h)
  unfolding destroy
  later_destroy =
      choose_case (Later s) (is_kind s template h) (put s TemplateState h 2)
      (choose (is_kind s task h) (destroy_task s h) (choose (is_kind s event h) (destroy_event s h) (destroy_block s caller h)))
      (λ k. later_put TemplateState h 2 (later_same s) (λ l. template_stands k))
      (λ n. choose_case (Later s) (is_kind s task h) (destroy_task s h)
      (choose (is_kind s event h) (destroy_event s h) (destroy_block s caller h)) later_destroy_task
      (λ o. choose_case (Later s) (is_kind s event h) (destroy_event s h) (destroy_block s caller h)
      (λ k. later_destroy_event h (later_same s) (event_stands k)) (λ k. later_destroy_block)))

-- operation 9
module _ (s : Session) (g : Sound s) (l : ℕ) (m : Checked (deliver_checks s l)) where
  is-ready : s LinkState l ≡ ready
  is-ready = m 16

  link : AllOf (link_row l) s
  link = link_at_lem s l (g links) (m 9)

  target_takes : (Holds (is_gone s (s LinkTarget l)) → ⊥) → Takes s (s LinkTarget l) (s LinkSlot l)
  target_takes there =
      let d = s LinkTarget l in
      let j = s LinkSlot l in
      let here = slot_of s d j (g counts) (g task_parts) (g slots) (link target_made) (link has_slot_lem) in
      let undone : s LinkState l ≡ delivered → ⊥ = λ e. let r = is-ready in omega arith in
      takes s d j g (link target_made) (link target_kind) there (link has_slot_lem)
      (λ k. awaited_mark s d j l here k there (let n = m 9 in omega arith) (refl, refl) undone)

  later_bring : Later s (bring s l)
  unfolding bring drops put
  later_bring =
      let d = s LinkTarget l in
      let j = s LinkSlot l in
      let r = put s LinkState l delivered in
      let x : Later s (put s LinkState l delivered) = later_put LinkState l delivered (later_same s)
      (λ n. (λ e. refl, λ e. let q = is-ready in absurd (omega arith), λ e. inr refl)) in
      choose_case (Later s) (drops s d j) (put r Dropped 0 (s Dropped 0 + 1)) (satisfy r d j (s EventPayload (s LinkSource l)))
      (λ y. later_put Dropped 0 (s Dropped 0 + 1) x (omega arith))
      (λ n. later_satisfy d j (s EventPayload (s LinkSource l)) x (target_takes (λ y. n (inl y))))

pub later_deliver : (s : Session) → Sound s → (l : ℕ) → Checked (deliver_checks s l) → Later s (deliver s l)
unfolding deliver
later_deliver s g l m =
    later_then (later_expire s g l m) (later_bring (expire s l) (expire-sound s l m g) l (still-checked s l m))

-- operations 10, 11, 12
pub later_grant : (s : Session) (t : ℕ) → Checked (grant_checks s t) → Later s (grant s t)
unfolding grant
later_grant s t m =
    let q : s TaskState t ≡ resolved = m 16 in
    later_put TaskState t granted (later_change SlotMark (λ i. choose (picks i) held (s SlotMark i)) (later_same s) marks)
    (λ l. omega arith)
  where
    picks : ℕ → Formula
    picks i = (i / 16 ≐ t) and (1 ≼ s SlotPayload i)

    marks : (i : ℕ) → Lasts s SlotMark i (s SlotMark i) (choose (picks i) held (s SlotMark i))
    marks i =
        choose_case (λ (v : ℕ). Lasts s SlotMark i (s SlotMark i) v) (picks i) held (s SlotMark i) (λ f l. omega arith) (λ f l. l)

pub later_start : (s : Session) (t : ℕ) → Checked (start_checks s t) → Later s (start s t)
unfolding start
later_start s t m = let q : s TaskState t ≡ granted = m 16 in later_put TaskState t running (later_same s) (λ l. omega arith)

pub later_end : (s : Session) → Sound s → (t b : ℕ) → Checked (end_checks s t b) → Later s (end s t b)
unfolding end let_go bury_doomed put change
later_end s g t b m =
    let q : s TaskState t ≡ running = m 16 in
    let r = put (let_go s t (λ k. 0 ≐ 0)) TaskState t ended in
    let x : Later s (put (let_go s t (λ k. 0 ≐ 0)) TaskState t ended) = later_put TaskState t ended
    (later_let_go t (λ k. 0 ≐ 0) (later_same s)) (λ l. omega arith) in
    later_fire_finished
    (choose_case (Later s) (s TaskOutput t ≐ 1 and s TaskFinish t ≐ 0) (fire_one r (t + 1) b) r
    (λ y. later_fire_one (t + 1) b x
    (open_output s t (g counts) (g event_parts) (g outputs) (m 9).0 (m 10).0 y.0 (omega arith))) (λ y. x))
