-- Each accepted delivery, grant, start and end takes exactly one step from what is left: what it satisfies and fires beside
-- makes waiting tasks resolved and open links ready, and both have as many steps left as before.
use Rattle.std.specs.Prelude.{ℕ, ◌+◌, ◌≤◌, ◌≡◌, refl}
use Rattle.std.proofs.Common.{ap, sym, ◌∙◌, inl, inr, arith}
use Rattle.session.specs.Table.{Session, put, change}
use Rattle.session.specs.declared.Field.TheVariants.{Dropped, Kind, TaskState, TaskFinish, TaskOutput, EventTally, LinkTarget}
use Rattle.session.specs.declared.Field.TheVariants.{LinkSlot, LinkState}
use Rattle.session.specs.Names.{task, waiting, resolved, granted, running, ended, delivered}
use Rattle.rules.specs.Formula.{Formula, Holds, choose, Formula.◌≐◌, Formula.◌and◌}
use Rattle.rules.specs.Reading.{is_gone, is_undelivered}
use Rattle.rules.specs.Checks.{deliver_checks, grant_checks, start_checks, end_checks}
use Rattle.rules.specs.Effects.{fire, fire_one, fire_finished, satisfy_slot, satisfy_event, drops, bring, expire, deliver, grant, start, end, let_go}
use Rattle.rules.specs.Effects.{bury_doomed}
use Rattle.rules.specs.Sound.{kept}
use Rattle.rules.specs.FormulaLaws.{choose_case}
use Rattle.laws.specs.Frame.{AllOf}
use Rattle.laws.specs.Rows.Name.{counts, task_parts, slots, links, states}
use Rattle.laws.specs.Keeping.{Kept}
use Rattle.laws.specs.ByName.{by_name}
use Rattle.laws.specs.Conjuncts.{link_row, Linked.target_made, Linked.has_slot_lem}
use Rattle.laws.specs.Met.{Checked}
use Rattle.laws.specs.Standing.{waits as is_waiting, awaited_mark, slot_of, link_at_lem}
use Rattle.laws.specs.SlotPlaces.{task-slot}
use Rattle.laws.specs.Moving.{move}
use Rattle.laws.specs.MarkLink.{handed}
use Rattle.laws.specs.Firing.{LinkAfter, link_after, LinkAfter.ready_now, LinkAfter.as_was}
use Rattle.laws.specs.SatisfyEvent.{EventSatisfied, event-satisfied, EventSatisfied.latch_counts}
use Rattle.laws.specs.SatisfyEvent.{EventSatisfied.latch_fires, EventSatisfied.nothing_more_lem, EventSatisfied.event_fires}
use Rattle.laws.specs.FillSlot.{StateAfter, state-after, StateAfter.other, StateAfter.waits, StateAfter.moved}
use Rattle.laws.specs.Expire.{expire_keeps, still-checked}
use Rattle.laws.specs.Deliver.{Delivered, delivery, Delivered.drops_it, Delivered.fills_task, Delivered.fills_event}
use Rattle.laws.specs.Left.{left, left-same, moved_left, handed-left}

-- a firing makes open links ready
fire-left : (s : Session) (fires : ℕ → Formula) (payload : ℕ → ℕ) → left (fire s fires payload) ≡ left s
unfolding fire change
fire-left s fires payload =
    left-same s (fire s fires payload) (record {
      objects = refl;
      links = refl;
      kinds = λ h. refl;
      still_up_to = λ k t h e. e;
      was_up_to = λ k t h e. e;
      still_undelivered = λ l. still l (link_after s fires payload l);
      was_undelivered = λ l. was l (link_after s fires payload l);
    })
  where
    still : (l : ℕ) → LinkAfter s fires payload l → Holds (is_undelivered s l) → Holds (is_undelivered (fire s fires payload) l)
    still l (ready_now o f e) x = inr e
    still l (as_was n e) x = rw e x

    was : (l : ℕ) → LinkAfter s fires payload l → Holds (is_undelivered (fire s fires payload) l) → Holds (is_undelivered s l)
    was l (ready_now o f e) x = inl o
    was l (as_was n e) x = rw e at x

fire_one-left : (s : Session) (e p : ℕ) → left (fire_one s e p) ≡ left s
unfolding fire_one
fire_one-left s e p = fire-left s (λ k. k ≐ e) (λ k. p)

fire_finished-left : (s : Session) → left (fire_finished s) ≡ left s
unfolding fire_finished
fire_finished-left s = fire-left s _ (λ e. 0)

-- the places that `left` does not read
tally-left : (s : Session) (e n : ℕ) → left (put s EventTally e n) ≡ left s
unfolding put left
tally-left s e n = refl

dropped-left : (s : Session) (n : ℕ) → left (put s Dropped 0 n) ≡ left s
unfolding put left
dropped-left s n = refl

let_go-left : (s : Session) (t : ℕ) (which : ℕ → Formula) → left (let_go s t which) ≡ left s
unfolding let_go bury_doomed change left
let_go-left s t which = refl

-- a satisfaction of an event
satisfy_event-left : (s : Session) (e j p : ℕ) → left (satisfy_event s e j p) ≡ left s
satisfy_event-left s e j p = go (event-satisfied s e j p)
  where
    go : EventSatisfied s e j p → left (satisfy_event s e j p) ≡ left s
    go (latch_counts t n q) = rw q (tally-left s e _)
    go (latch_fires t n q) = rw q (fire_one-left _ e 0 ∙ tally-left s e _)
    go (nothing_more_lem t f q) = rw q
    go (event_fires t f q) = rw q (fire_one-left s e p)

-- a satisfaction of a waiting task
satisfy_slot-left : (s : Session) (t j p : ℕ) → s TaskState t ≡ waiting → left (satisfy_slot s t j p) ≡ left s
unfolding satisfy_slot put
satisfy_slot-left s t j p w =
    left-same s (satisfy_slot s t j p) (record {
      objects = refl;
      links = refl;
      kinds = λ h. refl;
      still_up_to = λ k i h. still k i h (state-after s t j p i);
      was_up_to = λ k i h. was k i h (state-after s t j p i);
      still_undelivered = λ l x. x;
      was_undelivered = λ l x. x;
    })
  where
    still : (k i : ℕ) → resolved ≤ k → StateAfter s t j p i → s TaskState i ≤ k → satisfy_slot s t j p TaskState i ≤ k
    still k i h (other n e) x = omega arith
    still k i h (waits q e n) x = omega arith
    still k i h (moved q e n) x = omega arith

    was : (k i : ℕ) → resolved ≤ k → StateAfter s t j p i → satisfy_slot s t j p TaskState i ≤ k → s TaskState i ≤ k
    was k i h (other n e) x = omega arith
    was k i h (waits q e n) x = let z : s TaskState i ≡ waiting = rw (← q) w in omega arith
    was k i h (moved q e n) x = let z : s TaskState i ≡ waiting = rw (← q) w in omega arith

-- a delivery: the link is delivered, and what it satisfies has as much left
bring_falls : (s : Session) (l : ℕ) → Checked (deliver_checks s l) → Kept s → left s ≡ 1 + left (bring s l)
unfolding drops put
bring_falls s l m r = handed-left s l (m 9).1 (m 16) ∙ ap (λ (n : ℕ). 1 + n) (sym (go (delivery s l)))
  where
    link : AllOf (link_row l) s
    link = link_at_lem s l (r links) (m 9)

    -- the task that it leads to waits, as its slot is not satisfied
    still-waits : (Holds (drops s (s LinkTarget l) (s LinkSlot l)) → ⊥) → s Kind (s LinkTarget l) ≡ task
        → handed s l TaskState (s LinkTarget l) ≡ waiting
    still-waits n e =
        let t = s LinkTarget l in
        let j = s LinkSlot l in
        let has = link has_slot_lem in
        let there : Holds (is_gone s t) → ⊥ = λ g. n (inl g) in
        let undone : s LinkState l ≡ delivered → ⊥ = λ q. let w = m 16 in omega arith in
        let here = slot_of s t j (r counts) (r task_parts) (r slots) (link target_made) has in
        let mark = awaited_mark s t j l here e there (let h = (m 9).1 in omega arith) (refl, refl) undone in
        is_waiting s t j (r counts) (r task_parts) (r states) (link target_made) e there (task-slot s t j e has) mark

    go : Delivered s l → left (bring s l) ≡ left (handed s l)
    go (drops_it x e) = rw e (dropped-left (handed s l) _)
    go (fills_task n q e) = rw e (satisfy_slot-left (handed s l) _ _ _ (still-waits n q))
    go (fills_event n q e) = rw e (satisfy_event-left (handed s l) _ _ _)

-- an event that goes with it leaves as much
expire-left : (s : Session) (l : ℕ) → left (expire s l) ≡ left s
unfolding expire put left
expire-left s l = refl

pub deliver_falls : (s : Session) (l : ℕ) → Checked (deliver_checks s l) → Holds (kept s) → left s ≡ 1 + left (deliver s l)
unfolding deliver
deliver_falls s l m k =
    sym (expire-left s l) ∙ bring_falls (expire s l) l (still-checked s l m) (expire_keeps s l m (by_name s k))

-- a grant: from resolved to granted
pub grant_falls : (s : Session) (t : ℕ) → Checked (grant_checks s t) → left s ≡ 1 + left (grant s t)
unfolding grant put change left
grant_falls s t m = moved_left s t resolved (m 9).1 (m 10) (m 16) (omega arith) (omega arith)

-- a start: from granted to running
pub start_falls : (s : Session) (t : ℕ) → Checked (start_checks s t) → left s ≡ 1 + left (start s t)
unfolding start
start_falls s t m = moved_left s t granted (m 9).1 (m 10) (m 16) (omega arith) (omega arith)

-- an end: from running to ended
pub end_falls : (s : Session) (t b : ℕ) → Checked (end_checks s t b) → left s ≡ 1 + left (end s t b)
unfolding end let_go bury_doomed change
end_falls s t b m =
    sym (let_go-left s t (λ k. 0 ≐ 0))
    ∙ moved_left r t running (m 9).0.1 (m 10).0 (m 16) (omega arith) (omega arith)
    ∙ ap (λ (n : ℕ). 1 + n) (sym (fire_finished-left _ ∙ first))
  where
    r : Session
    r = let_go s t (λ k. 0 ≐ 0)

    plain_output : Formula
    plain_output = s TaskOutput t ≐ 1 and s TaskFinish t ≐ 0

    own : Session
    own = fire_one (move r t ended) (t + 1) b

    first : left (choose plain_output own (move r t ended)) ≡ left (move r t ended)
    first =
        choose_case (λ (q : Session). left q ≡ left (move r t ended)) plain_output own (move r t ended)
        (λ h. fire_one-left (move r t ended) (t + 1) b) (λ n. refl)
