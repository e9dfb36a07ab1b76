-- What no effect undoes. Each lemma adds one effect to what was done since the session s.
use Rattle.std.specs.Prelude.{ℕ, ◌+◌, ◌/◌, ◌≤◌, ◌<◌, ◌≡◌, refl, ◌⊎◌}
use Rattle.std.proofs.Common.{inl, inr, arith}
use Rattle.session.specs.Table.{Session, put}
use Rattle.session.specs.declared.Field.TheVariants.{Objects, Links, Kind, TemplateState, TemplateCount, TaskState, TaskCreator}
use Rattle.session.specs.declared.Field.TheVariants.{TaskSlots, TaskFinish, TaskOutput, EventState, EventType, EventPayload}
use Rattle.session.specs.declared.Field.TheVariants.{EventTally, EventCount, BlockState, BlockCreator, BlockHeld, SlotMark, SlotPayload}
use Rattle.session.specs.declared.Field.TheVariants.{LinkSource, LinkTarget, LinkSlot, LinkState}
use Rattle.rules.specs.Formula.{Formula, Holds, not, choose, Formula.◌≐◌, Formula.◌≼◌, Formula.◌and◌, Formula.each}
use Rattle.rules.specs.FormulaLaws.{choose_case}
use Rattle.session.specs.Names.{template, task, event, block, fresh, waiting, resolved, event_open, fired, destroyed_unfired}
use Rattle.session.specs.Names.{destroyed_fired, doomed, block_destroyed, link_open, ready, delivered, cut, latch, output, satisfied}
use Rattle.session.specs.Names.{held, even_tally}
use Rattle.rules.specs.Reading.{at, is_held}
use Rattle.rules.specs.Effects.{new, new_template, new_event, new_task, make_task, new_block, fire, fire_one, satisfy_slot, satisfy_event}
use Rattle.rules.specs.Effects.{new_link, bury_doomed, let_go, destroy_event, finishes, fire_finished}
use Rattle.laws.specs.SatisfyEvent.{EventSatisfied, event-satisfied, EventSatisfied.latch_counts}
use Rattle.laws.specs.SatisfyEvent.{EventSatisfied.latch_fires, EventSatisfied.nothing_more_lem, EventSatisfied.event_fires}
use Rattle.laws.specs.Conjuncts.{finishes_by_name}
use Rattle.laws.specs.Lasting.{HadFired, Lasts, Later, later_same, later_put, later_change}

-- a new object under a handle past the count
pub later_new : {s r : Session} (h kind : ℕ) → Later s r → s Objects 0 < h → Later s (new r h kind)
unfolding new
later_new {s} {r} h kind x l = later_put Kind h kind (later_put Objects 0 h x (omega arith)) (omega arith)

pub later_new_template : (s : Session) (n : ℕ) → Later s (new_template s n)
unfolding new_template
later_new_template s n =
    let h = s Objects 0 + 1 in
    later_put TemplateCount h n
    (later_put TemplateState h fresh (later_new h template (later_same s) (omega arith)) (omega arith)) (omega arith)

pub later_new_event : {s r : Session} (h ty n : ℕ) → Later s r → s Objects 0 < h → Later s (new_event r h ty n)
unfolding new_event
later_new_event {s} {r} h ty n x l =
    later_put EventCount h n
    (later_put EventTally h (choose (ty ≐ latch) even_tally 0)
    (later_put EventType h ty (later_put EventState h event_open (later_new h event x l) (λ m. absurd (past m))) (omega arith)) tt)
    (λ m. absurd (past m))
  where
    past : h ≤ s Objects 0 → ⊥
    past m = omega arith

pub later_new_block : (s : Session) (caller hold : ℕ) → Later s (new_block s caller hold)
unfolding new_block
later_new_block s caller hold =
    let h = s Objects 0 + 1 in
    later_put BlockHeld h hold
    (later_put BlockCreator h caller
    (later_put BlockState h fresh (later_new h block (later_same s) (omega arith)) (omega arith)) (omega arith)) (omega arith)

later_new_task : (s : Session) (caller h n finish out : ℕ) → s Objects 0 < h → Later s (new_task s caller h n finish out)
unfolding new_task
later_new_task s caller h n finish out l =
    later_put TaskOutput h out
    (later_put TaskFinish h finish
    (later_put TaskSlots h n
    (later_put TaskCreator h caller
    (later_put TaskState h (choose (n ≐ 0) resolved waiting) (later_new h task (later_same s) l) (omega arith)) (omega arith))
    (omega arith)) (omega arith)) (omega arith)

pub later_make_task : (s : Session) (caller n finish out : ℕ) → Later s (make_task s caller n finish out)
unfolding make_task
later_make_task s caller n finish out =
    let h = s Objects 0 + 1 in
    let t = new_task s caller h n finish out in
    let x = later_new_task s caller h n finish out (omega arith) in
    choose_case (Later s) (out ≐ 1) (new_event t (h + 1) output 0) t (λ y. later_new_event (h + 1) output 0 x (omega arith)) (λ y. x)

-- the states of a link that a firing or a cut leaves alone
no_open : (n : ℕ) → n ≡ link_open → (n ≡ delivered → ⊥) × (n ≡ cut → ⊥) × (n ≡ ready → ⊥)
no_open n e = omega arith

-- a link that is open after what was done was open before, so anything may become of it
open_link : {s r : Session} (l v : ℕ) → Later s r → r LinkState l ≡ link_open → Lasts s LinkState l (s LinkState l) v
open_link {s} {r} l v x o m =
    let y = x.lasts LinkState l m in
    let n = no_open (r LinkState l) o in
    (λ d. absurd (n.0 (y.0 d)), λ d. absurd (n.1 (y.1 d)), λ d. absurd (neither (y.2 d)))
  where
    neither : (r LinkState l ≡ ready) ⊎ (r LinkState l ≡ delivered) → ⊥
    neither (inl e) = (no_open (r LinkState l) o).2 e
    neither (inr e) = (no_open (r LinkState l) o).0 e

-- an event that is open after what was done had not fired
open_event : {s r : Session} (e : ℕ) → Later s r → e ≤ s Objects 0 → r EventState e ≡ event_open
    → (HadFired (s EventState e) → ⊥) × (s EventState e ≡ destroyed_unfired → ⊥)
open_event {s} {r} e x l o =
    (λ h. neither ((x.lasts EventState e l).0 h), λ h. let y = (x.lasts EventState e l).1 h in omega arith)
  where
    neither : HadFired (r EventState e) → ⊥
    neither (inl h) = omega arith
    neither (inr h) = omega arith

-- a firing of open events
pub later_fire : {s r : Session} (fires : ℕ → Formula) (payload : ℕ → ℕ) → Later s r
    → ((e : ℕ) → Holds (fires e) → r EventState e ≡ event_open) → Later s (fire r fires payload)
unfolding fire
later_fire {s} {r} fires payload x opens =
    later_change LinkState (λ l. choose (picks l) ready (r LinkState l))
    (later_change EventPayload (λ e. choose (fires e) (payload e) (r EventPayload e))
    (later_change EventState (λ e. choose (fires e) fired (r EventState e)) x states) payloads) links
  where
    picks : ℕ → Formula
    picks l = (r LinkState l ≐ link_open) and fires (r LinkSource l)

    states : (e : ℕ) → Lasts s EventState e (s EventState e) (choose (fires e) fired (r EventState e))
    states e =
        choose_case (λ (v : ℕ). Lasts s EventState e (s EventState e) v) (fires e) fired (r EventState e)
        (λ f l. let y = open_event e x l (opens e f) in (λ h. absurd (y.0 h), λ h. absurd (y.1 h))) (λ f. x.lasts EventState e)

    payloads : (e : ℕ) → Lasts s EventPayload e (s EventPayload e) (choose (fires e) (payload e) (r EventPayload e))
    payloads e =
        choose_case (λ (v : ℕ). Lasts s EventPayload e (s EventPayload e) v) (fires e) (payload e) (r EventPayload e)
        (λ f l h. absurd ((open_event e x l (opens e f)).0 h)) (λ f. x.lasts EventPayload e)

    links : (l : ℕ) → Lasts s LinkState l (s LinkState l) (choose (picks l) ready (r LinkState l))
    links l =
        choose_case (λ (v : ℕ). Lasts s LinkState l (s LinkState l) v) (picks l) ready (r LinkState l)
        (λ f. open_link l ready x f.0) (λ f. x.lasts LinkState l)

pub later_fire_one : {s r : Session} (e p : ℕ) → Later s r → r EventState e ≡ event_open → Later s (fire_one r e p)
unfolding fire_one
later_fire_one e p x o = later_fire (λ k. k ≐ e) (λ k. p) x (λ k q. rw q o)

pub later_fire_finished : {s r : Session} → Later s r → Later s (fire_finished r)
unfolding fire_finished
later_fire_finished {s} {r} x = later_fire (finishes r) (λ e. 0) x (λ e f. (finishes_by_name r e f).unfired)

-- an event is destroyed that was not destroyed after it had fired
pub later_destroy_event : {s r : Session} (e : ℕ) → Later s r → (r EventState e ≡ destroyed_fired → ⊥) → Later s (destroy_event r e)
unfolding destroy_event put
later_destroy_event {s} {r} e x n =
    later_change LinkState (λ l. choose (cuts l) cut (r LinkState l))
    (later_put EventState e (choose (r EventState e ≐ fired) destroyed_fired destroyed_unfired) x state) links
  where
    cuts : ℕ → Formula
    cuts l = (r LinkSource l ≐ e) and (r LinkState l ≐ link_open)

    had_not : (r EventState e ≡ fired → ⊥) → HadFired (r EventState e) → ⊥
    had_not f (inl h) = f h
    had_not f (inr h) = n h

    state : Lasts s EventState e (s EventState e) (choose (r EventState e ≐ fired) destroyed_fired destroyed_unfired)
    state =
        choose_case (λ (v : ℕ). Lasts s EventState e (s EventState e) v) (r EventState e ≐ fired) destroyed_fired destroyed_unfired
        (λ f l. (λ h. inr refl, λ h. let y = (x.lasts EventState e l).1 h in absurd (two-states f y)))
        (λ f l. (λ h. absurd (had_not f ((x.lasts EventState e l).0 h)), λ h. refl))
      where
        two-states : r EventState e ≡ fired → r EventState e ≡ destroyed_unfired → ⊥
        two-states a b = omega arith

    links : (l : ℕ) → Lasts s LinkState l (s LinkState l) (choose (cuts l) cut (r LinkState l))
    links l =
        choose_case (λ (v : ℕ). Lasts s LinkState l (s LinkState l) v) (cuts l) cut (r LinkState l)
        (λ f. open_link l cut x f.1) (λ f. x.lasts LinkState l)

-- holds end
later_bury_doomed : {s r : Session} → Later s r → Later s (bury_doomed r)
unfolding bury_doomed
later_bury_doomed {s} {r} x = later_change BlockState (λ b. choose (goes b) block_destroyed (r BlockState b)) x states
  where
    goes : ℕ → Formula
    goes b = r BlockState b ≐ doomed and not (is_held r b)

    states : (b : ℕ) → Lasts s BlockState b (s BlockState b) (choose (goes b) block_destroyed (r BlockState b))
    states b =
        choose_case (λ (v : ℕ). Lasts s BlockState b (s BlockState b) v) (goes b) block_destroyed (r BlockState b)
        (λ f l. let y = x.lasts BlockState b l in let e : r BlockState b ≡ doomed = f.0 in omega arith)
        (λ f. x.lasts BlockState b)

pub later_let_go : {s r : Session} (t : ℕ) (which : ℕ → Formula) → Later s r → Later s (let_go r t which)
unfolding let_go
later_let_go {s} {r} t which x =
    later_bury_doomed
    (later_change BlockHeld (λ b. choose (made_by b) 0 (r BlockHeld b))
    (later_change SlotMark (λ i. choose (goes i) satisfied (r SlotMark i)) x marks) helds)
  where
    goes : ℕ → Formula
    goes i = (i / 16 ≐ t) and (r SlotMark i ≐ held) and which (r SlotPayload i)

    made_by : ℕ → Formula
    made_by b = r BlockCreator b ≐ t and which b

    marks : (i : ℕ) → Lasts s SlotMark i (s SlotMark i) (choose (goes i) satisfied (r SlotMark i))
    marks i =
        choose_case (λ (v : ℕ). Lasts s SlotMark i (s SlotMark i) v) (goes i) satisfied (r SlotMark i) (λ f l. omega arith)
        (λ f. x.lasts SlotMark i)

    helds : (b : ℕ) → Lasts s BlockHeld b (s BlockHeld b) (choose (made_by b) 0 (r BlockHeld b))
    helds b =
        choose_case (λ (v : ℕ). Lasts s BlockHeld b (s BlockHeld b) v) (made_by b) 0 (r BlockHeld b) (λ f l. omega arith)
        (λ f. x.lasts BlockHeld b)

-- an unsatisfied slot of a waiting task is satisfied
pub later_satisfy_slot : {s r : Session} (t j p : ℕ) → Later s r → r SlotMark (at t j) ≡ 0 → r TaskState t ≡ waiting
    → Later s (satisfy_slot r t j p)
unfolding satisfy_slot
later_satisfy_slot {s} {r} t j p x z w =
    later_put TaskState t (choose all resolved (r TaskState t))
    (later_put SlotPayload (at t j) p (later_put SlotMark (at t j) satisfied x (λ l. omega arith))
    (λ l. let y = x.lasts SlotMark (at t j) l in absurd (omega arith))) state
  where
    all : Formula
    all = each (r TaskSlots t) (λ k. 1 ≼ put (put r SlotMark (at t j) satisfied) SlotPayload (at t j) p SlotMark (at t k))

    state : Lasts s TaskState t (s TaskState t) (choose all resolved (r TaskState t))
    state =
        choose_case (λ (v : ℕ). Lasts s TaskState t (s TaskState t) v) all resolved (r TaskState t)
        (λ f l. let y = x.lasts TaskState t l in omega arith) (λ f. x.lasts TaskState t)

-- an event is satisfied that is open, or has fired and is no latch
pub later_satisfy_event : {s r : Session} (e j p : ℕ) → Later s r → (r EventType e ≡ latch → r EventState e ≡ event_open)
    → ((r EventState e ≡ fired → ⊥) → r EventState e ≡ event_open) → Later s (satisfy_event r e j p)
unfolding put
later_satisfy_event {s} {r} e j p x a b = go (event-satisfied r e j p)
  where
    go : EventSatisfied r e j p → Later s (satisfy_event r e j p)
    go (latch_counts y z q) = rw q (later_put EventTally e _ x tt)
    go (latch_fires y z q) = rw q (later_fire_one e 0 (later_put EventTally e _ x tt) (a y))
    go (nothing_more_lem y f q) = rw q x
    go (event_fires y f q) = rw q (later_fire_one e p x (b f))

-- a new link under a number past the count
pub later_new_link : {s r : Session} (source d j : ℕ) → Later s r → Later s (new_link r source d j)
unfolding new_link
later_new_link {s} {r} source d j x =
    let grown = x.lasts Links 0 in
    let l = r Links 0 + 1 in
    later_put LinkState l (choose (r EventState source ≐ fired) ready link_open)
    (later_put LinkSlot l j
    (later_put LinkTarget l d (later_put LinkSource l source (later_put Links 0 l x (omega arith)) (omega arith)) (omega arith))
    (omega arith))
    (λ m. absurd (past m))
  where
    past : r Links 0 + 1 ≤ s Links 0 → ⊥
    past m = let grown = x.lasts Links 0 in omega arith
