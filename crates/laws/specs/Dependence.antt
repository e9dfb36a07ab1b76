-- A dependence (operation 5) keeps a session kept: it makes a link, or satisfies now. A task's slot is claimed first, and set
-- apart until then.
use Rattle.std.specs.Prelude.{ℕ, ◌+◌, ◌≤◌, ◌<◌, ◌≡◌, refl, ◌⊎◌}
use Rattle.std.proofs.Common.{ap, ◌∙◌, inl, inr, arith}
use Rattle.session.specs.Table.{Session, put}
use Rattle.session.specs.declared.Field.TheVariants.{Links, Kind, TaskSlots, EventState, SlotMode}
use Rattle.rules.specs.Formula.{Holds, choose, Formula.◌≐◌, Formula.◌or◌}
use Rattle.rules.specs.FormulaLaws.{Case, decide, choose_yes, choose_no, Case.it_does, Case.it_does_not}
use Rattle.session.specs.Names.{task, event, block, event_open, fired, most_links}
use Rattle.rules.specs.Reading.{made, at, is_kind, is_gone, is_user_event, has_slot, overflows, has_its_count}
use Rattle.rules.specs.Checks.{dependence_checks, or_null, remains, makes_link}
use Rattle.rules.specs.Effects.{claim, new_link, satisfy, satisfy_slot, satisfy_event, depend}
use Rattle.rules.specs.Sound.{is_payload, slot, no_slot, unclaimed}
use Rattle.laws.specs.Places.{put-here}
use Rattle.laws.specs.Met.{Checked}
use Rattle.laws.specs.Rows.Name.{counts, kinds, task_parts, event_parts, slots, states}
use Rattle.laws.specs.Keeping.{Kept}
use Rattle.laws.specs.Conjuncts.{Unclaimed, unclaimed_by_name}
use Rattle.laws.specs.SlotPlaces.{task-slot, low_slot}
use Rattle.laws.specs.Apart.{Apart, apart}
use Rattle.laws.specs.Claim.{is-unclaimed, claim_apart}
use Rattle.laws.specs.Standing.{made_low, open_unless, waits}
use Rattle.laws.specs.FillSlot.{Vacant, fill_keeps}
use Rattle.laws.specs.NewLink.{Linkable, Spot, new_link_keeps, Spot.of_a_task, Spot.of_an_event}
use Rattle.laws.specs.SatisfyEvent.{satisfy_event_keeps}

-- the session with slot j of t claimed
abbrev pub claimed_for : Session → ℕ → ℕ → ℕ → Session
claimed_for s t j mode = put s SlotMode (at t j) mode

-- the four things that a dependence can do
pub data Depended (s : Session) (source d j mode : ℕ) : Type 0 where
  links_task : s Kind source ≡ event → s Kind d ≡ task
      → depend s source d j mode ≡ new_link (claimed_for s d j mode) source d j → Depended s source d j mode
  links_event : s Kind source ≡ event → (s Kind d ≡ task → ⊥)
      → depend s source d j mode ≡ new_link s source d j → Depended s source d j mode
  fills_task : (s Kind source ≡ event → ⊥) → s Kind d ≡ task
      → depend s source d j mode ≡ satisfy_slot (claimed_for s d j mode) d j source → Depended s source d j mode
  fills_event : (s Kind source ≡ event → ⊥) → (s Kind d ≡ task → ⊥)
      → depend s source d j mode ≡ satisfy_event s d j source → Depended s source d j mode

pub depended : (s : Session) (source d j mode : ℕ) → Depended s source d j mode
unfolding depend claim satisfy put
depended s source d j mode = go (decide (makes_link s source)) (decide (is_kind s task d))
  where
    after-claim : Session → Session
    after-claim r = choose (makes_link s source) (new_link r source d j) (satisfy r d j source)

    claims : s Kind d ≡ task → depend s source d j mode ≡ after-claim (claimed_for s d j mode)
    claims k = ap after-claim (choose_yes (is_kind s task d) (claimed_for s d j mode) s k)

    passes_by : (s Kind d ≡ task → ⊥) → depend s source d j mode ≡ after-claim s
    passes_by k = ap after-claim (choose_no (is_kind s task d) (claimed_for s d j mode) s k)

    links : (r : Session) → s Kind source ≡ event → after-claim r ≡ new_link r source d j
    links r e = choose_yes (makes_link s source) (new_link r source d j) (satisfy r d j source) e

    fills : (r : Session) → (s Kind source ≡ event → ⊥) → after-claim r ≡ satisfy r d j source
    fills r e = choose_no (makes_link s source) (new_link r source d j) (satisfy r d j source) e

    go : Case (makes_link s source) → Case (is_kind s task d) → Depended s source d j mode
    go (it_does e) (it_does k) = links_task e k (claims k ∙ links (claimed_for s d j mode) e)
    go (it_does e) (it_does_not k) = links_event e k (passes_by k ∙ links s e)
    go (it_does_not e) (it_does k) =
        let r = claimed_for s d j mode in
        let now = choose_yes (is_kind s task d) (satisfy_slot r d j source) (satisfy_event r d j source) k in
        fills_task e k (claims k ∙ fills r e ∙ now)
    go (it_does_not e) (it_does_not k) =
        let now = choose_no (is_kind s task d) (satisfy_slot s d j source) (satisfy_event s d j source) k in
        fills_event e k (passes_by k ∙ fills s e ∙ now)

-- what the checks say, by name
record Asked (s : Session) (source d j mode : ℕ) : Type 0 where
  mode_low : 1 ≤ mode
  mode_high : mode ≤ 4
  source_made : Holds (or_null s (made s) source)
  source_kind : Holds (or_null s (λ h. is_kind s block h or is_kind s event h) source)
  source_remains : Holds (or_null s (remains s) source)
  target_made : Holds (made s d)
  target_kind : Holds (is_kind s task d or is_user_event s d)
  target_remains : Holds (is_gone s d) → ⊥
  has_slot_lem : Holds (has_slot s d j)
  unclaimed_yet : s Kind d ≡ task → s SlotMode (at d j) ≡ 0
  fits : s Kind source ≡ event ⊎ (Holds (overflows s d j) → ⊥)
  spare : s Kind source ≡ event → Holds (has_its_count s source) → ⊥
  room : s Kind source ≡ event → s Links 0 + 1 ≤ most_links

asked : (s : Session) (caller source d j mode : ℕ) → Checked (dependence_checks s caller source d j mode)
    → Asked s source d j mode
asked s caller source d j mode m =
    record {
      mode_low = (m 7).0;
      mode_high = (m 7).1;
      source_made = (m 9).0;
      source_kind = (m 10).0;
      source_remains = (m 11).0;
      target_made = (m 9).1;
      target_kind = (m 10).1;
      target_remains = (m 11).1;
      has_slot_lem = m 12;
      unclaimed_yet = m 13;
      fits = m 19;
      spare = m 24;
      room = m 21;
    }

module _ (s : Session) (source d j mode : ℕ) (q : Asked s source d j mode) (h : Kept s) where
  -- a source that is no event is a payload
  source_payload : (s Kind source ≡ event → ⊥) → Holds (is_payload s source)
  source_payload n = go q.source_made q.source_kind
    where
      go : Holds (or_null s (made s) source) → Holds (or_null s (λ i. is_kind s block i or is_kind s event i) source)
          → Holds (is_payload s source)
      go (inl z) k = inl z
      go (inr m) (inl z) = inl z
      go (inr m) (inr (inl k)) = inr (m, k)
      go (inr m) (inr (inr k)) = absurd (n k)

  -- a source that is an event is made, and open or fired
  module _ (e : s Kind source ≡ event) where
    not_null : source ≡ 0 → ⊥
    not_null z = let k : s Kind source ≡ 0 = rw z (h kinds).0 in omega arith

    is_made : Holds (made s source)
    is_made = go q.source_made
      where
        go : Holds (or_null s (made s) source) → Holds (made s source)
        go (inl z) = absurd (not_null z)
        go (inr m) = m

    source_state : s EventState source ≡ event_open ⊎ s EventState source ≡ fired
    source_state = go q.source_remains (decide (s EventState source ≐ fired))
      where
        go : Holds (or_null s (remains s) source) → Case (s EventState source ≐ fired)
            → s EventState source ≡ event_open ⊎ s EventState source ≡ fired
        go (inl z) c = absurd (not_null z)
        go (inr there) (it_does f) = inr f
        go (inr there) (it_does_not n) = inl (open_unless s source (h counts) (h event_parts) is_made e there n)

    linkable : Linkable s source d j
    linkable =
        record {
          room = q.room e;
          source_made = is_made;
          source_event = e;
          source_state = source_state;
          source_spare = q.spare e;
          target_made = q.target_made;
          target_kind = q.target_kind;
          has_slot_lem = q.has_slot_lem;
        }

  low : j < 16
  low = low_slot s d j (h task_parts d (made_low s d (h counts) q.target_made)) q.has_slot_lem

  slot-was : Holds (slot s d j)
  slot-was = let m = q.target_made in h slots d (omega arith) j low

  -- a task's slot that is claimed now
  module _ (k : s Kind d ≡ task) where
    abbrev claims : Session
    claims = claimed_for s d j mode

    is_slot : j < s TaskSlots d
    is_slot = task-slot s d j k q.has_slot_lem

    free : Holds (unclaimed s d j)
    free = is-unclaimed s d j k is_slot (q.unclaimed_yet k) slot-was

    was : Unclaimed s d j
    was = unclaimed_by_name s d j free

    set_apart : Apart claims d j
    set_apart = claim_apart s d j mode q.target_made low free h

    mode_here : claims SlotMode (at d j) ≡ mode
    mode_here = put-here s SlotMode (at d j) (at d j) mode refl

    links_task_keeps : s Kind source ≡ event → Kept (new_link claims source d j)
    unfolding put
    links_task_keeps e = new_link_keeps claims source d j still_linkable spot set_apart
      where
        spot : Spot claims d j
        spot =
            of_a_task k is_slot (rw mode_here q.mode_low) (rw mode_here q.mode_high) was.no_mark was.no_payload
            was.none_leads

        still_linkable : Linkable claims source d j
        still_linkable =
            let x = linkable e in
            record {
              room = x.room;
              source_made = x.source_made;
              source_event = x.source_event;
              source_state = x.source_state;
              source_spare = x.source_spare;
              target_made = x.target_made;
              target_kind = x.target_kind;
              has_slot_lem = x.has_slot_lem;
            }

    fills_task_keeps : (s Kind source ≡ event → ⊥) → Kept (satisfy_slot claims d j source)
    unfolding put
    fills_task_keeps n = fill_keeps claims d j source vacant set_apart
      where
        vacant : Vacant claims d j source
        vacant =
            record {
              is_made = q.target_made;
              is_task = k;
              is_slot = is_slot;
              is_waiting =
                  waits s d j (h counts) (h task_parts) (h states) q.target_made k q.target_remains is_slot was.no_mark;
              has_mode = rw mode_here q.mode_low;
              has_range = rw mode_here q.mode_high;
              empty = was.no_mark;
              payload = source_payload n;
              no_more = λ l b y. absurd (was.none_leads l b y);
              brought = λ l b y. absurd (was.none_leads l b y);
            }

  -- an event's slot has no place of its own
  module _ (k : s Kind d ≡ task → ⊥) where
    user_event : Holds (is_user_event s d)
    user_event = go q.target_kind
      where
        go : Holds (is_kind s task d or is_user_event s d) → Holds (is_user_event s d)
        go (inl x) = absurd (k x)
        go (inr x) = x

    no_place : Holds (no_slot s (at d j))
    no_place = go slot-was
      where
        go : Holds (slot s d j) → Holds (no_slot s (at d j))
        go (inl x) = absurd (k x.0)
        go (inr x) = x.1

    links_event_keeps : s Kind source ≡ event → Kept (new_link s source d j)
    links_event_keeps e = new_link_keeps s source d j (linkable e) (of_an_event k no_place) (apart s d j h)

    fills_event_keeps : (s Kind source ≡ event → ⊥) → Kept (satisfy_event s d j source)
    fills_event_keeps n =
        satisfy_event_keeps s d j source q.target_made user_event q.target_remains q.has_slot_lem (fits q.fits)
        (source_payload n) h
      where
        fits : s Kind source ≡ event ⊎ (Holds (overflows s d j) → ⊥) → Holds (overflows s d j) → ⊥
        fits (inl e) = absurd (n e)
        fits (inr x) = x

pub dependence_keeps : (s : Session) (caller source d j mode : ℕ) → Checked (dependence_checks s caller source d j mode)
    → Kept s → Kept (depend s source d j mode)
dependence_keeps s caller source d j mode m h = go (depended s source d j mode)
  where
    q : Asked s source d j mode
    q = asked s caller source d j mode m

    go : Depended s source d j mode → Kept (depend s source d j mode)
    go (links_task e t x) = rw x (links_task_keeps s source d j mode q h t e)
    go (links_event e t x) = rw x (links_event_keeps s source d j mode q h t e)
    go (fills_task e t x) = rw x (fills_task_keeps s source d j mode q h t e)
    go (fills_event e t x) = rw x (fills_event_keeps s source d j mode q h t e)
