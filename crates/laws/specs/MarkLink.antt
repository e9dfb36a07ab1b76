-- A ready link is marked as delivered: its slot is set apart until it is satisfied, and the count of the delivered links rises
-- by one. One field is written, the links' states.
use Prim.Native.Nat.{ℕ, ◌+◌, ◌≤◌}
use Rattle.std.specs.Prelude.{◌≡◌, refl, ◌⊎◌, [], ◌∷◌}
use Rattle.std.proofs.Math.Path.{sym}
use Rattle.std.proofs.Common.{subst, ◌∙◌}
use Rattle.std.proofs.Math.Logic.{inl, inr}
use native.Mathlib.Omega.{arith}
use Rattle.session.specs.Table.{Session, put}
use Rattle.session.specs.declared.Field.TheVariants.{Links, Dropped, EventState, EventCount, LinkSource, LinkTarget, LinkSlot, LinkState}
use Rattle.session.specs.Names.{ready, delivered, destroyed_unfired}
use Rattle.rules.specs.Formula.{Formula, Holds, count, Formula.◌≐◌}
use Rattle.rules.specs.FormulaLaws.{Case, decide, Case.it_does, Case.it_does_not}
use Rattle.rules.specs.Reading.{is_counted, served_from, delivered_from, serves_last}
use Rattle.rules.specs.Sound.{slot, leads_to, unclaimed, claimed, is_link, no_link, pending, agrees}
use Rattle.laws.specs.Outside.{Outside, outside_same, outside_put}
use Rattle.laws.specs.Frame.{AllOf, DueOf, Shown.due}
use Rattle.laws.specs.Rows.{Name, says}
use Rattle.laws.specs.Rows.Name.{slots, links, counted_events, dropped, free_links, settled}
use Rattle.laws.specs.Keeping.{but, Due, kept_by, Kept}
use Rattle.laws.specs.Conjuncts.{Claimed, claimed_says, claimed_row, claimed_by_name, claimed_lasts}
use Rattle.laws.specs.Conjuncts.{Linked, link_says, link_row, link_by_name, link_lasts, open_with, cut_with}
use Rattle.laws.specs.Conjuncts.Linked.{agreeing}
use Rattle.laws.specs.Conjuncts.Claimed.{waits, brought}
use Rattle.laws.specs.Apart.{Apart}
use Rattle.laws.specs.Places.{Places, places, put-here, put_there, Places.one, Places.two}
use Rattle.laws.specs.Counting.{count-one, count_same}

abbrev is_delivered : Session → ℕ → Formula
is_delivered s i = s LinkState i ≐ delivered

-- the session with link l delivered
abbrev pub handed : Session → ℕ → Session
handed s l = put s LinkState l delivered

-- an event whose count of links is delivered with link l is destroyed already
abbrev pub Expired : Session → ℕ → Type 0
Expired s l = Holds (serves_last s l) → destroyed_unfired ≤ s EventState (s LinkSource l)

module _ (s : Session) (l : ℕ) (low : 1 ≤ l) (high : l ≤ s Links 0) (was : s LinkState l ≡ ready) (last : Expired s l)
    (h : Kept s) where
  writes : Outside s (handed s l) (LinkState ∷ [])
  writes = outside_put l delivered (outside_same s)

  state-here : handed s l LinkState l ≡ delivered
  state-here = put-here s LinkState l l delivered refl

  state_there : (i : ℕ) → (l ≡ i → ⊥) → handed s l LinkState i ≡ s LinkState i
  state_there i n = put_there s LinkState l i delivered n

  -- what is not delivered was not
  undelivered : (i : ℕ) → (handed s l LinkState i ≡ delivered → ⊥) → s LinkState i ≡ delivered → ⊥
  undelivered i n e = n (state_there i (λ q. let x : s LinkState i ≡ ready = rw (← q) was in omega arith) ∙ e)

  was-pending : (t j : ℕ) → Holds (pending (handed s l) t j) → Holds (pending s t j)
  unfolding put
  was-pending t j x = (x.0, x.1, (x.2.0, undelivered x.0 x.2.1))

  mark_link : (i : ℕ) → i ≡ 0 ⊎ Holds (is_link s i) → i ≡ 0 ⊎ Holds (is_link (handed s l) i)
  unfolding put
  mark_link i x = go (places l i) x
    where
      here : Holds (is_link s l) → Holds (is_link (handed s l) l)
      here x = link_lasts l writes x shows
        where
          source : ℕ
          source = s EventState (s LinkSource l)

          a : Holds (agrees (s LinkState l) source)
          a = link_by_name l s x agreeing

          shows : (n : Linked) → DueOf (link_row l) (LinkState ∷ []) n → Holds (link_says l n (handed s l))
          shows agreeing due =
              rw state-here (
                omega arith,
                (
                  omega arith,
                  (
                    (λ e. absurd (omega arith), λ e. let o = (open_with (s LinkState l) source a).1 e in absurd (omega arith)),
                    (λ e. absurd (omega arith), λ e. let o = (cut_with (s LinkState l) source a).1 e in absurd (omega arith)),
                  ),
                ),
              )
          shows Rattle.laws.specs.Conjuncts.source_made x3 = elim x3 [ ]
          shows Rattle.laws.specs.Conjuncts.source_event x4 = elim x4 [ ]
          shows Rattle.laws.specs.Conjuncts.target_made x5 = elim x5 [ ]
          shows Rattle.laws.specs.Conjuncts.target_kind x6 = elim x6 [ ]
          shows Rattle.laws.specs.Conjuncts.has_slot_lem x7 = elim x7 [ ]

      go : Places l i → i ≡ 0 ⊎ Holds (is_link s i) → i ≡ 0 ⊎ Holds (is_link (handed s l) i)
      go p (inl z) = inl z
      go (one q) (inr x) = inr (subst (λ (k : ℕ). Holds (is_link (handed s l) k)) q (here (rw q x)))
      go (two n) (inr x) = inr (rw (state_there i n) x)

  -- another slot's links have the states that they had
  module _ (t j : ℕ) (other : s LinkTarget l ≡ t → s LinkSlot l ≡ j → ⊥) where
    beside : (i : ℕ) → Holds (leads_to s t j i) → handed s l LinkState i ≡ s LinkState i
    beside i x = state_there i (λ q. other (rw q x.0) (rw q x.1))

    still-pending : Holds (pending s t j) → Holds (pending (handed s l) t j)
    unfolding put
    still-pending x = (x.0, x.1, (x.2.0, λ e. x.2.1 (sym (beside x.0 x.2.0) ∙ e)))

    mark-claimed : Holds (claimed s t j) → Holds (claimed (handed s l) t j)
    unfolding put
    mark-claimed x = claimed_lasts t j writes x shows
      where
        c : AllOf (claimed_row t j) s
        c = claimed_by_name t j s x

        waiting : Holds (claimed_says t j waits s) → Holds (claimed_says t j waits (handed s l))
        waiting (inl e) = inl e
        waiting (inr z) = inr (λ e. still-pending (z.0 e), λ o. z.1 (was-pending t j o))

        shows : (n : Claimed) → DueOf (claimed_row t j) (LinkState ∷ []) n → Holds (claimed_says t j n (handed s l))
        shows waits due = waiting (c waits)
        shows brought due = λ m i b o. c brought m i b (o.0, sym (beside i o.0) ∙ o.1)
        shows Rattle.laws.specs.Conjuncts.mode_low x'' = elim x'' [ ]
        shows Rattle.laws.specs.Conjuncts.mode_high x3 = elim x3 [ ]
        shows Rattle.laws.specs.Conjuncts.mark_high x4 = elim x4 [ ]
        shows Rattle.laws.specs.Conjuncts.payload x5 = elim x5 [ ]
        shows Rattle.laws.specs.Conjuncts.empty x6 = elim x6 [ ]

    mark-slot : Holds (slot s t j) → Holds (slot (handed s l) t j)
    unfolding put
    mark-slot (inl x) = inl (x.0, (x.1.0, either x.1.1))
      where
        either : Holds (unclaimed s t j) ⊎ Holds (claimed s t j)
            → Holds (unclaimed (handed s l) t j) ⊎ Holds (claimed (handed s l) t j)
        either (inl y) = inl y
        either (inr y) = inr (mark-claimed y)
    mark-slot (inr x) = inr x

  -- one more delivered link
  mark-count : count (s Links 0 + 1) (is_delivered (handed s l)) ≡ 1 + count (s Links 0 + 1) (is_delivered s)
  mark-count =
      count-one (s Links 0 + 1) (is_delivered s) (is_delivered (handed s l)) l (omega arith) (λ e. omega arith) state-here
      (λ i b n e. state_there i n ∙ e) (λ i b n e. sym (state_there i n) ∙ e)

  pub mark_dropped_more : s Dropped 0 + 1 ≤ count (s Links 0 + 1) (is_delivered (handed s l))
  mark_dropped_more = let x = h dropped in rw mark-count (omega arith)

  -- of its source one more link is delivered, and of other events as many as before
  module _ (e : ℕ) where
    one_more : s LinkSource l ≡ e → delivered_from (handed s l) e ≡ 1 + delivered_from s e
    unfolding put
    one_more q =
        count-one (s Links 0 + 1) (served_from s e) (served_from (handed s l) e) l (omega arith)
        (λ y. let z = y.1 in omega arith) (q, state-here)
        (λ i b n y. (y.0, state_there i n ∙ y.1)) (λ i b n y. (y.0, sym (state_there i n) ∙ y.1))

    no_more : (s LinkSource l ≡ e → ⊥) → delivered_from (handed s l) e ≡ delivered_from s e
    unfolding put
    no_more n =
        count_same (s Links 0 + 1) (served_from (handed s l) e) (served_from s e)
        (λ i b y. (y.0, sym (state_there i (away i y.0)) ∙ y.1)) (λ i b y. (y.0, state_there i (away i y.0) ∙ y.1))
      where
        away : (i : ℕ) → s LinkSource i ≡ e → l ≡ i → ⊥
        away i y q = n (rw q y)

    mark_served : Holds (is_counted s e) → (delivered_from s e ≡ s EventCount e → destroyed_unfired ≤ s EventState e)
        → delivered_from (handed s l) e ≡ s EventCount e → destroyed_unfired ≤ s EventState e
    mark_served c y q = go (decide (s LinkSource l ≐ e))
      where
        go : Case (s LinkSource l ≐ e) → destroyed_unfired ≤ s EventState e
        go (it_does z) =
            let reached : delivered_from s e + 1 ≡ s EventCount e = omega (arith, one_more z) in
            let serves : Holds (serves_last s l) = rw z (c, reached) in
            subst (λ (k : ℕ). destroyed_unfired ≤ s EventState k) z (last serves)
        go (it_does_not n) = y (sym (no_more n) ∙ q)

  mark-no_link : (i : ℕ) → (l ≡ i → ⊥) → Holds (no_link s i) → Holds (no_link (handed s l) i)
  unfolding put
  mark-no_link i n x = rw (state_there i n) x

  shows : (n : Name) → Due (LinkState ∷ []) (slots ∷ []) n → Holds (says n (handed s l))
  unfolding put
  shows links due = λ i b. mark_link i (h links i b)
  shows counted_events due = λ e b c. let y = h counted_events e b c in (y.0, mark_served e c y.1)
  shows dropped due = let x = mark_dropped_more in omega arith
  shows free_links due =
      (mark-no_link 0 (λ e. omega arith) (h free_links).0, λ i b m. mark-no_link i (λ e. omega arith) ((h free_links).1 i b m))
  shows settled due = λ t b k m y x. h settled t b k m y (was-pending t k x)
  shows Rattle.laws.specs.Rows.counts x' = elim x' [ ]
  shows Rattle.laws.specs.Rows.kinds x'' = elim x'' [ ]
  shows Rattle.laws.specs.Rows.template_parts x3 = elim x3 [ ]
  shows Rattle.laws.specs.Rows.task_parts x4 = elim x4 [ ]
  shows Rattle.laws.specs.Rows.event_parts x5 = elim x5 [ ]
  shows Rattle.laws.specs.Rows.block_parts x6 = elim x6 [ ]
  shows Rattle.laws.specs.Rows.roots x7 = elim x7 [ ]
  shows Rattle.laws.specs.Rows.creators x8 = elim x8 [ ]
  shows Rattle.laws.specs.Rows.outputs x9 = elim x9 [ ]
  shows slots x10 = elim x10 [ ]
  shows Rattle.laws.specs.Rows.one_link x11 = elim x11 [ ]
  shows Rattle.laws.specs.Rows.states x12 = elim x12 [ ]
  shows Rattle.laws.specs.Rows.blocks x13 = elim x13 [ ]
  shows Rattle.laws.specs.Rows.compatible x14 = elim x14 [ ]
  shows Rattle.laws.specs.Rows.latches x15 = elim x15 [ ]
  shows Rattle.laws.specs.Rows.free_slots x16 = elim x16 [ ]

  pub mark_apart : Apart (handed s l) (s LinkTarget l) (s LinkSlot l)
  unfolding put
  mark_apart =
      record {
        others = kept_by (slots ∷ []) writes (but (slots ∷ []) h) shows;
        elsewhere = λ t b k m n. mark-slot t k n (h slots t b k m);
      }
