-- Events get other states and payloads, and links other states, as by a firing and by the destroying of an event: all rules but
-- that of the outputs last, so long as no link is delivered by it and each link agrees with its source.
use Prim.Native.Nat.{ℕ, ◌+◌, ◌≤◌, ◌<◌}
use Rattle.std.specs.Prelude.{◌≡◌, refl, Bool, true, false, ◌⊎◌, [], ◌∷◌}
use Rattle.std.proofs.Common.{ap, ◌∙◌, sym}
use Rattle.std.proofs.Math.Path.{fun_ext}
use Rattle.std.proofs.Math.Logic.{inl, inr}
use native.Mathlib.Omega.{arith}
use Rattle.session.specs.Table.{Session, same, pick, change}
use Rattle.session.specs.TableLaws.{same_eq}
use Rattle.session.specs.declared.Field.{Field}
use Rattle.session.specs.declared.Field.TheVariants.{Links, EventState, EventType, EventPayload, EventTally, LinkSource}
use Rattle.session.specs.declared.Field.TheVariants.{LinkState}
use Rattle.session.specs.Names.{fired, destroyed_unfired, destroyed_fired, delivered, latch, even_tally}
use Rattle.rules.specs.Formula.{Formula, Holds, Formula.◌≐◌, Formula.◌or◌}
use Rattle.rules.specs.Reading.{served_from, delivered_from}
use Rattle.rules.specs.Sound.{event_part, slot, claimed, unclaimed, is_link, no_link, pending, agrees}
use Rattle.laws.specs.Outside.{Outside, outside_same, outside_change}
use Rattle.laws.specs.Writes.{fire_fields}
use Rattle.laws.specs.Frame.{AllOf, DueOf, Shown.due}
use Rattle.laws.specs.Rows.{Name, says}
use Rattle.laws.specs.Rows.Name.{event_parts, outputs, slots, links, latches, counted_events, dropped, free_links}
use Rattle.laws.specs.Rows.Name.{settled}
use Rattle.laws.specs.Keeping.{But, Due, kept_by}
use Rattle.laws.specs.Conjuncts.{Claimed, Linked, link_says, link_row, link_lasts, Linked.agreeing, claimed_says}
use Rattle.laws.specs.Conjuncts.{claimed_row, claimed_by_name, claimed_lasts, link_by_name}
use Rattle.laws.specs.Conjuncts.Claimed.{waits, brought}
use Rattle.laws.specs.Counting.{count-more, count_same}

-- these states and payloads of events and these states of links for those that there were
abbrev pub renewed : Session → (ℕ → ℕ) → (ℕ → ℕ) → (ℕ → ℕ) → Session
renewed s es ps ls = change (change (change s EventState es) EventPayload ps) LinkState ls

-- a change of no other fields is such a one
pub renewed-is : {s q : Session} → Outside s q fire_fields → renewed s (q EventState) (q EventPayload) (q LinkState) ≡ q
unfolding change
renewed-is {s = s} {q = q} o =
    fun_ext (λ f. fun_ext (λ i. go f i (same LinkState f) refl (same EventPayload f) refl (same EventState f) refl))
  where
    go : (f : Field) (i : ℕ) (a : Bool) → same LinkState f ≡ a → (b : Bool) → same EventPayload f ≡ b
        → (c : Bool) → same EventState f ≡ c
        → pick a (q LinkState i) (pick b (q EventPayload i) (pick c (q EventState i) (s f i))) ≡ q f i
    go f i true x b y c z = rw (same_eq LinkState f (rw x tt)) refl
    go f i false x true y c z = rw (same_eq EventPayload f (rw y tt)) refl
    go f i false x false y true z = rw (same_eq EventState f (rw z tt)) refl
    go f i false x false y false z = ap (λ (g : ℕ → ℕ). g i) (sym (o.as_was f (rw (x, y, z) refl)))

-- an event had fired, destroyed since or not
abbrev pub had_fired : ℕ → Formula
had_fired state = state ≐ fired or state ≐ destroyed_fired

pub record Renewal (s : Session) (es ps ls : ℕ → ℕ) : Type 0 where
  pub part : (e : ℕ) → Holds (event_part s e) → Holds (event_part (renewed s es ps ls) e)
  pub latch : (e : ℕ) → s EventType e ≡ latch → (Holds (had_fired (s EventState e)) → s EventTally e ≡ even_tally)
      → Holds (had_fired (es e)) → s EventTally e ≡ even_tally
  pub stays_gone : (e : ℕ) → destroyed_unfired ≤ s EventState e → destroyed_unfired ≤ es e
  pub still_delivered : (l : ℕ) → s LinkState l ≡ delivered → ls l ≡ delivered
  pub was_delivered : (l : ℕ) → ls l ≡ delivered → s LinkState l ≡ delivered
  pub payload : (l : ℕ) → l < s Links 0 + 1 → s LinkState l ≡ delivered → ps (s LinkSource l) ≡ s EventPayload (s LinkSource l)
  pub link : (l : ℕ) → Holds (agrees (s LinkState l) (s EventState (s LinkSource l)))
      → Holds (agrees (ls l) (es (s LinkSource l)))
  pub no_link_lem : (l : ℕ) → s LinkState l ≡ 0 → ls l ≡ 0

module _ (s : Session) (es ps ls : ℕ → ℕ) (n : Renewal s es ps ls) where
  writes : Outside s (renewed s es ps ls) fire_fields
  writes = outside_change ls (outside_change ps (outside_change es (outside_same s)))

  still-pending : (t j : ℕ) → Holds (pending s t j) → Holds (pending (renewed s es ps ls) t j)
  unfolding change
  still-pending t j x = (x.0, x.1, (x.2.0, λ d. x.2.1 (n.was_delivered x.0 d)))

  was-pending : (t j : ℕ) → Holds (pending (renewed s es ps ls) t j) → Holds (pending s t j)
  unfolding change
  was-pending t j x = (x.0, x.1, (x.2.0, λ d. x.2.1 (n.still_delivered x.0 d)))

  renewed-claimed : (t j : ℕ) → Holds (claimed s t j) → Holds (claimed (renewed s es ps ls) t j)
  unfolding change
  renewed-claimed t j x = claimed_lasts t j writes x shows
    where
      c : AllOf (claimed_row t j) s
      c = claimed_by_name t j s x

      waiting : Holds (claimed_says t j waits s) → Holds (claimed_says t j waits (renewed s es ps ls))
      waiting (inl e) = inl e
      waiting (inr y) = inr (λ e. still-pending t j (y.0 e), λ q. y.1 (was-pending t j q))

      shows : (m : Claimed) → DueOf (claimed_row t j) fire_fields m → Holds (claimed_says t j m (renewed s es ps ls))
      shows waits due = waiting (c waits)
      shows brought due = λ m l b d. let w = n.was_delivered l d.1 in c brought m l b (d.0, w) ∙ sym (n.payload l b w)
      shows Rattle.laws.specs.Conjuncts.mode_low x'' = elim x'' [ ]
      shows Rattle.laws.specs.Conjuncts.mode_high x3 = elim x3 [ ]
      shows Rattle.laws.specs.Conjuncts.mark_high x4 = elim x4 [ ]
      shows Rattle.laws.specs.Conjuncts.payload x5 = elim x5 [ ]
      shows Rattle.laws.specs.Conjuncts.empty x6 = elim x6 [ ]

  renewed-slot : (t j : ℕ) → Holds (slot s t j) → Holds (slot (renewed s es ps ls) t j)
  unfolding change
  renewed-slot t j (inl x) = inl (x.0, (x.1.0, either x.1.1))
    where
      either : Holds (unclaimed s t j) ⊎ Holds (claimed s t j)
          → Holds (unclaimed (renewed s es ps ls) t j) ⊎ Holds (claimed (renewed s es ps ls) t j)
      either (inl x) = inl x
      either (inr x) = inr (renewed-claimed t j x)
  renewed-slot t j (inr x) = inr x

  renewed_link : (l : ℕ) → l ≡ 0 ⊎ Holds (is_link s l) → l ≡ 0 ⊎ Holds (is_link (renewed s es ps ls) l)
  unfolding change
  renewed_link l (inl z) = inl z
  renewed_link l (inr x) = inr (link_lasts l writes x shows)
    where
      shows : (m : Linked) → DueOf (link_row l) fire_fields m → Holds (link_says l m (renewed s es ps ls))
      shows agreeing due = n.link l (link_by_name l s x agreeing)
      shows Rattle.laws.specs.Conjuncts.source_made x3 = elim x3 [ ]
      shows Rattle.laws.specs.Conjuncts.source_event x4 = elim x4 [ ]
      shows Rattle.laws.specs.Conjuncts.target_made x5 = elim x5 [ ]
      shows Rattle.laws.specs.Conjuncts.target_kind x6 = elim x6 [ ]
      shows Rattle.laws.specs.Conjuncts.has_slot_lem x7 = elim x7 [ ]

  renewed-no_link : (l : ℕ) → Holds (no_link s l) → Holds (no_link (renewed s es ps ls) l)
  unfolding change
  renewed-no_link l (source, (target, (slot, state))) = (source, (target, (slot, n.no_link_lem l state)))

  -- as many links from an event are delivered as were
  same_served : (e : ℕ) → delivered_from (renewed s es ps ls) e ≡ delivered_from s e
  unfolding change
  same_served e =
      count_same (s Links 0 + 1) (served_from (renewed s es ps ls) e) (served_from s e)
      (λ l b x. (x.0, n.was_delivered l x.1)) (λ l b x. (x.0, n.still_delivered l x.1))

  -- all rules but that of the outputs
  module _ (h : But (outputs ∷ []) s) where
    shows : (m : Name) → Due fire_fields (outputs ∷ []) m → Holds (says m (renewed s es ps ls))
    unfolding change
    shows event_parts due = λ e b. n.part e (h event_parts e b)
    shows slots due = λ i l j b. renewed-slot i j (h slots i l j b)
    shows links due = λ l b. renewed_link l (h links l b)
    shows latches due = λ e l x. n.latch e x.1.0 (λ f. h latches e l (x.0, (x.1.0, f))) x.1.1
    shows counted_events due =
        λ e b x. let y = h counted_events e b x in (y.0, λ q. n.stays_gone e (y.1 (sym (same_served e) ∙ q)))
    shows dropped due =
        let d = h dropped in
        let was : ℕ → Formula = λ l. s LinkState l ≐ delivered in
        let more = count-more (s Links 0 + 1) was (λ l. ls l ≐ delivered) (λ l m d. n.still_delivered l d) in
        omega arith
    shows free_links due = (renewed-no_link 0 (h free_links).0, λ l b g. renewed-no_link l ((h free_links).1 l b g))
    shows settled due = λ t l j m a p. h settled t l j m a (was-pending t j p)
    shows Rattle.laws.specs.Rows.counts x' = elim x' [ ]
    shows Rattle.laws.specs.Rows.kinds x'' = elim x'' [ ]
    shows Rattle.laws.specs.Rows.template_parts x3 = elim x3 [ ]
    shows Rattle.laws.specs.Rows.task_parts x4 = elim x4 [ ]
    shows Rattle.laws.specs.Rows.block_parts x5 = elim x5 [ ]
    shows Rattle.laws.specs.Rows.roots x6 = elim x6 [ ]
    shows Rattle.laws.specs.Rows.creators x7 = elim x7 [ ]
    shows outputs x8 = elim x8 [ ]
    shows Rattle.laws.specs.Rows.one_link x9 = elim x9 [ ]
    shows Rattle.laws.specs.Rows.states x10 = elim x10 [ ]
    shows Rattle.laws.specs.Rows.blocks x11 = elim x11 [ ]
    shows Rattle.laws.specs.Rows.compatible x12 = elim x12 [ ]
    shows Rattle.laws.specs.Rows.free_slots x13 = elim x13 [ ]

    pub renewed-rest : But (outputs ∷ []) (renewed s es ps ls)
    renewed-rest = kept_by (outputs ∷ []) writes h shows
