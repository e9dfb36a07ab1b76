-- The last link that leads to each slot, kept in a row, so that links to a slot need not be looked for.
use Prim.Native.Nat.{ℕ, zero, suc, ◌+◌, ◌≤◌, ◌<◌}
use Rattle.std.specs.Prelude.{◌≡◌, List, eqb, ltb, set, true, false, ◌&&◌, ◌||◌}
use Rattle.std.proofs.Math.Path.{refl}
use Rattle.std.proofs.Common.{sym, ◌∙◌, subst, ap, arith}
use Rattle.std.proofs.Math.Logic.{inl, inr}
use Rattle.std.proofs.Math.Decide.{dec_lt}
use Rattle.std.proofs.Math.Numerals.{add-one}
use Rattle.session.specs.Table.{Session}
use Rattle.session.specs.declared.Field.TheVariants.{Objects, Links, Kind, TaskState, TaskSlots, EventPayload, SlotMode}
use Rattle.session.specs.declared.Field.TheVariants.{SlotMark, SlotPayload, LinkSource, LinkTarget, LinkSlot, LinkState}
use Rattle.session.specs.Names.{task, delivered, held, task_destroyed, most_objects, slot_places}
use Rattle.rules.specs.Formula.{Formula, Holds, test, choose, not, ◌iff◌, Formula.◌≐◌, Formula.◌≼◌, Formula.◌and◌, Formula.◌or◌}
use Rattle.rules.specs.Formula.{Formula.◌then◌, Formula.each, Formula.some}
use Rattle.rules.specs.FormulaLaws.{passes, passed, failed, Case, decide, choose_yes, choose_no, Case.it_does, Case.it_does_not}
use Rattle.rules.specs.FormulaLaws.{test-same}
use Rattle.rules.specs.Reading.{at, is_kind}
use Rattle.rules.specs.Sound.{is_payload, objects, links, one_link, slot, slots, claimed, unclaimed, leads_to, no_link, no_slot}
use Rattle.rules.specs.Sound.{is_link, link_at}
use Rattle.laws.specs.Parts.{made-task_part}
use Rattle.laws.specs.Conjuncts.{link_by_name, Linked.target_made, Linked.has_slot_lem}
use Rattle.laws.specs.SlotPlaces.{same-task, same-slot, low_slot}
use Rattle.laws.specs.Places.{Places, places, Places.one, Places.two}
use Rattle.sound.specs.Row.{Row, row-set, row_same}
use Rattle.rules.specs.Bools.{test-both, test_either}

-- what is known of links before the slots are looked at
pub record Linked (s : Session) : Type 0 where
  pub objects : Holds (objects s)
  pub links : Holds (links s)
  pub null : Holds (no_link s 0)

module _ (s : Session) where
  -- link l leads to the slot of a task at place p
  abbrev pub leads : ℕ → ℕ → Formula
  leads l p = 1 ≼ l and is_kind s task (s LinkTarget l) and at (s LinkTarget l) (s LinkSlot l) ≐ p

  pub leads-task : (l p : ℕ) → Holds (leads l p) → s Kind (s LinkTarget l) ≡ task
  leads-task l p (low, (kind, place)) = kind

  pub leads-place : (l p : ℕ) → Holds (leads l p) → at (s LinkTarget l) (s LinkSlot l) ≡ p
  leads-place l p (low, (kind, place)) = place

  -- the last of the first n links that leads to the slot at place p, 0 if none does
  unfoldable pub last_link : ℕ → ℕ → ℕ
  last_link zero p = 0
  last_link (suc n) p = choose (leads n p) n (last_link n p)

  -- link l is the last that leads to its slot
  abbrev pub single : ℕ → Formula
  single l = 1 ≼ l and is_kind s task (s LinkTarget l) then last_link (s Links 0 + 1) (at (s LinkTarget l) (s LinkSlot l)) ≐ l

  -- the rules of a slot to which link m leads, or none if m is 0
  abbrev pub linked_by : ℕ → ℕ → ℕ → Formula
  linked_by m t j = s TaskState t ≐ task_destroyed or (s SlotMark (at t j) ≐ 0 iff (1 ≼ m and not (s LinkState m ≐ delivered)))

  abbrev pub paid_by : ℕ → ℕ → ℕ → Formula
  paid_by m t j =
      1 ≼ s SlotMark (at t j) then
      (1 ≼ m and s LinkState m ≐ delivered then s SlotPayload (at t j) ≐ s EventPayload (s LinkSource m))

  abbrev pub claimed_by : ℕ → ℕ → ℕ → Formula
  claimed_by m t j =
      1 ≼ s SlotMode (at t j) and s SlotMode (at t j) ≼ 4 and s SlotMark (at t j) ≼ held and is_payload s (s SlotPayload (at t j))
      and (s SlotMark (at t j) ≐ 0 then s SlotPayload (at t j) ≐ 0) and linked_by m t j and paid_by m t j

  abbrev pub unclaimed_by : ℕ → ℕ → ℕ → Formula
  unclaimed_by m t j = s SlotMode (at t j) ≐ 0 and s SlotMark (at t j) ≐ 0 and s SlotPayload (at t j) ≐ 0 and m ≐ 0

  abbrev pub slot_by : ℕ → ℕ → ℕ → Formula
  slot_by m h j =
      is_kind s task h and suc j ≼ s TaskSlots h and (unclaimed_by m h j or claimed_by m h j)
      or (is_kind s task h then s TaskSlots h ≼ j) and no_slot s (at h j)

  -- a slot that there is, and a place where there is none
  pub slot_there : (m h j : ℕ) → (eqb (s Kind h) task && ltb j (s TaskSlots h)) ≡ true
      → test (slot_by m h j) ≡ (test (unclaimed_by m h j) || test (claimed_by m h j))
  unfolding test
  slot_there m h j e =
      test-same (slot_by m h j) (unclaimed_by m h j or claimed_by m h j) to (λ y. inl (is.0, (is.1, y))) ∙ test_either
      (unclaimed_by m h j) (claimed_by m h j)
    where
      is : Holds (is_kind s task h and suc j ≼ s TaskSlots h)
      is = passed (is_kind s task h and suc j ≼ s TaskSlots h) (test-both (is_kind s task h) (suc j ≼ s TaskSlots h) ∙ e)

      to : Holds (slot_by m h j) → Holds (unclaimed_by m h j or claimed_by m h j)
      to (inl y) = y.1.1
      to (inr y) = let z = y.0 is.0 in let l = is.1 in absurd (omega arith)

  pub slot_nowhere : (m h j : ℕ) → (eqb (s Kind h) task && ltb j (s TaskSlots h)) ≡ false
      → test (slot_by m h j) ≡ test (no_slot s (at h j))
  unfolding test
  slot_nowhere m h j e = test-same (slot_by m h j) (no_slot s (at h j)) to (λ y. inr ((λ k. past k (dec_lt j (s TaskSlots h))), y))
    where
      none : Holds (is_kind s task h and suc j ≼ s TaskSlots h) → ⊥
      none = failed (is_kind s task h and suc j ≼ s TaskSlots h) (test-both (is_kind s task h) (suc j ≼ s TaskSlots h) ∙ e)

      to : Holds (slot_by m h j) → Holds (no_slot s (at h j))
      to (inl y) = absurd (none (y.0, y.1.0))
      to (inr y) = y.1

      past : s Kind h ≡ task → Dec (j < s TaskSlots h) → s TaskSlots h ≤ j
      past k (yes l) = absurd (none (k, l))
      past k (no n) = omega arith

  abbrev pub slot_at : ℕ → ℕ → Formula
  slot_at h j = slot_by (last_link (s Links 0 + 1) (at h j)) h j

  abbrev pub slots_at : ℕ → Formula
  slots_at h = each 16 (slot_at h)

  pub last_none : (p : ℕ) → last_link 0 p ≡ 0
  unfolding last_link
  last_none p = refl

  pub last_yes : (n p : ℕ) → Holds (leads n p) → last_link (n + 1) p ≡ n
  unfolding last_link
  last_yes n p h = rw add-one (choose_yes (leads n p) n (last_link n p) h)

  pub last_no : (n p : ℕ) → (Holds (leads n p) → ⊥) → last_link (n + 1) p ≡ last_link n p
  unfolding last_link
  last_no n p h = rw add-one (choose_no (leads n p) n (last_link n p) h)

  -- it leads there
  pub last_leads : (n p : ℕ) → 1 ≤ last_link n p → (last_link n p < n) × Holds (leads (last_link n p) p)
  unfolding last_link
  last_leads zero p l = absurd (omega arith)
  last_leads (suc n) p l = go (decide (leads n p)) (last_leads n p)
    where
      go : Case (leads n p) → (1 ≤ last_link n p → (last_link n p < n) × Holds (leads (last_link n p) p))
          → (last_link (suc n) p < suc n) × Holds (leads (last_link (suc n) p) p)
      go (it_does h) r =
          let e : last_link (suc n) p ≡ n = choose_yes (leads n p) n (last_link n p) h in (rw e (omega arith), rw e h)
      go (it_does_not f) r =
          let e : last_link (suc n) p ≡ last_link n p = choose_no (leads n p) n (last_link n p) f in
          let x : (last_link n p < n) × Holds (leads (last_link n p) p) = r (subst (λ (k : ℕ). 1 ≤ k) e l) in
          (rw e (let y = x.0 in omega arith), rw e x.1)

  -- and none that leads there is later
  pub last_after : (n p l : ℕ) → l < n → Holds (leads l p) → l ≤ last_link n p
  unfolding last_link
  last_after zero p l b h = absurd (omega arith)
  last_after (suc n) p l b h = go (decide (leads n p)) (places l n) (last_after n p l)
    where
      go : Case (leads n p) → Places l n → (l < n → Holds (leads l p) → l ≤ last_link n p) → l ≤ last_link (suc n) p
      go (it_does x) w r = let e : last_link (suc n) p ≡ n = choose_yes (leads n p) n (last_link n p) x in rw e (omega arith)
      go (it_does_not f) (one w) r = absurd (f (subst (λ (k : ℕ). Holds (leads k p)) w h))
      go (it_does_not f) (two w) r =
          let e : last_link (suc n) p ≡ last_link n p = choose_no (leads n p) n (last_link n p) f in
          rw e (r (omega arith) h)

  module _ (k : Linked s) where
    abbrev N : ℕ
    N = s Links 0 + 1

    -- a link but the null one is a link
    link : (l : ℕ) → l < N → 1 ≤ l → Holds (is_link s l)
    link l b o = go (k.links l b)
      where
        go : Holds (link_at s l) → Holds (is_link s l)
        go (inl e) = absurd (omega arith)
        go (inr x) = x

    pub low : (l : ℕ) → l < N → 1 ≤ l → s LinkSlot l < 16
    low l b o =
        let x = link_by_name l s (link l b o) in
        let m = (x target_made).1 in
        low_slot s (s LinkTarget l) (s LinkSlot l) (made-task_part s k.objects (s LinkTarget l) (omega arith)) (x has_slot_lem)

    pub made_target : (l : ℕ) → l < N → 1 ≤ l → s LinkTarget l ≤ s Objects 0
    made_target l b o = (link_by_name l s (link l b o) target_made).1

    -- what leads to a task's slot is not the null link
    not_null : (h l : ℕ) → s Kind h ≡ task → s LinkTarget l ≡ h → 1 ≤ l
    not_null h l t e = go (dec_lt 0 l)
      where
        go : Dec (0 < l) → 1 ≤ l
        go (yes p) = omega arith
        go (no n) =
            let z : l ≡ 0 = omega arith in
            let h0 : h ≡ 0 = sym e ∙ ap (λ (i : ℕ). s LinkTarget i) z ∙ k.null.1.0 in
            let q : ◌≡◌ {A = ℕ} 0 2 = sym k.objects.0 ∙ ap (λ (i : ℕ). s Kind i) (sym h0) ∙ t in
            absurd (omega arith)

    place_same : (l m : ℕ) → s LinkTarget l ≡ s LinkTarget m → s LinkSlot l ≡ s LinkSlot m
        → at (s LinkTarget l) (s LinkSlot l) ≡ at (s LinkTarget m) (s LinkSlot m)
    place_same l m e d = rw (e, d)

    pub single-same : test (each N single) ≡ test (one_link s)
    single-same = test-same (each N single) (one_link s) to from
      where
        to : Holds (each N single) → Holds (one_link s)
        to h l b i il t x =
            let o : 1 ≤ i = not_null (s LinkTarget l) i t x.0 in
            let el : last_link N (at (s LinkTarget l) (s LinkSlot l)) ≡ l = h l b (omega arith, t) in
            let ei : last_link N (at (s LinkTarget i) (s LinkSlot i)) ≡ i = h i (omega arith) (o, rw x.0 t) in
            let e : i ≡ l = sym ei ∙ ap (λ (p : ℕ). last_link N p) (place_same i l x.0 x.1) ∙ el in
            omega arith

        from : Holds (one_link s) → Holds (each N single)
        from h l b x = go (places m l)
          where
            p : ℕ
            p = at (s LinkTarget l) (s LinkSlot l)

            m : ℕ
            m = last_link N p

            later : l ≤ m
            later = last_after N p l b (x.0, (x.1, refl))

            at_m : (m < N) × Holds (leads m p)
            at_m = last_leads N p (let o = x.0 in let q = later in omega arith)

            go : Places m l → m ≡ l
            go (one e) = e
            go (two n) =
                let o : 1 ≤ l = x.0 in
                let q : l ≤ m = later in
                let bm : m < N = at_m.0 in
                let lm : s LinkSlot m < 16 = low m bm (omega arith) in
                let ll : s LinkSlot l < 16 = low l b o in
                let pl = leads-place m p at_m.1 in
                absurd (h m bm l (omega arith) (leads-task m p at_m.1)
                (sym (same-task _ _ _ _ ll lm pl), sym (same-slot _ _ _ _ ll lm pl)))

    module _ (u : Holds (one_link s)) (h j : ℕ) (t : s Kind h ≡ task) (jl : j < 16) where
      abbrev M : ℕ
      M = last_link N (at h j)

      -- the last link leads there, if there is one
      last_there : 1 ≤ M → (M < N) × Holds (leads_to s h j M)
      last_there o =
          let x = last_leads N (at h j) o in
          let lm : s LinkSlot M < 16 = low M x.0 o in
          let pl = leads-place M (at h j) x.1 in
          (x.0, (same-task _ _ _ _ jl lm pl, same-slot _ _ _ _ jl lm pl))

      -- and any that leads there is that one
      only : (l : ℕ) → l < N → Holds (leads_to s h j l) → (1 ≤ M) × (l ≡ M)
      only l b x =
          let o : 1 ≤ l = not_null h l t x.0 in
          let tl : s Kind (s LinkTarget l) ≡ task = rw x.0 t in
          let q : l ≤ M = last_after N (at h j) l b (o, (tl, rw (x.0, x.1))) in
          (omega arith, go o tl q (places l M))
        where
          go : 1 ≤ l → s Kind (s LinkTarget l) ≡ task → l ≤ M → Places l M → l ≡ M
          go o tl q (one e) = e
          go o tl q (two n) =
              let y = last_there (omega arith) in
              let tm : s Kind (s LinkTarget M) ≡ task = rw y.1.0 t in
              absurd (u M y.0 l (omega arith) tm (x.0 ∙ sym y.1.0, x.1 ∙ sym y.1.1))

      some_to : (g : ℕ → Formula) → Holds (some N (λ l. leads_to s h j l and g l)) → Holds (1 ≼ M and g M)
      some_to g x = let o = only x.0 x.1 x.2.0 in (o.0, subst (λ (l : ℕ). Holds (g l)) o.1 x.2.1)

      some_from : (g : ℕ → Formula) → Holds (1 ≼ M and g M) → Holds (some N (λ l. leads_to s h j l and g l))
      some_from g x = let y = last_there x.0 in (M, y.0, (y.1, x.1))

      zero_to : (Holds (some N (leads_to s h j)) → ⊥) → M ≡ 0
      zero_to x = go (dec_lt 0 M)
        where
          go : Dec (0 < M) → M ≡ 0
          go (yes p) = let y = last_there p in absurd (x (M, y.0, y.1))
          go (no n) = omega arith

      unclaimed_to : Holds (unclaimed s h j) → Holds (unclaimed_by M h j)
      unclaimed_to (mode, (mark, (paid, none))) = (mode, (mark, (paid, zero_to none)))

      unclaimed-from : Holds (unclaimed_by M h j) → Holds (unclaimed s h j)
      unclaimed-from (mode, (mark, (paid, none))) =
          (mode, (mark, (paid, λ z. let o = (only z.0 z.1 z.2).0 in omega (arith, none))))

      abbrev undelivered : ℕ → Formula
      undelivered l = not (s LinkState l ≐ delivered)

      abbrev links_to : Formula
      links_to = s TaskState h ≐ task_destroyed or (s SlotMark (at h j) ≐ 0 iff some N (λ l. leads_to s h j l and undelivered l))

      linked_to : Holds links_to → Holds (linked_by M h j)
      linked_to (inl e) = inl e
      linked_to (inr x) = inr (λ z. some_to undelivered (x.0 z), λ z. x.1 (some_from undelivered z))

      linked_from : Holds (linked_by M h j) → Holds links_to
      linked_from (inl e) = inl e
      linked_from (inr x) = inr (λ z. some_from undelivered (x.0 z), λ z. x.1 (some_to undelivered z))

      abbrev paid_to : Formula
      paid_to =
          1 ≼ s SlotMark (at h j) then each N
          (λ l. leads_to s h j l and s LinkState l ≐ delivered then s SlotPayload (at h j) ≐ s EventPayload (s LinkSource l))

      paid_to_lem : Holds paid_to → Holds (paid_by M h j)
      paid_to_lem x m d = let y = last_there d.0 in x m M y.0 (y.1, d.1)

      paid_from : Holds (paid_by M h j) → Holds paid_to
      paid_from x m l b d =
          let o = only l b d.0 in
          subst (λ (k : ℕ). s SlotPayload (at h j) ≡ s EventPayload (s LinkSource k)) (sym o.1)
          (x m (o.0, subst (λ (k : ℕ). s LinkState k ≡ delivered) o.1 d.1))

      either_to : Holds (unclaimed s h j or claimed s h j) → Holds (unclaimed_by M h j or claimed_by M h j)
      either_to (inl x) = inl (unclaimed_to x)
      either_to (inr (low, (high, (mark, (payload, (empty, (waits, brought))))))) =
          inr (low, (high, (mark, (payload, (empty, (linked_to waits, paid_to_lem brought))))))

      either_from : Holds (unclaimed_by M h j or claimed_by M h j) → Holds (unclaimed s h j or claimed s h j)
      either_from (inl x) = inl (unclaimed-from x)
      either_from (inr (low, (high, (mark, (payload, (empty, (waits, brought))))))) =
          inr (low, (high, (mark, (payload, (empty, (linked_from waits, paid_from brought))))))

    slot_to : Holds (one_link s) → (h j : ℕ) → j < 16 → Holds (slot s h j) → Holds (slot_at h j)
    slot_to u h j l (inl x) = inl (x.0, (x.1.0, either_to u h j x.0 l x.1.1))
    slot_to u h j l (inr x) = inr x

    slot-from : Holds (one_link s) → (h j : ℕ) → j < 16 → Holds (slot_at h j) → Holds (slot s h j)
    slot-from u h j l (inl x) = inl (x.0, (x.1.0, either_from u h j x.0 l x.1.1))
    slot-from u h j l (inr x) = inr x

    pub slots_same : Holds (one_link s) → test (each (s Objects 0 + 1) slots_at) ≡ test (slots s)
    slots_same u =
        test-same (each (s Objects 0 + 1) slots_at) (slots s) (λ x h b j l. slot-from u h j l (x h b j l))
        (λ x h b j l. slot_to u h j l (x h b j l))

  -- one link more in the row
  pub row_link : (a : List ℕ) (l : ℕ) → Row a slot_places (last_link l) → 1 ≤ l → s Kind (s LinkTarget l) ≡ task
      → at (s LinkTarget l) (s LinkSlot l) < slot_places
      → Row (set a (at (s LinkTarget l) (s LinkSlot l)) l) slot_places (last_link (l + 1))
  row_link a l r o t b =
      row-set a slot_places (last_link l) (last_link (l + 1)) (at (s LinkTarget l) (s LinkSlot l)) l r b
      (last_yes l _ (o, (t, refl))) (λ p q n. last_no l p (λ x. n x.1.1))

  pub row_skip : (a : List ℕ) (l : ℕ) → Row a slot_places (last_link l) → (s Kind (s LinkTarget l) ≡ task → ⊥)
      → Row a slot_places (last_link (l + 1))
  row_skip a l r n = row_same a slot_places (last_link l) (last_link (l + 1)) r (λ p q. last_no l p (λ x. n x.1.0))

  -- before the first link
  pub row_first : (a : List ℕ) → Row a slot_places (λ p. 0) → Row a slot_places (last_link 1)
  row_first a r =
      row_same a slot_places (λ p. 0) (last_link 1) r
      (λ p q. last_no 0 p (λ x. let z : 1 ≤ 0 = x.0 in omega arith) ∙ last_none p)

  -- the links' slots have places
  abbrev pub Low : Type 0
  Low = (l : ℕ) → l < s Links 0 + 1 → 1 ≤ l → (s LinkTarget l ≤ most_objects) × (s LinkSlot l < 16)

  pub linked_low : Linked s → s Objects 0 ≤ most_objects → Low
  linked_low k b l q o = (let m = made_target k l q o in omega arith, low k l q o)

  -- the null link counts for nothing
  pub single-first : test (each 1 single) ≡ true
  single-first = passes (each 1 single) (λ i b x. let o : 1 ≤ i = x.0 in absurd (omega arith))
