-- Making an object keeps the rules but that of the outputs, one lemma a rule: `elsewhere` has the rules that speak of each object
-- and read more than its own words, `beside` those of another shape. A rule by an object's own words is in neither (see Born).
-- Of the new object, the operation that makes it shows the rules about its kind.
use Rattle.std.specs.Prelude.{ℕ, suc, ◌+◌, ◌*◌, ◌-◌, ◌/◌, ◌%◌, ◌≤◌, ◌<◌, ◌≡◌, refl, Bool, true, false, List, [], ◌∷◌, ◌⊎◌}
use Rattle.std.proofs.Common.{sym, subst, ◌∙◌, inl, inr, arith}
use Rattle.std.proofs.Math.Path.{fun_ext}
use Rattle.std.proofs.Math.Decide.{dec_lt}
use Rattle.session.specs.Table.{Session, pick}
use Rattle.session.specs.declared.Field.{Field}
use Rattle.session.specs.declared.Field.TheVariants.{Objects, Links, Kind, TaskState, TaskCreator, TaskSlots, TaskFinish}
use Rattle.session.specs.declared.Field.TheVariants.{TaskOutput, EventState, EventType, EventPayload, EventTally, EventCount, BlockState}
use Rattle.session.specs.declared.Field.TheVariants.{BlockCreator, BlockHeld, SlotMark, SlotPayload, LinkSource, LinkTarget}
use Rattle.session.specs.Names.{task, block, held}
use Rattle.rules.specs.Formula.{Formula, Holds, Formula.◌≐◌, Formula.◌≼◌, Formula.◌and◌, Formula.◌or◌}
use Rattle.rules.specs.FormulaLaws.{Case, decide, Case.it_does, Case.it_does_not}
use Rattle.rules.specs.Reading.{made, at, is_kind, is_held}
use Rattle.rules.specs.Sound.{is_payload, event_part, block_part, slot, claimed, leads_to, no_slot, is_link, creator}
use Rattle.laws.specs.Outside.{among, Outside}
use Rattle.laws.specs.Shape.{Sort, kind_of, object_fields, reach, extent, is_each, said_of, is_about, reads_more}
use Rattle.laws.specs.Shape.Sort.{a_template, a_task, an_event, a_block}
use Rattle.laws.specs.Frame.{Shown, meets, AllOf, DueOf, Shown.due}
use Rattle.laws.specs.Rows.{Name, row, says}
use Rattle.laws.specs.Rows.Name.{counts, kinds, event_parts, block_parts, roots, creators, outputs, slots, links, one_link}
use Rattle.laws.specs.Rows.Name.{blocks, compatible, free_slots, free_links}
use Rattle.laws.specs.Keeping.{But, kept_by, Due, due_held, excepted}
use Rattle.laws.specs.Conjuncts.{Claimed, Linked, Event, Block, claimed_row, claimed_says, claimed_by_name, claimed_lasts}
use Rattle.laws.specs.Conjuncts.{link_row, link_says, link_by_name, link_of, event_row, event_says, event_by_name}
use Rattle.laws.specs.Conjuncts.{slot-place, event_lasts, block_row, block_says, block_by_name, block_lasts}
use Rattle.laws.specs.Conjuncts.Event.{is_event, has_payload}
use Rattle.laws.specs.Conjuncts.Block.{is_block, has_creator}
use Rattle.laws.specs.Conjuncts.Claimed.{payload, waits, brought}
use Rattle.laws.specs.Conjuncts.Linked.{source_made, source_event, target_made, target_kind, has_slot_lem, agreeing}
use Rattle.laws.specs.Grown.{next, grown, built_grown, grown-writes}
use Rattle.laws.specs.Born.{Born, else, was, nothing, each_lasts}
use Rattle.laws.specs.SlotPlaces.{place_split, place_low, place_owner}
use Rattle.laws.specs.Under.{or_map}

-- true below n and at n: true below n + 1
pub each_more : (P : ℕ → Type 0) (n : ℕ) → ((i : ℕ) → i < n → P i) → P n → (i : ℕ) → i < n + 1 → P i
each_more P n f x i l = go (dec_lt i n)
  where
    go : Dec (i < n) → P i
    go (yes m) = f i m
    go (no k) = subst P (let e : n ≡ i = omega arith in e) x

known_kind : (k : Sort) → Holds (1 ≼ kind_of k and kind_of k ≼ 4)
known_kind a_template = (omega arith, omega arith)
known_kind a_task = (omega arith, omega arith)
known_kind an_event = (omega arith, omega arith)
known_kind a_block = (omega arith, omega arith)

-- the fields that the making of some object writes
abbrev written : List Field
written = Objects ∷ object_fields

-- the rules that read one of them and do not speak of each object, but for the outputs
abbrev Due_beside : Name → Type 0
Due_beside n = Shown (pick (is_each (row n).shape) false (pick (excepted n (outputs ∷ [])) false (meets written (row n).reads)))

-- the rules that the operation shows of an object of kind k that it makes, and what each says of it
abbrev pub New : Sort → Name → Type 0
New k n = Shown (is_about k (row n).shape)

abbrev pub says_of : Name → Session → ℕ → Formula
says_of n = said_of (row n).shape

module _ {s g : Session} {k : Sort} (b : Born s g k) (h : But (outputs ∷ []) s) where
  -- an object made is one still, and of its kind
  made_stays : (p : ℕ) → Holds (made s p) → Holds (made (grown s g) p)
  made_stays p x = (x.0, let l = x.1 in omega arith)

  kind_stays : (k p : ℕ) → Holds (made s p and is_kind s k p) → Holds (made (grown s g) p and is_kind (grown s g) k p)
  kind_stays k p x = (made_stays p x.0, was b Kind refl p x.0.1 ∙ x.1)

  payload_stays : (p : ℕ) → Holds (is_payload s p) → Holds (is_payload (grown s g) p)
  payload_stays p x = or_map (kind_stays block p) x

  -- only the count and the kinds are written
  abbrev recounted : Session
  recounted f i = pick (among f (Objects ∷ Kind ∷ [])) (grown s g f i) (s f i)

  recounted-writes : Outside s recounted (Objects ∷ Kind ∷ [])
  recounted-writes = record { as_was = λ f e. fun_ext (λ i. rw e refl) }

  -- what is said of another object
  old_event : (i : ℕ) → (next s ≡ i → ⊥) → Holds (event_part s i) → Holds (event_part (grown s g) i)
  old_event i n (inr x) =
      let z = else b in
      rw (
        z Kind refl i n,
        z EventState refl i n,
        z EventType refl i n,
        z EventPayload refl i n,
        z EventTally refl i n,
        z EventCount refl i n,
      ) (inr x)
  old_event i n (inl x) =
      let z = else b in
      rw (
        z EventState refl i n,
        z EventType refl i n,
        z EventPayload refl i n,
        z EventTally refl i n,
        z EventCount refl i n,
      )
      (event_lasts i recounted-writes x.0 (inl x) shows)
    where
      shows : (m : Event) → DueOf (event_row i) (Objects ∷ Kind ∷ []) m → Holds (event_says i m recounted)
      shows is_event due = else b Kind refl i n ∙ x.0
      shows has_payload due = payload_stays (s EventPayload i) (event_by_name i s x.0 (inl x) has_payload)
      shows Rattle.laws.specs.Conjuncts.state_low x3 = elim x3 [ ]
      shows Rattle.laws.specs.Conjuncts.state_high x4 = elim x4 [ ]
      shows Rattle.laws.specs.Conjuncts.type_known x5 = elim x5 [ ]
      shows Rattle.laws.specs.Conjuncts.paid x6 = elim x6 [ ]
      shows Rattle.laws.specs.Conjuncts.tally_high x7 = elim x7 [ ]
      shows Rattle.laws.specs.Conjuncts.tally_kind x8 = elim x8 [ ]
      shows Rattle.laws.specs.Conjuncts.count_fits x9 = elim x9 [ ]

  old_block : (i : ℕ) → (next s ≡ i → ⊥) → Holds (block_part s i) → Holds (block_part (grown s g) i)
  old_block i n (inr x) =
      let z = else b in
      rw (z Kind refl i n, z BlockState refl i n, z BlockCreator refl i n, z BlockHeld refl i n) (inr x)
  old_block i n (inl x) =
      let z = else b in
      rw (z BlockState refl i n, z BlockCreator refl i n, z BlockHeld refl i n)
      (block_lasts i recounted-writes x.0 (inl x) shows)
    where
      shows : (m : Block) → DueOf (block_row i) (Objects ∷ Kind ∷ []) m → Holds (block_says i m recounted)
      shows is_block due = else b Kind refl i n ∙ x.0
      shows has_creator due = or_map (kind_stays task (s BlockCreator i)) (block_by_name i s x.0 (inl x) has_creator)
      shows Rattle.laws.specs.Conjuncts.state_low x3 = elim x3 [ ]
      shows Rattle.laws.specs.Conjuncts.state_high x4 = elim x4 [ ]
      shows Rattle.laws.specs.Conjuncts.held_flag_lem x5 = elim x5 [ ]

  old_creator : (i : ℕ) → i ≤ s Objects 0 → Holds (creator s i) → Holds (creator (grown s g) i)
  old_creator i l (inl e) = inl e
  old_creator i l (inr x) =
      let c : s TaskCreator i ≤ s Objects 0 = let y = x.1.0 in omega arith in
      inr (rw (was b TaskCreator refl i l, was b Kind refl (s TaskCreator i) c, was b TaskState refl (s TaskCreator i) c) x)

  -- a slot held now was held before: the new ones are not
  pub new-mark : (j : ℕ) → j < 16 → s SlotMark (at (next s) j) ≡ 0
  new-mark j m = ((nothing b h).slots j m).1.0

  old_place : (i : ℕ) → i < 16 * (next s + 1) → s SlotMark i ≡ held → i < 16 * next s
  old_place i l e = go (dec_lt i (16 * next s))
    where
      go : Dec (i < 16 * next s) → i < 16 * next s
      go (yes m) = m
      go (no n) =
          let p : at (next s) (i - 16 * next s) ≡ i = omega arith in
          let z : s SlotMark i ≡ 0 = subst (λ k. s SlotMark k ≡ 0) p (new-mark (i - 16 * next s) (omega arith)) in
          absurd (omega arith)

  held_stays : (c : ℕ) → c ≤ s Objects 0 → Holds (is_held s c) → Holds (is_held (grown s g) c)
  held_stays c l (inl x) = inl (x.0, (let m = x.1 in omega arith), x.2)
  held_stays c l (inr e) = inr (was b BlockHeld refl c l ∙ e)

  held_was : (c : ℕ) → c ≤ s Objects 0 → Holds (is_held (grown s g) c) → Holds (is_held s c)
  held_was c l (inl x) = inl (x.0, old_place x.0 x.1 x.2.0, x.2)
  held_was c l (inr e) = inr (sym (was b BlockHeld refl c l) ∙ e)

  -- a block's creator is an old object, or none
  maker_old : (c : ℕ) → s Kind c ≡ block → c < next s → s BlockCreator c ≤ s Objects 0
  maker_old c e l = go (block_by_name c s e (h block_parts c (let m = b.room in omega arith)) has_creator)
    where
      go : Holds (block_says c has_creator s) → s BlockCreator c ≤ s Objects 0
      go (inl x) = let z = x.1 in omega arith
      go (inr x) = x.0.1

  old_hold : (i : ℕ) → i < next s → Holds (says_of blocks s i) → Holds (says_of blocks (grown s g) i)
  old_hold i m before e =
      let l : i ≤ s Objects 0 = omega arith in
      let k : s Kind i ≡ block = sym (was b Kind refl i l) ∙ e in
      let c : s BlockCreator i ≤ s Objects 0 = maker_old i k m in
      let x = before k in
      let d : g BlockState i ≡ s BlockState i = was b BlockState refl i l in (
        rw (was b BlockHeld refl i l, was b BlockCreator refl i l, was b TaskState refl (s BlockCreator i) c) x.0,
        (λ q. held_stays i l (x.1.0 (sym d ∙ q)), λ q y. x.1.1 (sym d ∙ q) (held_was i l y)),
      )

  -- the rules that speak of each object and read more than its own words, of an object other than the new one
  elsewhere : (n : Name) → Shown (reads_more (row n).shape) → (i : ℕ) → (next s ≡ i → ⊥)
      → i < reach (extent (row n).shape) s → Holds (says_of n s i) → Holds (says_of n (grown s g) i)
  elsewhere event_parts due i n l x = old_event i n x
  elsewhere block_parts due i n l x = old_block i n x
  elsewhere creators due i n l x =
      λ e. let m : i ≤ s Objects 0 = omega arith in old_creator i m (x (sym (was b Kind refl i m) ∙ e))
  elsewhere blocks due i n l x = old_hold i l x
  elsewhere counts x5 i n l x = elim x5 [ ]
  elsewhere kinds x6 i n l x = elim x6 [ ]
  elsewhere Rattle.laws.specs.Rows.template_parts x7 i n l x = elim x7 [ ]
  elsewhere Rattle.laws.specs.Rows.task_parts x8 i n l x = elim x8 [ ]
  elsewhere roots x9 i n l x = elim x9 [ ]
  elsewhere outputs x10 i n l x = elim x10 [ ]
  elsewhere slots x11 i n l x = elim x11 [ ]
  elsewhere links x12 i n l x = elim x12 [ ]
  elsewhere one_link x13 i n l x = elim x13 [ ]
  elsewhere Rattle.laws.specs.Rows.states x14 i n l x = elim x14 [ ]
  elsewhere compatible x15 i n l x = elim x15 [ ]
  elsewhere Rattle.laws.specs.Rows.latches x16 i n l x = elim x16 [ ]
  elsewhere Rattle.laws.specs.Rows.counted_events x17 i n l x = elim x17 [ ]
  elsewhere Rattle.laws.specs.Rows.dropped x18 i n l x = elim x18 [ ]
  elsewhere free_slots x19 i n l x = elim x19 [ ]
  elsewhere free_links x20 i n l x = elim x20 [ ]
  elsewhere Rattle.laws.specs.Rows.settled x21 i n l x = elim x21 [ ]

  grown-kinds : Holds (says kinds (grown s g))
  grown-kinds = (
    was b Kind refl 0 (omega arith) ∙ (h kinds).0,
    (
      each_more _ (next s) (λ i m. let l : i ≤ s Objects 0 = omega arith in rw (was b Kind refl i l) ((h kinds).1.0 i m))
          (λ _. rw b.kind (known_kind k)),
      λ i m l. else b Kind refl i (λ e. omega arith) ∙ (h kinds).1.1 i m (omega arith),
    ),
  )

  grown-roots : Holds (says roots (grown s g))
  grown-roots =
      let c = h counts in
      let l : 1 ≤ s Objects 0 = omega arith in
      let m : 2 ≤ s Objects 0 = c.0 in
      rw (was b Kind refl 1 l, was b BlockCreator refl 1 l, was b Kind refl 2 m, was b TaskCreator refl 2 m)
      (rw (was b TaskSlots refl 2 m, was b TaskFinish refl 2 m, was b TaskOutput refl 2 m) (h roots))

  -- both ends of a link are made; a link 0 has none
  pub ends_old : (l : ℕ) → l < s Links 0 + 1 → (s LinkSource l ≤ s Objects 0) × (s LinkTarget l ≤ s Objects 0)
  ends_old l m = go (h links l m)
    where
      go : Holds (l ≐ 0 or is_link s l) → (s LinkSource l ≤ s Objects 0) × (s LinkTarget l ≤ s Objects 0)
      go (inl e) = let z = (h free_links).0 in rw e (let a = z.0 in let c = z.1.0 in (omega arith, omega arith))
      go (inr x) = let v = link_by_name l s x in ((v source_made).1, (v target_made).1)

  old_claimed : (i j : ℕ) → i ≤ s Objects 0 → Holds (claimed s i j) → Holds (claimed (grown s g) i j)
  old_claimed i j l x = claimed_lasts i j (grown-writes s g) x shows
    where
      v : AllOf (claimed_row i j) s
      v = claimed_by_name i j s x

      shows : (n : Claimed) → DueOf (claimed_row i j) written n → Holds (claimed_says i j n (grown s g))
      shows payload due = payload_stays (s SlotPayload (at i j)) (v payload)
      shows waits due = rw (was b TaskState refl i l) (v waits)
      shows brought due = λ q e m z. v brought q e m z ∙ sym (was b EventPayload refl (s LinkSource e) (ends_old e m).0)
      shows Rattle.laws.specs.Conjuncts.mode_low x'' = elim x'' [ ]
      shows Rattle.laws.specs.Conjuncts.mode_high x3 = elim x3 [ ]
      shows Rattle.laws.specs.Conjuncts.mark_high x4 = elim x4 [ ]
      shows Rattle.laws.specs.Conjuncts.empty x5 = elim x5 [ ]

  old_slot : (i j : ℕ) → i ≤ s Objects 0 → Holds (slot s i j) → Holds (slot (grown s g) i j)
  old_slot i j l (inl x) =
      inl (was b Kind refl i l ∙ x.0, (rw (was b TaskSlots refl i l) x.1.0, or_map (old_claimed i j l) x.1.1))
  old_slot i j l (inr x) = inr (rw (was b Kind refl i l, was b TaskSlots refl i l) x.0, x.1)

  -- no link leads to the new object
  none_leads : (j e : ℕ) → e < s Links 0 + 1 → Holds (leads_to s (next s) j e) → ⊥
  none_leads j e m x = let a = (ends_old e m).1 in let q = x.0 in omega arith

  new-slot : (j : ℕ) → j < 16 → Holds (slot (grown s g) (next s) j)
  new-slot j m = go (decide (is_kind g task (next s) and suc j ≼ g TaskSlots (next s))) ((nothing b h).slots j m)
    where
      at_most : (suc j ≤ g TaskSlots (next s) → ⊥) → g TaskSlots (next s) ≤ j
      at_most f = omega arith

      go : Case (is_kind g task (next s) and suc j ≼ g TaskSlots (next s)) → Holds (no_slot s (at (next s) j))
          → Holds (slot (grown s g) (next s) j)
      go (it_does x) z = inl (x.0, (x.1, inl (z.0, (z.1.0, (z.1.1, λ y. none_leads j y.0 y.1 y.2)))))
      go (it_does_not n) z = inr (λ q. at_most (λ y. n (q, y)), z)

  grown-slots : Holds (says slots (grown s g))
  grown-slots =
      each_more _ (next s) (λ i m j n. let l : i ≤ s Objects 0 = omega arith in old_slot i j l (h slots i m j n)) new-slot

  old_link : (l : ℕ) → l < s Links 0 + 1 → Holds (is_link s l) → Holds (is_link (grown s g) l)
  old_link l m x = link_of l (grown s g) now
    where
      v : AllOf (link_row l) s
      v = link_by_name l s x

      a : s LinkSource l ≤ s Objects 0
      a = (ends_old l m).0

      c : s LinkTarget l ≤ s Objects 0
      c = (ends_old l m).1

      now : (n : Linked) → Holds (link_says l n (grown s g))
      now source_made = made_stays _ (v source_made)
      now source_event = was b Kind refl _ a ∙ v source_event
      now target_made = made_stays _ (v target_made)
      now target_kind = rw (was b Kind refl _ c, was b EventType refl _ c) (v target_kind)
      now has_slot_lem = rw (was b Kind refl _ c, was b TaskSlots refl _ c, was b EventType refl _ c) (v has_slot_lem)
      now agreeing = rw (was b EventState refl _ a) (v agreeing)

  -- a slot's payload is an old block, or none
  payload_old : (i : ℕ) → i < 16 * next s → s SlotPayload i ≤ s Objects 0
  payload_old i l =
      let x = h slots (i / 16) (place_owner (next s) i l) (i % 16) (place_low i) in
      subst (λ e. s SlotPayload e ≤ s Objects 0) (sym (place_split i)) (go (i / 16) (i % 16) (slot-place s (i / 16) (i % 16) x))
    where
      null_or_made : (p : ℕ) → Holds (is_payload s p) → p ≤ s Objects 0
      null_or_made p (inl e) = omega arith
      null_or_made p (inr x) = x.0.1

      go : (t j : ℕ) → Holds (no_slot s (at t j)) ⊎ Holds (claimed s t j) → s SlotPayload (at t j) ≤ s Objects 0
      go t j (inl z) = let none = z.1.1 in omega arith
      go t j (inr x) = null_or_made (s SlotPayload (at t j)) (claimed_by_name t j s x payload)

  grown-compatible : Holds (says compatible (grown s g))
  grown-compatible i l e =
      let m : i < 16 * next s = old_place i l e in
      let p : s SlotPayload i ≤ s Objects 0 = payload_old i m in
      rw (was b BlockHeld refl (s SlotPayload i) p, was b BlockCreator refl (s SlotPayload i) p) (h compatible i m e)

  -- the rules of another shape
  beside : (n : Name) → Due_beside n → Holds (says n (grown s g))
  beside counts due = let l = h counts in let m = b.room in (omega arith, (m, l.1.1))
  beside kinds due = grown-kinds
  beside roots due = grown-roots
  beside slots due = grown-slots
  beside links due = λ l m. or_map (old_link l m) (h links l m)
  beside one_link due = λ l m e n q. h one_link l m e n (sym (was b Kind refl (s LinkTarget l) (ends_old l m).1) ∙ q)
  beside compatible due = grown-compatible
  beside free_slots due = λ i m l. h free_slots i m (omega arith)
  beside Rattle.laws.specs.Rows.template_parts x' = elim x' [ ]
  beside Rattle.laws.specs.Rows.task_parts x'' = elim x'' [ ]
  beside event_parts x3 = elim x3 [ ]
  beside block_parts x4 = elim x4 [ ]
  beside creators x5 = elim x5 [ ]
  beside outputs x6 = elim x6 [ ]
  beside Rattle.laws.specs.Rows.states x7 = elim x7 [ ]
  beside blocks x8 = elim x8 [ ]
  beside Rattle.laws.specs.Rows.latches x9 = elim x9 [ ]
  beside Rattle.laws.specs.Rows.counted_events x10 = elim x10 [ ]
  beside Rattle.laws.specs.Rows.dropped x11 = elim x11 [ ]
  beside free_links x12 = elim x12 [ ]
  beside Rattle.laws.specs.Rows.settled x13 = elim x13 [ ]

  pub made_keeps : ((n : Name) → New k n → Holds (says_of n g (next s))) → But (outputs ∷ []) g
  made_keeps new = subst (But (outputs ∷ [])) (built_grown s g b.built) (kept_by (outputs ∷ []) (grown-writes s g) h shows)
    where
      shows : (n : Name) → Due written (outputs ∷ []) n → Holds (says n (grown s g))
      shows n d = go (is_each (row n).shape) refl
        where
          go : (c : Bool) → is_each (row n).shape ≡ c → Holds (says n (grown s g))
          go true e = each_lasts b h (row n).shape e (due_held s written (outputs ∷ []) h n d) (elsewhere n) (new n)
          go false e = beside n (rw e d)
