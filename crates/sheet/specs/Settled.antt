-- The rule that `kept` has beyond `sound`, link by link: the code looks at each link once.
use Rattle.std.specs.Prelude.{ℕ, suc, ◌+◌, ◌≤◌, ◌<◌, ◌≡◌, refl, true, false, ◌⊎◌, [], ◌∷◌, eqb}
use Rattle.std.proofs.Common.{sym, ◌∙◌, inl, inr, arith}
use Rattle.session.specs.Table.{Session}
use Rattle.session.specs.declared.Field.TheVariants.{Objects, Links, TaskSlots, SlotMark, LinkTarget, LinkSlot, LinkState}
use Rattle.session.specs.Names.{delivered, most_objects, most_links, slot_places}
use Rattle.rules.specs.Formula.{Formula, Holds, test, not, Formula.◌≐◌, Formula.◌≼◌, Formula.◌and◌, Formula.◌then◌, Formula.each}
use Rattle.rules.specs.FormulaLaws.{Case, decide, passes, fails, test_then, Case.it_does, Case.it_does_not, test-same}
use Rattle.rules.specs.Reading.{at}
use Rattle.rules.specs.Sound.{sound, kept, settled, is_link}
use Rattle.laws.specs.Rows.Name.{counts, task_parts, links, free_links, settled as its-settled}
use Rattle.laws.specs.Keeping.{But}
use Rattle.laws.specs.ByName.{sound_by_name, by_name, kept-sound, kept_from}
use Rattle.laws.specs.Conjuncts.{no_link_lem, link_by_name, Linked.target_made as to_made}
use Rattle.laws.specs.SlotPlaces.{part-slots}
use Rattle.rules.specs.Bools.{test_eq}

module _ (s : Session) where
  -- a link that is not delivered leads to no slot of a task, or to one that is not satisfied
  abbrev pub link_settled : ℕ → Formula
  link_settled l =
      not (s LinkState l ≐ delivered) and suc (s LinkSlot l) ≼ s TaskSlots (s LinkTarget l)
      then s SlotMark (at (s LinkTarget l) (s LinkSlot l)) ≐ 0

  -- a link and where it leads have places in memory
  pub record Leads (l : ℕ) : Type 0 where
    pub link : l ≤ most_links
    pub target : s LinkTarget l ≤ most_objects
    pub slots : s TaskSlots (s LinkTarget l) ≤ 16

  module _ (l : ℕ) where
    -- the cases of a link, as the code finds them: its target, its slot, how many slots the target has and the slot's mark
    pub link_delivered : s LinkState l ≡ delivered → true ≡ test (link_settled l)
    link_delivered e = sym (passes (link_settled l) (λ x. absurd (x.0 e)))

    module _ (t j n : ℕ) (et : t ≡ s LinkTarget l) (ej : j ≡ s LinkSlot l) (en : n ≡ s TaskSlots t) where
      pub slot-place : Leads l → j < n → at t j < slot_places
      slot-place p h =
          let e = rw et at en in
          omega arith

      pub link_past : n ≤ j → true ≡ test (link_settled l)
      link_past h =
          let e = rw et at en in
          sym (passes (link_settled l) (λ x. absurd (let y = x.1 in omega arith)))

      pub link_marked : (m : ℕ) → (s LinkState l ≡ delivered → ⊥) → j < n → m ≡ s SlotMark (at t j)
          → eqb m 0 ≡ test (link_settled l)
      link_marked m f h em =
          let e = rw et at en in
          let q = rw (et, ej) at em in
          let mark = s SlotMark (at (s LinkTarget l) (s LinkSlot l)) in
          let leads_on = not (s LinkState l ≐ delivered) and suc (s LinkSlot l) ≼ s TaskSlots (s LinkTarget l) in
          rw q (sym (test_then leads_on (mark ≐ 0) (f, omega arith) ∙ test_eq mark 0))

  module _ (is : Holds (sound s)) where
    r : But (its-settled ∷ []) s
    r = sound_by_name s is

    -- a link's target is an object, or 0 for link 0
    target_made : (l : ℕ) → l < s Links 0 + 1 → s LinkTarget l < s Objects 0 + 1
    target_made l h = go (r links l h)
      where
        go : (l ≡ 0) ⊎ Holds (is_link s l) → s LinkTarget l < s Objects 0 + 1
        go (inl z) = let e = (no_link_lem s 0 (r free_links).0).no_target in rw z (omega arith)
        go (inr x) = let m = (link_by_name l s x to_made).1 in omega arith

    pub leads : (l : ℕ) → l < s Links 0 + 1 → Leads l
    leads l h =
        let c = r counts in
        let m = target_made l h in
        record {
          link = omega (arith, c.1.1);
          target = omega (arith, c.1.0);
          slots = part-slots s (s LinkTarget l) (r task_parts (s LinkTarget l) (omega (arith, c.1.0)));
        }

    -- looking at each link is looking at each slot
    pub settled-links : test (each (s Links 0 + 1) link_settled) ≡ test (settled s)
    settled-links = test-same (each (s Links 0 + 1) link_settled) (settled s) to from
      where
        to : Holds (each (s Links 0 + 1) link_settled) → Holds (settled s)
        to f t ht j hj m x =
            let e = rw (x.2.0.0, x.2.0.1) at (f x.0 x.1) in
            omega (arith, e (x.2.1, hj))

        from : Holds (settled s) → Holds (each (s Links 0 + 1) link_settled)
        from f l h x = go (decide (s SlotMark (at (s LinkTarget l) (s LinkSlot l)) ≐ 0))
          where
            go : Case (s SlotMark (at (s LinkTarget l) (s LinkSlot l)) ≐ 0) → s SlotMark (at (s LinkTarget l) (s LinkSlot l)) ≡ 0
            go (it_does e) = e
            go (it_does_not n) =
                absurd (f (s LinkTarget l) (target_made l h) (s LinkSlot l) x.1 (omega arith) (l, h, ((refl, refl), x.0)))

-- a sound session is kept exactly if it is settled
pub kept_test : (s : Session) → Holds (sound s) → test (kept s) ≡ test (settled s)
kept_test s h = test-same (kept s) (settled s) (λ k. by_name s k its-settled) (kept_from s h)

pub kept-not : (s : Session) → (Holds (sound s) → ⊥) → test (kept s) ≡ false
kept-not s f = fails (kept s) (λ k. f (kept-sound s k))
