-- How far the scan of a grant has come: over the pre-slots, and for one that claims a block over the holds.
use Rattle.std.specs.Prelude.{ℕ, zero, suc, ◌+◌, ◌*◌, ◌/◌, ◌%◌, ◌≤◌, ◌<◌, ◌≡◌, refl, List, [], ◌∷◌, ◌++◌, Bool, ◌⊎◌, length, get_or}
use Rattle.std.proofs.Common.{sym, ap, subst, ◌∙◌, inl, below_more, length-append}
use Rattle.std.proofs.Math.Logic.{inr}
use native.Mathlib.Omega.{arith}
use Rattle.std.proofs.Math.Decide.{dec_lt}
use Rattle.std.proofs.Math.ListN.{get_or-append}
use Rattle.std.proofs.lemmas.List.{get_or_at}
use Rattle.session.specs.Table.{Session, at}
use Rattle.session.specs.declared.Field.TheVariants.{Objects, TaskState, TaskSlots, SlotMode, SlotMark, SlotPayload}
use Rattle.session.specs.Names.{resolved, granted, running, held, mode_ro}
use Rattle.rules.specs.declared.Slot.{Slot}
use Rattle.rules.specs.declared.Task.{Task}
use Rattle.rules.specs.Formula.{Formula, Holds, not, test, Formula.◌≐◌, Formula.◌and◌, Formula.some}
use Rattle.rules.specs.FormulaLaws.{Case, decide, test-same, Case.it_does, Case.it_does_not}
use Rattle.rules.specs.Modes.{stopped_by}
use Rattle.rules.specs.ModeLaws.{stopped_not_ro}
use Rattle.rules.specs.Checks.{slot_free, slot_stops}
use Rattle.rules.specs.Sound.{sound}
use Rattle.laws.specs.Rows.Name.{kinds, task_parts}
use Rattle.laws.specs.ByName.{sound_by_name}
use Rattle.laws.specs.Conjuncts.{no_task}
use Rattle.checks.specs.SoundParts.{Hold, hold_at, few_objects}
use Rattle.reading.specs.Holders.{Passed}
use Rattle.checks.specs.HolderList.{Listed, is_hold, place_of, reach, place_few, place-first, place-number}
use Rattle.checks.specs.GrantChecks.{slot_at, task_at, up_to, is_claim, clash, maker_clash, hold_clash}

length-up_to : {A : Type 0} (n : ℕ) (f : ℕ → A) → length (up_to n f) ≡ n
unfolding up_to
length-up_to zero f = refl
length-up_to (suc n) f = length-append (up_to n f) (f n ∷ []) ∙ omega (arith, length-up_to n f)

get_or-up_to : {A : Type 0} (n : ℕ) (f : ℕ → A) (d : A) (j : ℕ) → j < n → get_or (up_to n f) j d ≡ f j
unfolding up_to
get_or-up_to zero f d j h = absurd (none h)
  where
    none : j < 0 → ⊥
    none h = omega arith
get_or-up_to (suc n) f d j h = go (dec_lt j n) (λ l. get_or-up_to n f d j l)
  where
    go : Dec (j < n) → (j < n → get_or (up_to n f) j d ≡ f j) → get_or (up_to n f ++ (f n ∷ [])) j d ≡ f j
    go (yes l) r = get_or-append (up_to n f) (f n ∷ []) d j (omega (arith, length-up_to n f)) ∙ r l
    go (no m) r =
        let e : n ≡ j = omega arith in
        get_or_at (up_to n f) (f n) [] d j (length-up_to n f ∙ e) ∙ ap f e

-- what an array of slots is said to have past its end
abbrev pub blank : Slot
blank = record { mode = 0; mark = 0; payload = 0 }

-- what a task's record says of its slots and of their number
pub record_slot : (s : Session) (t : ℕ) (r : Task) → r ≡ task_at s t → (j : ℕ) → j < 16
    → get_or r.slots j blank ≡ slot_at s (at t j)
unfolding task_at
record_slot s t r e j h = ap (λ (x : Task). get_or x.slots j blank) e ∙ get_or-up_to 16 (λ j. slot_at s (at t j)) blank j h

pub record_count : (s : Session) (t : ℕ) (r : Task) → r ≡ task_at s t → r.count ≡ s TaskSlots t
unfolding task_at
record_count s t r e = ap (λ (x : Task). x.count) e

-- a formula holds at every place below j
pub record Through (f : ℕ → Formula) (j : ℕ) : Type 0 where
  pub all : (i : ℕ) → i < j → Holds (f i)

pub through_none : (f : ℕ → Formula) → Through f 0
through_none f = record { all = λ i h. absurd (none i h) }
  where
    none : (i : ℕ) → i < 0 → ⊥
    none i h = omega arith

pub through-more : (f : ℕ → Formula) (j : ℕ) → Through f j → Holds (f j) → Through f (j + 1)
through-more f j r h = record { all = below_more (λ (i : ℕ). Holds (f i)) j r.all h }

-- what the hold at a place is asked, at place 0 and at any other
module _ {r : Bool} (s : Session) (t : ℕ) (p : Slot) (k : ℕ) where
  pub from_creation : k ≡ 0 → r ≡ test (maker_clash s t p) → r ≡ test (hold_clash s t p k)
  from_creation z e = e ∙ test-same (maker_clash s t p) (hold_clash s t p k) (λ x. inl (z, x)) back
    where
      back : Holds (hold_clash s t p k) → Holds (maker_clash s t p)
      back (inl x) = x.1
      back (inr x) = absurd (x.0 z)

  pub by_slot : (k ≡ 0 → ⊥) → s SlotMark k ≡ held → r ≡ test (clash p (slot_at s k)) → r ≡ test (hold_clash s t p k)
  by_slot n h e = e ∙ test-same (clash p (slot_at s k)) (hold_clash s t p k) (λ x. inr (n, (h, x))) back
    where
      back : Holds (hold_clash s t p k) → Holds (clash p (slot_at s k))
      back (inl x) = absurd (n x.0)
      back (inr x) = x.1.1

pub no_hold : (s : Session) (t : ℕ) (p : Slot) (k : ℕ) → (k ≡ 0 → ⊥) → (s SlotMark k ≡ held → ⊥) → Holds (hold_clash s t p k) → ⊥
no_hold s t p k n m (inl x) = n x.0
no_hold s t p k n m (inr x) = m x.1.0

-- no hold with a number below q stops what pre-slot p of t asks for
abbrev pub Scanned : Session → ℕ → Slot → List ℕ → ℕ → Type 0
Scanned s t p g q = Through (λ i. not (hold_clash s t p (place_of g i))) q

-- one hold more, and on to the next
pub scan_more : (s : Session) (t : ℕ) (p : Slot) (g : List ℕ) (q r : ℕ) → Scanned s t p g q
    → (Holds (hold_clash s t p (place_of g q)) → ⊥) → (place_of g 0 ≡ 0) → Passed (λ i. is_hold s (place_of g i)) (q + 1) r
    → Scanned s t p g r
scan_more s t p g q r c n z o = record { all = λ i l. go i l (dec_lt i (q + 1)) }
  where
    passed : Scanned s t p g (q + 1)
    passed = through-more (λ i. not (hold_clash s t p (place_of g i))) q c n

    -- a place that is passed over holds nothing, or is the first once more
    over : (i : ℕ) → i < r → q + 1 ≤ i → Holds (hold_clash s t p (place_of g i)) → ⊥
    over i l m (inl y) = passed.all 0 (omega arith) (inl (z, y.1))
    over i l m (inr y) = o.none i l m y.1.0

    go : (i : ℕ) → i < r → Dec (i < q + 1) → Holds (hold_clash s t p (place_of g i)) → ⊥
    go i l (yes b) = passed.all i b
    go i l (no b) = over i l (omega arith)

-- the same with more of them
pub scan_same : (s : Session) (t : ℕ) (p : Slot) (g k : List ℕ) (n q : ℕ) → ((i : ℕ) → i < n → get_or k i 0 ≡ get_or g i 0)
    → q ≤ 16 * n → Scanned s t p g q → Scanned s t p k q
unfolding place_of
scan_same s t p g k n q e few c =
    record { all = λ i l. subst (λ (j : ℕ). Holds (not (hold_clash s t p j))) (same i (omega arith)) (c.all i l) }
  where
    same : (i : ℕ) → i < 16 * n → place_of g i ≡ place_of k i
    same i l = ap (λ (a : ℕ). 16 * a + i % 16) (sym (e (i / 16) (omega arith)))

-- handle 0 has no slots
no_slots : (s : Session) → Holds (sound s) → s TaskSlots 0 ≡ 0
no_slots s h =
    let r = sound_by_name s h in
    (no_task s 0 (λ k. let z = (r kinds).0 in omega arith) (r task_parts 0 (omega arith))).no_slots

module _ (s : Session) (t j : ℕ) (h : Holds (sound s)) (g : List ℕ) (n : ℕ) (y : Listed s g n) where
  -- a scan that found nothing
  pub free_scanned : (q : ℕ) → s Objects 0 < reach g n → 16 * n ≤ q → Scanned s t (slot_at s (at t j)) g q
      → Holds (is_claim (slot_at s (at t j))) → Holds (slot_free s t (at t j))
  unfolding slot_at
  free_scanned q up few c claim =
      inr (
        (λ x. slot x.0 x.1 x.2),
        λ x. c.all 0 (let m = y.some in omega arith)
            (inl (place-first s g n y, (claim.0, x))),
      )
    where
      slot : (k : ℕ) → k < 16 * (s Objects 0 + 1)
          → Holds (not (k / 16 ≐ t) and s SlotMark k ≐ held and s SlotPayload k ≐ s SlotPayload (at t j) and stopped_by
          (s SlotMode (at t j)) (s SlotMode k)) → ⊥
      slot k low x = go (place-number s g n y k (let m = o.made in omega arith) o.owner)
        where
          o : Hold s k
          o = hold_at s h k (let f = few_objects s h in omega arith) x.1.0

          first : k ≡ 0 → k % 16 < s TaskSlots (k / 16) → ⊥
          first z u = let u' : 0 < s TaskSlots 0 = rw z at u in let e = no_slots s h in omega arith

          go : (i : ℕ) × (i < 16 * n) × (place_of g i ≡ k) → ⊥
          go (i, l, e) =
              c.all i (omega arith)
              (subst (λ (m : ℕ). Holds (hold_clash s t (slot_at s (at t j)) m)) (sym e) (inr ((λ z. first z o.used), x.1)))

  -- a hold in conflict
  pub taken : s TaskState t ≡ resolved → (q : ℕ) → q < 16 * n → Holds (is_claim (slot_at s (at t j)))
      → Holds (hold_clash s t (slot_at s (at t j)) (place_of g q)) → Holds (slot_free s t (at t j)) → ⊥
  unfolding slot_at
  taken r q l claim x (inl z) = claim.0 z
  taken r q l claim (inl x) (inr z) = z.1 x.1.1
  taken r q l claim (inr x) (inr z) = go (hold_at s h (place_of g q) (place_few s g n y q l) x.1.0)
    where
      other : (k : ℕ) → (s TaskState (k / 16) ≡ granted) ⊎ (s TaskState (k / 16) ≡ running) → k / 16 ≡ t → ⊥
      other k (inl w) e = let r' : s TaskState (k / 16) ≡ resolved = rw e r in omega arith
      other k (inr w) e = let r' : s TaskState (k / 16) ≡ resolved = rw e r in omega arith

      go : Hold s (place_of g q) → ⊥
      go o = z.0 (place_of g q, (let m = o.made in omega arith), (other (place_of g q) o.owner, x.1))

-- what a pre-slot that claims nothing asks for is free
pub free_unclaimed : (s : Session) (t i : ℕ) → (Holds (is_claim (slot_at s i)) → ⊥) → Holds (slot_free s t i)
unfolding slot_at
free_unclaimed s t i n = go (decide (s SlotPayload i ≐ 0)) (decide (s SlotMode i ≐ mode_ro))
  where
    go : Case (s SlotPayload i ≐ 0) → Case (s SlotMode i ≐ mode_ro) → Holds (slot_free s t i)
    go (it_does z) d = inl z
    go (it_does_not z) (it_does o) = inr (no_slot_lem, λ x. stopped_not_ro _ _ x.1.1 o)
      where
        no_slot_lem : Holds (some (16 * (s Objects 0 + 1)) (slot_stops s t i)) → ⊥
        no_slot_lem (k, b, (other, (mark, (block, stopped)))) = stopped_not_ro _ _ stopped o
    go (it_does_not z) (it_does_not o) = absurd (n (z, o))
