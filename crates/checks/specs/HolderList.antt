-- A list of the tasks that hold blocks by their slots, as far as they were looked for, and how the places of their slots are numbered.
use Rattle.std.specs.Prelude.{ℕ, ◌+◌, ◌*◌, ◌-◌, ◌/◌, ◌%◌, ◌≤◌, ◌<◌, ◌≡◌, List, length, set}
use Rattle.std.proofs.Math.Path.{ap}
use Rattle.std.proofs.Common.{◌∙◌, length-set, get_or-set_same, get_or-set_other}
use native.Mathlib.Omega.{arith}
use Rattle.std.proofs.Math.Decide.{dec_lt}
use Rattle.std.proofs.Math.ListN.{get_or}
use Rattle.session.specs.Table.{Session}
use Rattle.session.specs.declared.Field.TheVariants.{Objects, TaskSlots, SlotMark}
use Rattle.session.specs.Names.{held, most_objects, object_places, slot_places}
use Rattle.rules.specs.Formula.{Formula, Holds, Formula.◌≐◌}
use Rattle.rules.specs.Sound.{sound}
use Rattle.reading.specs.Holders.{is_holder, Passed}
use Rattle.checks.specs.SoundParts.{Hold, hold_at}

-- the slot at place k holds its block
abbrev pub is_hold : Session → ℕ → Formula
is_hold s k = s SlotMark k ≐ held

-- a list of handles, as of holders: number q of the places of their slots
unfoldable pub place_of : List ℕ → ℕ → ℕ
place_of g q = 16 * get_or g (q / 16) 0 + q % 16

-- one past the last of n handles
abbrev pub reach : List ℕ → ℕ → ℕ
reach g n = get_or g (n - 1) 0 + 1

-- n handles, of which the first is null, with every holder that is as low as the last of them
pub record Listed (s : Session) (g : List ℕ) (n : ℕ) : Type 0 where
  pub size : length g ≡ object_places
  pub some : 1 ≤ n
  pub short : n ≤ reach g n
  pub first : get_or g 0 0 ≡ 0
  pub low : (p : ℕ) → p < n → get_or g p 0 ≤ most_objects
  pub all : (h : ℕ) → h < reach g n → Holds (is_holder s h) → (p : ℕ) × (p < n) × (get_or g p 0 ≡ h)

-- r handles instead of n, the same as far as there were; they go up to the last one if number q is past their places
pub record More (s : Session) (g k : List ℕ) (n r q : ℕ) : Type 0 where
  pub listed : Listed s k r
  pub up : n ≤ r
  pub same : (p : ℕ) → p < n → get_or k p 0 ≡ get_or g p 0
  pub done : 16 * r ≤ q → s Objects 0 < reach k r

place_owner : (g : List ℕ) (q : ℕ) → place_of g q / 16 ≡ get_or g (q / 16) 0
unfolding place_of
place_owner g q = omega arith

place-slot : (g : List ℕ) (q : ℕ) → place_of g q % 16 ≡ q % 16
unfolding place_of
place-slot g q = omega arith

module _ (s : Session) (g : List ℕ) (n : ℕ) (x : Listed s g n) where
  pub listed_few : n ≤ object_places
  listed_few = let a = x.low (n - 1) (let m = x.some in omega arith) in let b = x.short in omega arith

  pub place_few : (q : ℕ) → q < 16 * n → place_of g q < slot_places
  unfolding place_of
  place_few q l = let a = x.low (q / 16) (omega arith) in omega arith

  -- the place of number 0
  pub place-first : place_of g 0 ≡ 0
  unfolding place_of
  place-first = ap (λ (h : ℕ). 16 * h + 0) x.first

  -- every hold is at the place of some number
  pub place-number : (k : ℕ) → k / 16 < reach g n → Holds (is_holder s (k / 16)) → (q : ℕ) × (q < 16 * n) × (place_of g q ≡ k)
  unfolding place_of
  place-number k l h = go (x.all (k / 16) l h)
    where
      go : (p : ℕ) × (p < n) × (get_or g p 0 ≡ k / 16) → (q : ℕ) × (q < 16 * n) × (place_of g q ≡ k)
      go (p, m, a) =
          let e : (16 * p + k % 16) / 16 ≡ p = omega arith in
          let b : get_or g ((16 * p + k % 16) / 16) 0 ≡ k / 16 = rw e a in
          (16 * p + k % 16, omega arith, omega arith)

  -- one handle more
  listed_more : (r : ℕ) → r ≤ most_objects → Passed (is_holder s) (reach g n) r → Listed s (set g n r) (n + 1)
  listed_more r few y = record {
    size = length-set g n r ∙ x.size;
    some = omega arith;
    short = let e = last in let b = x.short in let m = y.from in omega arith;
    first = get_or-set_other g n 0 r 0 (let m = x.some in λ z. omega arith) ∙ x.first;
    low = λ p m. lower p m (dec_lt p n);
    all = λ h m o. has h m o (dec_lt h (reach g n)) (dec_lt h r);
  }
    where
      l : n < length g
      l = let e = x.size in let b = x.short in let m = y.from in omega arith

      last : get_or (set g n r) (n + 1 - 1) 0 ≡ r
      last = let e : n + 1 - 1 ≡ n = omega arith in rw e (get_or-set_same g n r 0 l)

      lower : (p : ℕ) → p < n + 1 → Dec (p < n) → get_or (set g n r) p 0 ≤ most_objects
      lower p m (yes b) = rw (get_or-set_other g n p r 0 (λ z. omega arith)) (x.low p b)
      lower p m (no b) = let e : p ≡ n = omega arith in rw (e, get_or-set_same g n r 0 l) few

      has : (h : ℕ) → h < reach (set g n r) (n + 1) → Holds (is_holder s h) → Dec (h < reach g n) → Dec (h < r)
          → (p : ℕ) × (p < n + 1) × (get_or (set g n r) p 0 ≡ h)
      has h m o (yes b) d =
          let q = x.all h b o in
          (q.0, (let i = q.1 in omega arith), get_or-set_other g n q.0 r 0 (λ z. let i = q.1 in omega arith) ∙ q.2)
      has h m o (no b) (yes d) = absurd (y.none h d (omega arith) o)
      has h m o (no b) (no d) = let e = last in (n, omega arith, get_or-set_same g n r 0 l ∙ omega arith)

  pub more-listed : (r q : ℕ) → q ≤ 16 * n → r ≤ most_objects → Passed (is_holder s) (reach g n) r
      → More s g (set g n r) n (n + 1) q
  more-listed r q l few y = record {
    listed = listed_more r few y;
    up = omega arith;
    same = λ p m. get_or-set_other g n p r 0 (λ z. omega arith);
    done = λ m. absurd (omega arith);
  }

  -- past a holder's last slot nothing holds
  pub pass_unused : Holds (sound s) → (q : ℕ) → q < 16 * n → s TaskSlots (get_or g (q / 16) 0) ≤ q % 16 + 1
      → Passed (λ i. is_hold s (place_of g i)) (q + 1) (16 * (q / 16 + 1))
  pass_unused h q m u =
      record { from = omega arith; none = λ i c l y. go i c l (hold_at s h (place_of g i) (place_few i (omega arith)) y) }
    where
      go : (i : ℕ) → i < 16 * (q / 16 + 1) → q + 1 ≤ i → Hold s (place_of g i) → ⊥
      go i c l o =
          let e : i / 16 ≡ q / 16 = omega arith in
          let w : i % 16 < s TaskSlots (get_or g (q / 16) 0) = rw (place-slot g i, place_owner g i, e) at o.used in
          omega arith

-- the null handle alone
pub listed-first : (s : Session) (g : List ℕ) → length g ≡ object_places → get_or g 0 0 ≡ 0 → Listed s g 1
listed-first s g size z = record {
  size = size;
  some = omega arith;
  short = omega arith;
  first = z;
  low = λ p m. let e : p ≡ 0 = omega arith in rw e (omega arith);
  all = λ h m o. (0, omega arith, omega arith);
}
