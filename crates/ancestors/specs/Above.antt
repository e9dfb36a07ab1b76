-- The tasks above a task: its creator, that one's creator and so on; and marks that show which tasks have a live descendant.
use Prim.Native.Nat.{ℕ, zero, suc, ◌+◌, ◌≤◌, ◌<◌}
use Rattle.std.specs.Prelude.{◌≡◌, refl, List, ◌⊎◌, length, set, replicate}
use Rattle.std.proofs.Common.{sym, ◌∙◌, subst, ap, get_or-set_same, get_or-set_other}
use Rattle.std.proofs.Math.Logic.{inl, inr}
use native.Mathlib.Omega.{arith}
use Rattle.std.proofs.Math.Decide.{dec_lt}
use Rattle.std.proofs.Math.ListN.{get_or}
use Rattle.std.proofs.lemmas.List.{get_or-replicate}
use Rattle.session.specs.Names.{most_objects, object_places}
use Rattle.session.specs.Table.{Session}
use Rattle.session.specs.declared.Field.TheVariants.{Objects, TaskCreator}
use Rattle.rules.specs.Formula.{Formula, Holds, choose, Formula.◌and◌, Formula.some, Formula.never}
use Rattle.rules.specs.FormulaLaws.{Case, decide, choose_yes, choose_no, choose-same, Case.it_does, Case.it_does_not}
use Rattle.rules.specs.Reading.{is_live}
use Rattle.rules.specs.Descendants.{under, busy}
use Rattle.laws.specs.Places.{Places, places, Places.one, Places.two}
use Rattle.laws.specs.Under.{under_enough, under_down, under_up, under_lower, Falls}

pub creator_low : (s : Session) → Falls s → (h : ℕ) → h ≤ s Objects 0 → s TaskCreator h ≤ h
creator_low s falls h l = go (dec_lt 0 (s TaskCreator h))
  where
    go : Dec (0 < s TaskCreator h) → s TaskCreator h ≤ h
    go (yes p) = let f = falls h l p in omega arith
    go (no n) = omega arith

-- the marks have 1 where the formula holds and 0 elsewhere
unfoldable pub Shows : List ℕ → (ℕ → Formula) → Type 0
Shows m f = (a : ℕ) → a < object_places → get_or m a 0 ≡ choose (f a) 1 0

-- some descendant of a among the first n handles is live
unfoldable pub busy_below : Session → ℕ → ℕ → Formula
busy_below s n a = some n (λ h. is_live s h and under (s TaskCreator) h h a)

-- whatever is marked, and is not h, has a marked creator or none
unfoldable pub ClosedBut : Session → List ℕ → ℕ → Type 0
ClosedBut s m h = (a : ℕ) → a < object_places → (a ≡ h → ⊥) → get_or m a 0 ≡ 1 → 1 ≤ s TaskCreator a → get_or m (s TaskCreator a) 0 ≡ 1

-- after has a mark at each task above h, and is otherwise as before was
pub record Above (s : Session) (before after : List ℕ) (h : ℕ) : Type 0 where
  pub same_length : length after ≡ length before
  pub marks : (a : ℕ) → a < object_places → get_or after a 0 ≡ choose (under (s TaskCreator) h h a) 1 (get_or before a 0)

-- a mark is 1 exactly where the formula holds
marked-holds : (f : Formula) → ◌≡◌ {A = ℕ} (choose f 1 0) 1 → Holds f
marked-holds f e = go (decide f)
  where
    go : Case f → Holds f
    go (it_does h) = h
    go (it_does_not n) = let z : ◌≡◌ {A = ℕ} 0 1 = sym (choose_no f 1 0 n) ∙ e in absurd (omega arith)

module _ (s : Session) (falls : Falls s) where
  abbrev c : ℕ → ℕ
  c = s TaskCreator

  -- the creator of whoever stands above stands above
  under_next : (n h a : ℕ) → 1 ≤ c a → Holds (under c n h a) → Holds (under c (suc n) h (c a))
  unfolding under
  under_next zero h a m x = absurd x
  under_next (suc n) h a m x = (x.0, go (under_next n (c h) a m) x.1)
    where
      go : (Holds (under c n (c h) a) → Holds (under c (suc n) (c h) (c a))) → (c h ≡ a) ⊎ Holds (under c n (c h) a)
          → (c h ≡ c a) ⊎ Holds (under c (suc n) (c h) (c a))
      go r (inl e) = inr (subst (λ (k : ℕ). 1 ≤ c k) (sym e) m, inl (ap c e))
      go r (inr y) = inr (r y)

  -- all above a marked task are marked
  marked-above : (m : List ℕ) (h : ℕ) → s Objects 0 ≤ most_objects → h ≤ s Objects 0 → ClosedBut s m h → (n k a : ℕ) → k < h
      → get_or m k 0 ≡ 1 → Holds (under c n k a) → get_or m a 0 ≡ 1
  unfolding under ClosedBut
  marked-above m h b l closed zero k a kh e x = absurd x
  marked-above m h b l closed (suc n) k a kh e x = go (marked-above m h b l closed n (c k) a) x.1
    where
      f : c k < k
      f = falls k (omega arith) x.0

      next : get_or m (c k) 0 ≡ 1
      next = closed k (omega arith) (λ q. omega arith) e x.0

      go : (c k < h → get_or m (c k) 0 ≡ 1 → Holds (under c n (c k) a) → get_or m a 0 ≡ 1) → (c k ≡ a) ⊎ Holds (under c n (c k) a)
          → get_or m a 0 ≡ 1
      go r (inl q) = subst (λ (i : ℕ). get_or m i 0 ≡ 1) q next
      go r (inr y) = r (omega (arith, f)) next y

  -- the walk ends where there is no creator
  nobody_above : (h a : ℕ) → c h ≡ 0 → Holds (under c h h a) → ⊥
  unfolding under
  nobody_above zero a e x = x
  nobody_above (suc k) a e x = let z = x.0 in omega arith

  pub above_none : (m : List ℕ) (h : ℕ) → c h ≡ 0 → Above s m m h
  above_none m h e =
      record { same_length = refl; marks = λ a b. sym (choose_no (under c h h a) 1 (get_or m a 0) (nobody_above h a e)) }

  -- and where the creator is marked already
  pub above-met : (m : List ℕ) (h : ℕ) → s Objects 0 ≤ most_objects → h ≤ s Objects 0 → ClosedBut s m h → 1 ≤ c h
      → get_or m (c h) 0 ≡ 1 → Above s m m h
  above-met m h b l closed p e = record { same_length = refl; marks = λ a q. go a (decide (under c h h a)) }
    where
      f : c h < h
      f = falls h l p

      marked : (a : ℕ) → (c h ≡ a) ⊎ Holds (under c (c h) (c h) a) → get_or m a 0 ≡ 1
      marked a (inl q) = subst (λ (i : ℕ). get_or m i 0 ≡ 1) q e
      marked a (inr y) = marked-above m h b l closed (c h) (c h) a f e y

      go : (a : ℕ) → Case (under c h h a) → get_or m a 0 ≡ choose (under c h h a) 1 (get_or m a 0)
      go a (it_does x) = marked a (under_down s falls h a l x) ∙ sym (choose_yes (under c h h a) 1 (get_or m a 0) x)
      go a (it_does_not n) = sym (choose_no (under c h h a) 1 (get_or m a 0) n)

  -- else the creator is marked, and the walk goes on from it
  pub closed-climb : (m : List ℕ) (h : ℕ) → s Objects 0 ≤ most_objects → h ≤ s Objects 0 → length m ≡ object_places
      → ClosedBut s m h → 1 ≤ c h → ClosedBut s (set m (c h) 1) (c h)
  unfolding ClosedBut
  closed-climb m h b l len closed p a q ne e up = go (places h a) (places (c h) (c a))
    where
      f : c h < h
      f = falls h l p

      here : (c h ≡ c a) → get_or (set m (c h) 1) (c a) 0 ≡ 1
      here w = subst (λ (i : ℕ). get_or (set m (c h) 1) i 0 ≡ 1) w (get_or-set_same m (c h) 1 0 (omega (arith, f)))

      go : Places h a → Places (c h) (c a) → get_or (set m (c h) 1) (c a) 0 ≡ 1
      go (one v) (one w) = here w
      go (two v) (one w) = here w
      go (one w) (two v) = here (ap c w)
      go (two w) (two v) =
          get_or-set_other m (c h) (c a) 1 0 (λ z. v (sym z))
          ∙ closed a q (λ z. w (sym z)) (sym (get_or-set_other m (c h) a 1 0 ne) ∙ e) up

  pub above-climb : (m after : List ℕ) (h : ℕ) → s Objects 0 ≤ most_objects → h ≤ s Objects 0 → length m ≡ object_places → 1 ≤ c h
      → length (set m (c h) 1) ≡ length m
      → Above s (set m (c h) 1) after (c h) → Above s m after h
  above-climb m after h b l len p same x =
      record {
        same_length = x.same_length ∙ same;
        marks = λ a q. x.marks a q ∙ go a (decide (under c (c h) (c h) a)) (places (c h) a);
      }
    where
      f : c h < h
      f = falls h l p

      to : (a : ℕ) → (c h ≡ a) ⊎ Holds (under c (c h) (c h) a) → 1 ≡ choose (under c h h a) 1 (get_or m a 0)
      to a y = sym (choose_yes (under c h h a) 1 (get_or m a 0) (under_up s falls h a l p y))

      neither : (a : ℕ) → (Holds (under c (c h) (c h) a) → ⊥) → (c h ≡ a → ⊥) → (c h ≡ a) ⊎ Holds (under c (c h) (c h) a) → ⊥
      neither a n v (inl e) = v e
      neither a n v (inr y) = n y

      go : (a : ℕ) → Case (under c (c h) (c h) a) → Places (c h) a
          → choose (under c (c h) (c h) a) 1 (get_or (set m (c h) 1) a 0) ≡ choose (under c h h a) 1 (get_or m a 0)
      go a (it_does y) w = choose_yes (under c (c h) (c h) a) 1 (get_or (set m (c h) 1) a 0) y ∙ to a (inr y)
      go a (it_does_not n) (one w) =
          choose_no (under c (c h) (c h) a) 1 (get_or (set m (c h) 1) a 0) n
          ∙ subst (λ (i : ℕ). get_or (set m (c h) 1) i 0 ≡ 1) w (get_or-set_same m (c h) 1 0 (omega (arith, f))) ∙ to a (inl w)
      go a (it_does_not n) (two w) =
          choose_no (under c (c h) (c h) a) 1 (get_or (set m (c h) 1) a 0) n
          ∙ get_or-set_other m (c h) a 1 0 (λ z. w (sym z))
          ∙ sym (choose_no (under c h h a) 1 (get_or m a 0) (λ x. neither a n w (under_down s falls h a l x)))

  -- marks of what is busy are closed
  pub shows_closed : (m : List ℕ) (h : ℕ) → s Objects 0 ≤ most_objects → h ≤ s Objects 0 → Shows m (busy_below s h)
      → ClosedBut s m h
  unfolding Shows busy_below ClosedBut
  shows_closed m h b l x a q ne e up = go (marked-holds (busy_below s h a) (sym (x a q) ∙ e))
    where
      go : Holds (busy_below s h a) → get_or m (c a) 0 ≡ 1
      go y =
          let k : ℕ = y.0 in
          let kh : k < h = y.1 in
          let u : Holds (under c k k (c a)) =
          under_enough c (s Objects 0) falls (suc k) k k (c a) (omega arith) (omega arith) (under_next k k a up y.2.1) in
          let low : c a < k = under_lower s falls k k (c a) (omega arith) u in
          x (c a) (omega arith) ∙ choose_yes (busy_below s h (c a)) 1 0 (k, kh, (y.2.0, u))

  -- one more handle looked at
  pub shows_more : (m after : List ℕ) (h : ℕ) → Holds (is_live s h) → Shows m (busy_below s h) → Above s m after h
      → Shows after (busy_below s (h + 1))
  unfolding Shows busy_below
  shows_more m after h live x r a q = r.marks a q ∙ go (decide (under c h h a))
    where
      old : (Holds (under c h h a) → ⊥) → (i : ℕ) → i < h + 1 → Holds (is_live s i and under c i i a) → Places i h
          → Holds (busy_below s h a)
      old n i b y (one e) = absurd (n (subst (λ (k : ℕ). Holds (under c k k a)) e y.1))
      old n i b y (two e) = (i, omega arith, y)

      go : Case (under c h h a) → choose (under c h h a) 1 (get_or m a 0) ≡ choose (busy_below s (h + 1) a) 1 0
      go (it_does y) =
          choose_yes (under c h h a) 1 (get_or m a 0) y ∙ sym (choose_yes (busy_below s (h + 1) a) 1 0 (h, omega arith, (live, y)))
      go (it_does_not n) =
          choose_no (under c h h a) 1 (get_or m a 0) n ∙ x a q
          ∙ choose-same (busy_below s h a) (busy_below s (h + 1) a) 1 0 (λ y. (y.0, (let b = y.1 in omega arith), y.2))
          (λ y. old n y.0 y.1 y.2 (places y.0 h))

-- a handle that is no live task adds nothing
pub shows_skip : (s : Session) (m : List ℕ) (h : ℕ) → (Holds (is_live s h) → ⊥) → Shows m (busy_below s h)
    → Shows m (busy_below s (h + 1))
unfolding Shows busy_below
shows_skip s m h dead x a q =
    x a q ∙ choose-same (busy_below s h a) (busy_below s (h + 1) a) 1 0 (λ y. (y.0, (let b = y.1 in omega arith), y.2))
    (λ y. old y.0 y.1 y.2 (places y.0 h))
  where
    old : (i : ℕ) → i < h + 1 → Holds (is_live s i and under (s TaskCreator) i i a) → Places i h → Holds (busy_below s h a)
    old i b y (one e) = absurd (dead (subst (λ (k : ℕ). Holds (is_live s k)) e y.0))
    old i b y (two e) = (i, omega arith, y)

-- before the first, and after the last
pub shows_none : (s : Session) (m : List ℕ) → Shows m (λ a. never) → Shows m (busy_below s 0)
unfolding Shows busy_below
shows_none s m x a q = x a q ∙ choose-same never (busy_below s 0 a) 1 0 (λ z. absurd z) (λ y. let b = y.1 in omega arith)

pub shows_all : (s : Session) (m : List ℕ) (n : ℕ) → n ≡ s Objects 0 + 1 → Shows m (busy_below s n) → Shows m (busy s)
unfolding Shows busy_below
shows_all s m n e x = rw e at x

pub shows_zeros : Shows (replicate object_places 0) (λ a. never)
unfolding Shows
shows_zeros a q = get_or-replicate object_places a 0 0 q ∙ sym (choose_no never 1 0 (λ z. z))
