-- Descendants: more steps than the handle change nothing, and neither do creators of later objects.
use Prim.Native.Nat.{ℕ, zero, suc, ◌+◌, ◌≤◌, ◌<◌}
use Rattle.std.specs.Prelude.{◌≡◌, refl, ◌⊎◌, [], ◌∷◌}
use Rattle.std.proofs.Common.{sym, inl, inr}
use Rattle.std.proofs.Math.Path.{subst}
use native.Mathlib.Omega.{arith}
use Rattle.std.proofs.Math.Decide.{dec_lt}
use Rattle.session.specs.Table.{Session}
use Rattle.session.specs.declared.Field.TheVariants.{Objects, Kind, TaskCreator}
use Rattle.session.specs.Names.{most_objects, task}
use Rattle.rules.specs.Formula.{Formula, Holds, Formula.◌≐◌, Formula.◌≼◌, Formula.◌and◌, Formula.◌or◌, Formula.some}
use Rattle.rules.specs.FormulaLaws.{Case, decide, Case.it_does, Case.it_does_not}
use Rattle.rules.specs.Sound.{task_part, creator}
use Rattle.rules.specs.Descendants.{under}
use Rattle.laws.specs.Rows.{says}
use Rattle.laws.specs.Rows.Name.{counts, task_parts, roots, creators, outputs}
use Rattle.laws.specs.Keeping.{But}
use Rattle.laws.specs.Conjuncts.{roots_by_name, Root.main_creator, no_task}

pub or_map : {A B C : Type 0} → (B → C) → A ⊎ B → A ⊎ C
or_map f (inl a) = inl a
or_map f (inr x) = inr (f x)

-- where creators of handles up to n are lower, as many steps as the handle are enough
pub under_enough : (c : ℕ → ℕ) (n : ℕ) → ((h : ℕ) → h ≤ n → 1 ≤ c h → c h < h) → (k m h a : ℕ) → h ≤ n → h ≤ m
    → Holds (under c k h a) → Holds (under c m h a)
unfolding under
under_enough c n falls zero m h a l e x = absurd x
under_enough c n falls (suc k) zero h a l e x = absurd (let f = falls h l x.0 in omega arith)
under_enough c n falls (suc k) (suc m) h a l e x =
    let f = falls h l x.0 in
    (x.0, or_map (under_enough c n falls k m (c h) a (omega arith) (omega arith)) x.1)

-- whom somebody stands above has a creator
pub under-made : (c : ℕ → ℕ) (h a : ℕ) → Holds (under c h h a) → 1 ≤ c h
unfolding under
under-made c zero a x = absurd x
under-made c (suc k) a x = x.0

-- creators that agree up to n give the same descendants up to n
pub under_same : (c d : ℕ → ℕ) (n : ℕ) → ((h : ℕ) → h ≤ n → c h ≡ d h) → ((h : ℕ) → h ≤ n → d h ≤ n) → (k h a : ℕ) → h ≤ n
    → Holds (under c k h a) → Holds (under d k h a)
unfolding under
under_same c d n agree stays zero h a l x = x
under_same c d n agree stays (suc k) h a l x =
    let step : ℕ → Formula = λ e. 1 ≼ e and (e ≐ a or under c k e a) in
    let y : Holds (step (d h)) = subst (λ e. Holds (step e)) (agree h l) x in
    (y.0, or_map (under_same c d n agree stays k (d h) a (stays h l)) y.1)

-- a creator is lower than what it made
abbrev pub Falls : Session → Type 0
Falls s = (h : ℕ) → h ≤ s Objects 0 → 1 ≤ s TaskCreator h → s TaskCreator h < h

-- what the rules say of the creator of h
falls_at : (s : Session) (h : ℕ) → Holds (task_part s h) → Holds (says roots s) → (s Kind h ≡ task → Holds (creator s h))
    → 1 ≤ s TaskCreator h → s TaskCreator h < h
falls_at s h part r c m = go (decide (s Kind h ≐ task))
  where
    lower : Holds (creator s h) → s TaskCreator h < h
    lower (inl e) = let z : s TaskCreator h ≡ 0 = rw e (roots_by_name s r main_creator) in absurd (omega arith)
    lower (inr x) = x.1.0

    go : Case (s Kind h ≐ task) → s TaskCreator h < h
    go (it_does k) = lower (c k)
    go (it_does_not n) = let z = (no_task s h n part).no_creator in absurd (omega arith)

-- the rules that check 2 asks first are enough
pub creators_fall : (s : Session) → s Objects 0 ≤ most_objects → Holds (says task_parts s) → Holds (says roots s)
    → Holds (says creators s) → Falls s
creators_fall s few parts r cs h l m = falls_at s h (parts h (omega arith)) r (cs h (omega arith)) m

pub creator_falls : (s : Session) → But (outputs ∷ []) s → Falls s
creator_falls s k = creators_fall s (k counts).1.0 (k task_parts) (k roots) (k creators)

pub creator-made : (s : Session) → But (outputs ∷ []) s → (h : ℕ) → h ≤ s Objects 0 → s TaskCreator h ≤ s Objects 0
creator-made s k h l = go (dec_lt 0 (s TaskCreator h))
  where
    go : Dec (0 < s TaskCreator h) → s TaskCreator h ≤ s Objects 0
    go (yes m) = let f = creator_falls s k h l m in omega arith
    go (no n) = omega arith

module _ (s : Session) (falls : Falls s) where
  abbrev c : ℕ → ℕ
  c = s TaskCreator

  -- who stands above h: its creator, or who stands above that one
  pub under_down : (h a : ℕ) → h ≤ s Objects 0 → Holds (under c h h a) → (c h ≡ a) ⊎ Holds (under c (c h) (c h) a)
  unfolding under
  under_down zero a l x = absurd x
  under_down (suc k) a l x =
      let f : c (suc k) < suc k = falls (suc k) l x.0 in
      or_map (under_enough c (s Objects 0) falls k (c (suc k)) (c (suc k)) a (omega arith) (omega arith)) x.1

  pub under_up : (h a : ℕ) → h ≤ s Objects 0 → 1 ≤ c h → (c h ≡ a) ⊎ Holds (under c (c h) (c h) a) → Holds (under c h h a)
  unfolding under
  under_up zero a l m x = let f = falls 0 l m in absurd (omega arith)
  under_up (suc k) a l m x =
      let f : c (suc k) < suc k = falls (suc k) l m in
      (m, or_map (under_enough c (s Objects 0) falls (c (suc k)) k (c (suc k)) a (omega arith) (omega arith)) x)

  -- who stands above is lower
  pub under_lower : (n h a : ℕ) → h ≤ s Objects 0 → Holds (under c n h a) → a < h
  unfolding under
  under_lower zero h a l x = absurd x
  under_lower (suc n) h a l x = go (falls h l x.0) (under_lower n (c h) a) x.1
    where
      go : c h < h → (c h ≤ s Objects 0 → Holds (under c n (c h) a) → a < c h) → (c h ≡ a) ⊎ Holds (under c n (c h) a) → a < h
      go f r (inl e) = omega arith
      go f r (inr y) = let z : a < c h = r (omega arith) y in omega arith

  -- whoever stands above one who stands above d stands above d
  pub under-through : (n d h a : ℕ) → d ≤ s Objects 0 → Holds (under c n d h) → Holds (under c h h a) → Holds (under c d d a)
  unfolding under
  under-through zero d h a l x y = absurd x
  under-through (suc n) d h a l x y = under_up d a l x.0 (inr (go (falls d l x.0) (under-through n (c d) h a) x.1))
    where
      go : c d < d → (c d ≤ s Objects 0 → Holds (under c n (c d) h) → Holds (under c h h a) → Holds (under c (c d) (c d) a))
          → (c d ≡ h) ⊎ Holds (under c n (c d) h) → Holds (under c (c d) (c d) a)
      go f r (inl e) = subst (λ (i : ℕ). Holds (under c i i a)) (sym e) y
      go f r (inr u) = r (omega arith) u y

  -- who stands above d made d, or one that stands above d
  pub child_between : (n d a : ℕ) → d ≤ s Objects 0 → Holds (under c n d a)
      → Holds (some (s Objects 0 + 1) (λ h. 1 ≼ c h and c h ≐ a and (h ≐ d or under c d d h)))
  unfolding under
  child_between zero d a l x = absurd x
  child_between (suc n) d a l x = go (falls d l x.0) (child_between n (c d) a) x.1
    where
      Below : ℕ → ℕ → Formula
      Below e h = 1 ≼ c h and c h ≐ a and (h ≐ e or under c e e h)

      up : (h : ℕ) → (h ≡ c d) ⊎ Holds (under c (c d) (c d) h) → Holds (under c d d h)
      up h (inl q) = under_up d h l x.0 (inl (sym q))
      up h (inr y) = under_up d h l x.0 (inr y)

      go : c d < d → (c d ≤ s Objects 0 → Holds (under c n (c d) a) → Holds (some (s Objects 0 + 1) (Below (c d))))
          → (c d ≡ a) ⊎ Holds (under c n (c d) a) → Holds (some (s Objects 0 + 1) (Below d))
      go f r (inl e) = (d, omega arith, (x.0, (e, inl refl)))
      go f r (inr y) =
          let b = r (omega arith) y in
          (b.0, b.1, (b.2.0, (b.2.1.0, inr (up b.0 b.2.1.1))))
