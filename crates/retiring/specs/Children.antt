-- The tasks that a task made, and its live descendants: a task that made none has no descendant.
use Rattle.std.specs.Prelude.{ℕ, zero, suc, ◌+◌, ◌≤◌, ◌<◌, ◌≡◌, ◌⊎◌, false, eqb}
use Rattle.std.proofs.Common.{subst, inl, inr, arith, sym, true, ◌∙◌}
use Rattle.std.proofs.lemmas.Bool.Decides.{eqb_tells}
use Rattle.std.proofs.Math.Decide.{dec_lt}
use Rattle.session.specs.Table.{Session}
use Rattle.session.specs.declared.Field.TheVariants.{Objects, TaskState, TaskCreator}
use Rattle.session.specs.Names.{resolved, running, task_destroyed}
use Rattle.rules.specs.Formula.{Formula, Holds, test, Formula.◌≐◌, Formula.◌≼◌, Formula.◌and◌, Formula.some}
use Rattle.rules.specs.FormulaLaws.{test-same, passes, fails}
use Rattle.rules.specs.Reading.{is_live}
use Rattle.rules.specs.Descendants.{under, busy}
use Rattle.rules.specs.Sound.{sound, creator, task_part}
use Rattle.laws.specs.Under.{under-made, under_down, under_up, under_lower}
use Rattle.laws.specs.Rows.Name.{counts, task_parts, roots, creators}
use Rattle.laws.specs.Keeping.{Sound}
use Rattle.laws.specs.ByName.{sound_by_name}
use Rattle.laws.specs.Conjuncts.{roots_by_name, Root.main_creator}
use Rattle.reading.specs.Finding.{Passed}
use Rattle.retiring.specs.TidyUnderWay.{Tidy}

-- h made d, whose state is the last one given or an earlier one
abbrev pub is_child : Session → ℕ → ℕ → ℕ → Formula
is_child s h last d = s TaskCreator d ≐ h and s TaskState d ≼ last

abbrev pub has_child : Session → ℕ → ℕ → Formula
has_child s h last = some (s Objects 0 + 1) (is_child s h last)

-- no handle before d is such a child
abbrev pub NoneBefore : Session → ℕ → ℕ → ℕ → Type 0
NoneBefore s h last d = (i : ℕ) → i < d → Holds (is_child s h last i) → ⊥

-- whoever was made by h is higher
pub none_lower : (s : Session) (h last : ℕ) → Tidy s → 1 ≤ h → h ≤ s Objects 0 → NoneBefore s h last h
none_lower s h last x m l i b q = let e = q.0 in let f = x.frame.falls i (omega arith) (omega arith) in omega arith

-- one more handle looked at, and those up to the next that h made
pub none_next : (s : Session) (h last d r : ℕ) → NoneBefore s h last d → (Holds (is_child s h last d) → ⊥)
    → Passed s TaskCreator h (d + 1) r → NoneBefore s h last r
none_next s h last d r before n p i l q = go (dec_lt i d) (dec_lt d i)
  where
    go : Dec (i < d) → Dec (d < i) → ⊥
    go (yes a) b = before i a q
    go (no a) (yes b) = p.others i (omega arith) l q.0
    go (no a) (no b) = let e : i ≡ d = omega arith in n (subst (λ (k : ℕ). Holds (is_child s h last k)) e q)

-- those up to the next that h made, and that one, which is no such child
pub none_past : (s : Session) (h last b d : ℕ) → NoneBefore s h last b → Passed s TaskCreator h b d → (s TaskState d ≤ last → ⊥)
    → NoneBefore s h last (d + 1)
none_past s h last b d before p n i l q = go (dec_lt i b) (dec_lt i d)
  where
    go : Dec (i < b) → Dec (i < d) → ⊥
    go (yes a) c = before i a q
    go (no a) (yes c) = p.others i (omega arith) c q.0
    go (no a) (no c) = let e : i ≡ d = omega arith in n (subst (λ (k : ℕ). s TaskState k ≤ last) e q.1)

-- where there is none up to the count, none is one
pub none_child : (s : Session) (h last b : ℕ) → NoneBefore s h last b → Passed s TaskCreator h b (s Objects 0 + 1)
    → Holds (has_child s h last) → ⊥
none_child s h last b before p y = go (dec_lt y.0 b)
  where
    go : Dec (y.0 < b) → ⊥
    go (yes a) = before y.0 a y.2
    go (no a) = p.others y.0 (omega arith) y.1 y.2.0

-- no task was made by h
abbrev pub Childless : Session → ℕ → Type 0
Childless s h = (d : ℕ) → d ≤ s Objects 0 → s TaskCreator d ≡ h → ⊥

-- nobody stands below a task that made none
none_under : (c : ℕ → ℕ) (n h : ℕ) → ((i : ℕ) → i ≤ n → 1 ≤ c i → c i < i) → ((i : ℕ) → i ≤ n → c i ≡ h → ⊥) → (k d : ℕ)
    → d ≤ n → Holds (under c k d h) → ⊥
unfolding under
none_under c n h falls none zero d l x = x
none_under c n h falls none (suc k) d l x = go (falls d l x.0) (none_under c n h falls none k (c d)) x.1
  where
    go : c d < d → (c d ≤ n → Holds (under c k (c d) h) → ⊥) → (c d ≡ h) ⊎ Holds (under c k (c d) h) → ⊥
    go f r (inl q) = none d l q
    go f r (inr y) = r (omega arith) y

module _ (s : Session) (x : Tidy s) (h : ℕ) where
  pub childless_idle : Childless s h → Holds (busy s h) → ⊥
  childless_idle none b =
      none_under (s TaskCreator) (s Objects 0) h x.frame.falls none b.0 b.0 (let l = b.1 in omega arith) b.2.1

  -- every state is destroyed or an earlier one
  pub no_child : (Holds (has_child s h task_destroyed) → ⊥) → Childless s h
  no_child n d l e = n (d, omega arith, (e, x.states d l))

-- whether d descends from a, by its creator
module _ (s : Session) (x : Tidy s) (d a : ℕ) (m : 1 ≤ a) (l : d ≤ s Objects 0) where
  abbrev c : ℕ → ℕ
  c = s TaskCreator

  pub below_here : c d ≡ a → Holds (under c d d a)
  below_here e = under_up s x.frame.falls d a l (omega arith) (inl e)

  pub below_none : c d < a → Holds (under c d d a) → ⊥
  below_none b u = go (under-made c d a u) (under_down s x.frame.falls d a l u)
    where
      go : 1 ≤ c d → (c d ≡ a) ⊎ Holds (under c (c d) (c d) a) → ⊥
      go p (inl e) = omega arith
      go p (inr y) =
          let f = x.frame.falls d l p in
          let z = under_lower s x.frame.falls (c d) (c d) a (omega arith) y in
          omega arith

  pub below_more : a < c d → test (under c (c d) (c d) a) ≡ test (under c d d a)
  below_more b =
      test-same (under c (c d) (c d) a) (under c d d a) (λ y. under_up s x.frame.falls d a l (omega arith) (inr y))
      (λ u. other (under_down s x.frame.falls d a l u))
    where
      other : (c d ≡ a) ⊎ Holds (under c (c d) (c d) a) → Holds (under c (c d) (c d) a)
      other (inl e) = absurd (omega arith)
      other (inr y) = y

  -- a creator that is not higher than a decides
  pub below_least : c d ≤ a → eqb (c d) a ≡ test (under c d d a)
  below_least b = go (eqb_tells (c d) a)
    where
      go : ((eqb (c d) a ≡ true) × (c d ≡ a)) ⊎ ((eqb (c d) a ≡ false) × (c d ≡ a → ⊥)) → eqb (c d) a ≡ test (under c d d a)
      go (inl x) = x.0 ∙ sym (passes (under c d d a) (below_here x.1))
      go (inr x) = let n = x.1 in x.0 ∙ sym (fails (under c d d a) (below_none (omega arith)))

  -- who descends from a task is one
  pub live_below : s TaskState d ≤ running → test (under c d d a) ≡ test (is_live s d and under c d d a)
  live_below live =
      test-same (under c d d a) (is_live s d and under c d d a) (λ u. ((x.frame.tasks d l (under-made c d a u), live), u)) (λ y. y.1)

  -- nobody lower does
  pub none_below : d < a → Holds (under c d d a) → ⊥
  none_below b u = let z = under_lower s x.frame.falls d d a l u in omega arith

-- a task past running is not live, and so no live descendant
pub late_dead : (s : Session) (d a v : ℕ) → v ≡ s TaskState d → running < v
    → false ≡ test (is_live s d and under (s TaskCreator) d d a)
late_dead s d a v e late = sym (fails (is_live s d and under (s TaskCreator) d d a) (λ y. let l = y.0.1 in omega (arith, e)))

-- a live child makes a task busy
pub live_child : (s : Session) → Tidy s → (h : ℕ) → 1 ≤ h → Holds (has_child s h running) → Holds (busy s h)
live_child s x h m (d, l, (e, live)) =
    let f = x.frame.falls d (omega arith) (omega arith) in
    (d, l, ((x.frame.tasks d (omega arith) (omega arith), live), below_here s x d h m (omega arith) e))

-- a task that never ran made none: "every other task's creator is a lower task, running or ended"
pub unstarted_childless : (s : Session) → Holds (sound s) → (h : ℕ) → 1 ≤ h → s TaskState h ≤ resolved → Childless s h
unstarted_childless s good h m early d l e = go (r task_parts d (omega (arith, (r counts).1.0)))
  where
    r : Sound s
    r = sound_by_name s good

    state : {v : ℕ} → s TaskState (s TaskCreator d) ≡ v → s TaskState h ≡ v
    state q = rw e at q

    started : Holds (creator s d) → ⊥
    started (inl i) = let z : s TaskCreator d ≡ 0 = rw i (roots_by_name s (r roots) main_creator) in omega arith
    started (inr (there, (lower, (is_task, inl q)))) = let z = state q in omega arith
    started (inr (there, (lower, (is_task, inr q)))) = let z = state q in omega arith

    go : Holds (task_part s d) → ⊥
    go (inl x) = started (r creators d (omega arith) x.0)
    go (inr (other, (no_state, (no_creator, rest)))) = omega arith
