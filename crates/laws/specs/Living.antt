-- The book and a session that it is related to have the same tasks, the same of them live, and the same descendants: the book's
-- makers above a task (`is_made_by`) are the creators that a session has it under (`under`).
use Rattle.std.specs.Prelude.{ℕ, zero, suc, ◌+◌, ◌≤◌, ◌<◌, ◌≡◌, ◌⊎◌}
use Rattle.std.proofs.Common.{sym, subst, ◌∙◌, inl, inr, arith}
use Rattle.std.proofs.Math.Path.{fun_ext}
use Rattle.std.proofs.Math.Decide.{dec_lt}
use Rattle.session.specs.Table.{Session}
use Rattle.session.specs.declared.Field.TheVariants.{Objects, Kind, TaskState, TaskCreator}
use Rattle.session.specs.Names.{task, ended}
use Rattle.rules.specs.Formula.{Holds, not, Formula.◌≐◌, Formula.◌and◌, Formula.some}
use Rattle.rules.specs.FormulaLaws.{Case, decide, Case.it_does, Case.it_does_not}
use Rattle.rules.specs.Reading.{made, is_live}
use Rattle.rules.specs.Sound.{kept}
use Rattle.rules.specs.Book.{Book, Column, is_made_by, live, descends, done}
use Rattle.rules.specs.Descendants.{busy, under}
use Rattle.laws.specs.Rows.Name.{counts, kinds, task_parts}
use Rattle.laws.specs.Keeping.{Kept}
use Rattle.laws.specs.ByName.{by_name}
use Rattle.laws.specs.Conjuncts.{task_by_name, Task.state_high, NoTask, no_task}
use Rattle.laws.specs.Relation.{Marks, Related}
use Rattle.laws.specs.Relation.Clause.{same_kinds, same_makers, same_objects, blank_kinds, ended_agree, tasks_destroyed}
use Rattle.laws.specs.Under.{or_map}

-- a mark of 1 says what it marks, a mark of 0 that it is not so
pub marked : (n m k : ℕ) → Marks (n ≡ m) k → k ≡ 1 → n ≡ m
marked n m k x e = go (decide (n ≐ m))
  where
    go : Case (n ≐ m) → n ≡ m
    go (it_does p) = p
    go (it_does_not f) = let z : k ≡ 0 = x.1 f in absurd (omega arith)

pub unmarked : {P : Type 0} (k : ℕ) → Marks P k → k ≡ 0 → P → ⊥
unmarked k x e p = let z : k ≡ 1 = x.0 p in omega arith

-- whom a session has h under made it in the book
made-under : (c : ℕ → ℕ) (n h a : ℕ) → Holds (under c n h a) → Holds (is_made_by c n a h)
unfolding under is_made_by
made-under c zero h a x = x
made-under c (suc n) h a x = or_map (made-under c n (c h) a) x.1

-- and back, where nobody made 0
under-made : (c : ℕ → ℕ) → c 0 ≡ 0 → (n h a : ℕ) → 1 ≤ a → Holds (is_made_by c n a h) → Holds (under c n h a)
unfolding under is_made_by
under-made c none zero h a l x = x
under-made c none (suc n) h a l x = go (under-made c none n (c h) a l) x
  where
    -- nobody stands above 0
    top : (n : ℕ) → Holds (under c n 0 a) → ⊥
    top zero y = y
    top (suc n) y = let z = y.0 in omega arith

    go : (Holds (is_made_by c n a (c h)) → Holds (under c n (c h) a)) → (c h ≡ a) ⊎ Holds (is_made_by c n a (c h))
        → Holds (under c (suc n) h a)
    go r (inl e) = (omega arith, inl e)
    go r (inr y) = climb (dec_lt 0 (c h))
      where
        climb : Dec (0 < c h) → Holds (under c (suc n) h a)
        climb (yes p) = (p, inr (r y))
        climb (no p) = let z : c h ≡ 0 = omega arith in absurd (top n (subst (λ (k : ℕ). Holds (under c n k a)) z (r y)))

module _ (s : Session) (b : Book) (k : Holds (kept s)) (x : Related s b) where
  h : Kept s
  h = by_name s k

  -- 0 is no task
  null : NoTask s 0
  null = no_task s 0 (λ e. let z = (h kinds).0 in omega arith) (h task_parts 0 (omega arith))

  -- a task of the session that is not past running is live in the book
  pub live_here : (t : ℕ) → Holds (is_live s t) → Holds (live b t)
  live_here t u =
      let low = u.1 in
      (x same_kinds t ∙ u.0, ((x ended_agree t).1 (λ e. omega arith), (x tasks_destroyed t u.0).1 (λ e. omega arith)))

  -- and back
  pub live_there : (t : ℕ) → t ≤ s Objects 0 → Holds (live b t) → Holds (is_live s t)
  live_there t l u =
      let e : s Kind t ≡ task = sym (x same_kinds t) ∙ u.0 in
      let hi = task_by_name t s e (h task_parts t (let c = h counts in omega arith)) state_high in
      let n = unmarked (b Column.Ended t) (x ended_agree t) u.1.0 in
      let d = unmarked (b Column.Destroyed t) (x tasks_destroyed t e) u.1.1 in
      (e, omega arith)

  -- a task of the book is made
  pub task-made : (t : ℕ) → b Column.Kind t ≡ task → Holds (made s t) × (s Kind t ≡ task)
  task-made t e = (is_made t e, sym (x same_kinds t) ∙ e)
    where
      is_made : (t : ℕ) → b Column.Kind t ≡ task → Holds (made s t)
      is_made zero e =
          let z = (h kinds).0 in
          let q = x same_kinds 0 in
          absurd (omega arith)
      is_made (suc t) e = (omega arith, go (dec_lt (s Objects 0) (suc t)))
        where
          go : Dec (s Objects 0 < suc t) → suc t ≤ s Objects 0
          go (yes l) = let z = x blank_kinds (suc t) l in absurd (omega arith)
          go (no n) = omega arith

  -- the same makers
  makers : b Column.Maker ≡ s TaskCreator
  makers = fun_ext (x same_makers)

  -- the same descendants
  pub descends_there : (t h : ℕ) → 1 ≤ t → Holds (descends b t h) → Holds (under (s TaskCreator) h h t)
  descends_there t h p y =
      under-made (s TaskCreator) null.no_creator h h t p (subst (λ (c : ℕ → ℕ). Holds (is_made_by c h t h)) makers y)

  pub descends-here : (t h : ℕ) → Holds (under (s TaskCreator) h h t) → Holds (descends b t h)
  descends-here t h y = subst (λ (c : ℕ → ℕ). Holds (is_made_by c h t h)) (sym makers) (made-under (s TaskCreator) h h t y)

  busy_there : (t : ℕ) → 1 ≤ t → Holds (some (b Column.Objects 0 + 1) (λ h. live b h and descends b t h)) → Holds (busy s t)
  busy_there t p y =
      let q = x same_objects in
      let l : y.0 < s Objects 0 + 1 = let m = y.1 in omega arith in
      (y.0, l, (live_there y.0 (omega arith) y.2.0, descends_there t y.0 p y.2.1))

  busy-here : (t : ℕ) → Holds (busy s t) → Holds (some (b Column.Objects 0 + 1) (λ h. live b h and descends b t h))
  busy-here t y =
      let q = x same_objects in
      let l : y.0 < b Column.Objects 0 + 1 = let m = y.1 in omega arith in
      (y.0, l, (live_here y.0 y.2.0, descends-here t y.0 y.2.1))

  -- what has ended is not 0
  ended_past : (t : ℕ) → s TaskState t ≡ ended → 1 ≤ t
  ended_past zero e = let z = null.no_state in absurd (omega arith)
  ended_past (suc t) e = omega arith

  -- done in the book: ended and not busy
  pub done_there : (t : ℕ) → Holds (done b t) → Holds (s TaskState t ≐ ended and not (busy s t))
  done_there t y = (marked (s TaskState t) ended (b Column.Ended t) (x ended_agree t) y.0, λ z. y.1 (busy-here t z))

  pub done-here : (t : ℕ) → Holds (s TaskState t ≐ ended and not (busy s t)) → Holds (done b t)
  done-here t y = ((x ended_agree t).0 y.0, λ z. y.1 (busy_there t (ended_past t y.0) z))
