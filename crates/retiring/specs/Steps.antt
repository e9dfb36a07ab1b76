-- The steps climbed on the walk upwards, and what stops it.
use Rattle.std.specs.Prelude.{ℕ, zero, suc, ◌+◌, ◌-◌, ◌≤◌, ◌≡◌, refl, Bool, true, false, List, ◌⊎◌, eqb, Some}
use Rattle.std.proofs.Common.{sym, subst, inl, inr, arith, ap, ◌∙◌}
use Rattle.std.proofs.Math.Bool.{not}
use Rattle.std.proofs.Math.Dec.{eqb-suc-zero}
use mir.Val.{bool_byte}
use Rattle.session.specs.Table.{Session, change}
use Rattle.session.specs.declared.Field.TheVariants.{Objects, TaskState, TaskCreator}
use Rattle.session.specs.Names.{running}
use Rattle.rules.specs.Formula.{Holds, choose, Formula.◌≼◌}
use Rattle.rules.specs.FormulaLaws.{Case, decide, choose_yes, choose_no, Case.it_does, Case.it_does_not}
use Rattle.rules.specs.Effects.{finishes, fire, fire_finished}
use Rattle.rules.specs.Descendants.{busy, is_over, climbed}
use Rattle.laws.specs.Climbing.{climbed-moves, climbed_stands}
use Rattle.laws.specs.Conjuncts.{finishes_by_name}
use Rattle.retiring.specs.declared.climbing.Walk.{Walk}
use Rattle.retiring.specs.TidyUnderWay.{Tidy}
use Rattle.retiring.specs.Climb.{Climbed, OnlyAbove, OnlyOne, Reached, done_creator, creator-live, creator-done, handle, some_handle}
use Rattle.retiring.specs.Climb.{creator-made, busy-above, step}
use Rattle.retiring.specs.Finish.{fires_nothing}

-- what a walk from h has come to at its end: the steps climbed are those before it and those from h
pub record Walked (s : Session) (m : List ℕ) (before after : Walk) (h : ℕ) : Type 0 where
  pub fires : Climbed s m after.found 0
  pub steps : after.steps ≡ before.steps + climbed s h

-- firing changes nothing of a climb
pub climbed-fired : (s : Session) (t : ℕ) → climbed (fire_finished s) t ≡ climbed s t
unfolding fire_finished fire change
climbed-fired s t = refl

-- the creator of h, if there is one, is not over
abbrev pub StopsAbove : Session → ℕ → Type 0
StopsAbove s h = 1 ≤ s TaskCreator h → Holds (is_over s (s TaskCreator h)) → ⊥

-- whether the climb from h stops at its creator, or the creator is over too
pub record StopsTold (s : Session) (h : ℕ) (r : Bool) : Type 0 where
  pub stops : r ≡ true → StopsAbove s h
  pub goes_on : r ≡ false → (1 ≤ s TaskCreator h) × Holds (is_over s (s TaskCreator h))

module _ (s : Session) (x : Tidy s) (h : ℕ) (l : h ≤ s Objects 0) where
  abbrev c : ℕ → ℕ
  c = s TaskCreator

  -- a creator that is done is the creator, and not live
  pub creator-over : (done_creator s h ≡ 0 → ⊥) → (done_creator s h ≡ c h) × (s TaskState (c h) ≤ running → ⊥)
  creator-over n = go (decide (s TaskState (c h) ≼ running))
    where
      go : Case (s TaskState (c h) ≼ running) → (done_creator s h ≡ c h) × (s TaskState (c h) ≤ running → ⊥)
      go (it_does live) = absurd (n (creator-live s h live))
      go (it_does_not d) = (creator-done s h d, d)

  -- one that the code has is no null either
  pub creator_told : (k : ℕ) → Some k ≡ handle (done_creator s h)
      → (k ≡ done_creator s h) × (k ≡ c h) × (1 ≤ k) × (s TaskState (c h) ≤ running → ⊥)
  creator_told k e =
      let q : (done_creator s h ≡ k) × (1 ≤ k) = some_handle (done_creator s h) k (sym e) in
      let some : done_creator s h ≡ 0 → ⊥ = λ z. omega (arith, q.0, q.1, z) in
      let o = creator-over some in
      (sym q.0, sym q.0 ∙ o.0, q.1, o.1)

  -- a live creator, or none, stops the climb ..
  pub live_stops : done_creator s h ≡ 0 → StopsAbove s h
  live_stops z m over = go (decide (s TaskState (c h) ≼ running))
    where
      go : Case (s TaskState (c h) ≼ running) → ⊥
      go (it_does live) = over.0 (x.frame.makers h l m, live)
      go (it_does_not d) = let e = creator-done s h d in omega arith

  -- .. and so does a busy one
  pub busy_stops : Holds (busy s (done_creator s h)) → (done_creator s h ≡ 0 → ⊥) → StopsAbove s h
  busy_stops b n m over = over.1 (rw (creator-over n).0 at b)

  -- the steps from h, which is not live
  module _ (dead : s TaskState h ≤ running → ⊥) where
    pub busy_steps : Holds (busy s h) → climbed s h ≡ 0
    busy_steps b = climbed_stands s h (λ y. y.1.1 b)

    pub main_steps : c h ≡ 0 → climbed s h ≡ 0
    main_steps z = climbed_stands s h (λ y. let m = y.0 in omega arith)

    module _ (idle : Holds (busy s h) → ⊥) where
      pub more_steps : 1 ≤ c h → climbed s h ≡ 1 + climbed s (c h)
      more_steps m = climbed-moves s x.frame.falls h l m ((λ live. dead live.1), idle)

      pub one-step : StopsAbove s h → 1 ≤ c h → climbed s h ≡ 1
      one-step stop m = let e = more_steps m in let z = climbed_stands s (c h) (λ y. stop m y.1) in omega arith

      pub first_step : StopsAbove s h → climbed s h ≡ choose (1 ≼ c h) 1 0
      first_step stop = go (decide (1 ≼ c h))
        where
          go : Case (1 ≼ c h) → climbed s h ≡ choose (1 ≼ c h) 1 0
          go (it_does m) = let e = choose_yes {A = ℕ} (1 ≼ c h) 1 0 m in let f = one-step stop m in omega arith
          go (it_does_not n) = let e = choose_no {A = ℕ} (1 ≼ c h) 1 0 n in let f = main_steps (omega arith) in omega arith

  -- where the climb stops above h no other event can finish than that of h
  pub own_alone : OnlyAbove s h → StopsAbove s h → OnlyOne s (h + 1)
  own_alone o stop e f = go (step s x h l e f (o.reached e f) (λ q. q))
    where
      up : Reached c (c h) (e - 1) → (s TaskState (c h) ≤ running → ⊥) → Case (busy s (c h)) → ⊥
      up r d (it_does b) = (finishes_by_name s e f).idle (busy-above s x (c h) (creator-made s x h l) (e - 1) b r)
      up r d (it_does_not idle) = stop r.0 ((λ live. d live.1), idle)

      go : (e ≡ h + 1) ⊎ Reached c (done_creator s h) (e - 1) → e ≡ h + 1
      go (inl q) = q
      go (inr r) =
          let m = r.0 in
          let d = creator-over (λ z. omega arith) in
          absurd (up (rw d.0 at r) d.1 (decide (busy s (c h))))

  -- and where h is busy none can
  pub busy_none : OnlyAbove s h → Holds (busy s h) → fire_finished s ≡ s
  busy_none o b = fires_nothing s (λ e f. (finishes_by_name s e f).idle (busy-above s x h l (e - 1) b (o.reached e f)))

  -- where the event of h does not finish, only those above its creator, which is over, can
  pub only_higher : OnlyAbove s h → Holds (is_over s (c h)) → 1 ≤ c h → (Holds (finishes s (h + 1)) → ⊥) → OnlyAbove s (c h)
  only_higher o over m n = record { known = creator-made s x h l; reached = λ e f. go e f (step s x h l e f (o.reached e f) (λ q. q)) }
    where
      dead : s TaskState (c h) ≤ running → ⊥
      dead live = over.0 (x.frame.makers h l m, live)

      go : (e : ℕ) → Holds (finishes s e) → (e ≡ h + 1) ⊎ Reached c (done_creator s h) (e - 1) → Reached c (c h) (e - 1)
      go e f (inl q) = absurd (n (subst (λ (k : ℕ). Holds (finishes s k)) q f))
      go e f (inr r) = rw (creator-done s h dead) at r

-- whoever has no creator, as main, has no first step
pub no_step : (s : Session) (h u : ℕ) → u ≡ s TaskCreator h → u ≡ 0 → ◌≡◌ {A = ℕ} 0 (choose (1 ≼ s TaskCreator h) 1 0)
no_step s h u e z = sym (choose_no {A = ℕ} (1 ≼ s TaskCreator h) 1 0 (λ m. omega arith))

-- as the code reads it: whether there is a creator, as a number
pub step_read : (s : Session) (h u r : ℕ) → u ≡ s TaskCreator h → r ≡ bool_byte (not (eqb u 0))
    → r ≡ choose (1 ≼ s TaskCreator h) 1 0
step_read s h zero r e q = q ∙ no_step s h 0 e refl
step_read s h (suc n) r e q =
    q ∙ ap (λ (b : Bool). bool_byte (not b)) (eqb-suc-zero n)
    ∙ sym (choose_yes {A = ℕ} (1 ≼ s TaskCreator h) 1 0 (omega (arith, e)))
