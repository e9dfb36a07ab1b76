-- How far an end climbs (document 02, E5): the number is exactly the moves of the sentence, and never more than the task's ancestors.
use Prim.Native.Nat.{ℕ, zero, suc, ◌+◌, ◌≤◌}
use Rattle.std.specs.Prelude.{◌≡◌, ◌⊎◌}
use Rattle.std.proofs.Math.Path.{refl, ap}
use Rattle.std.proofs.Common.{sym, ◌∙◌, inl, inr, arith}
use Rattle.session.specs.Table.{Session}
use Rattle.session.specs.Names.{task}
use Rattle.session.specs.declared.Field.TheVariants.{Objects, Kind, TaskCreator}
use Rattle.rules.specs.declared.Operation.{Operation}
use Rattle.rules.specs.Formula.{Formula, Holds, count, Formula.◌≐◌, Formula.◌≼◌, Formula.◌and◌}
use Rattle.rules.specs.FormulaLaws.{Case, decide, choose_yes, choose_no, Case.it_does, Case.it_does_not}
use Rattle.rules.specs.Descendants.{under, climb, climbed, creators_above, ancestors, is_over}
use Rattle.rules.specs.Step.{Rule, rules, rule_of, arg, step, end_rule, destroy_rule}
use Rattle.laws.specs.Accepted.{Called, called, rule_at, Called.refused, Called.accepted}
use Rattle.laws.specs.Under.{Falls, under-made, under_down, under_up, under_lower}
use Rattle.laws.specs.Counting.{count_none, count-one}

module _ (c : ℕ → ℕ) (over : ℕ → Formula) where
  -- one level: a move, or none
  pub climb-moves : (n h : ℕ) → 1 ≤ c h → Holds (over h) → climb c over (suc n) h ≡ 1 + climb c over n (c h)
  unfolding climb
  climb-moves n h m o = choose_yes (1 ≼ c h and over h) (1 + climb c over n (c h)) 0 (m, o)

  pub climb_stands : (n h : ℕ) → ((1 ≤ c h) × Holds (over h) → ⊥) → climb c over n h ≡ 0
  unfolding climb
  climb_stands zero h stop = refl
  climb_stands (suc n) h stop = choose_no (1 ≼ c h and over h) (1 + climb c over n (c h)) 0 stop

  -- no more moves than are allowed
  climb_none : (h : ℕ) → climb c over 0 h ≡ 0
  unfolding climb
  climb_none h = refl

  pub climb_few : (n h : ℕ) → climb c over n h ≤ n
  climb_few zero h = let z = climb_none h in omega arith
  climb_few (suc n) h = go (climb_few n (c h)) (decide (1 ≼ c h and over h))
    where
      go : climb c over n (c h) ≤ n → Case (1 ≼ c h and over h) → climb c over (suc n) h ≤ suc n
      go few (it_does x) = let e = climb-moves n h x.0 x.1 in omega arith
      go few (it_does_not x) = let e = climb_stands (suc n) h x in omega arith

  -- and no more than there are creators above
  above_more : (n h : ℕ) → 1 ≤ c h → creators_above c (suc n) h ≡ 1 + creators_above c n (c h)
  unfolding creators_above
  above_more n h m = choose_yes (1 ≼ c h) (1 + creators_above c n (c h)) 0 m

  pub climb-above : (n h : ℕ) → climb c over n h ≤ creators_above c n h
  climb-above zero h = let z = climb_few 0 h in omega arith
  climb-above (suc n) h = go (climb-above n (c h)) (decide (1 ≼ c h and over h))
    where
      go : climb c over n (c h) ≤ creators_above c n (c h) → Case (1 ≼ c h and over h) → climb c over (suc n) h ≤ creators_above c (suc n) h
      go few (it_does x) = let e = climb-moves n h x.0 x.1 in let m = above_more n h x.0 in omega arith
      go few (it_does_not x) = let e = climb_stands (suc n) h x in omega arith

-- "never more than the task's ancestors"
pub climbed_few : (s : Session) (t : ℕ) → climbed s t ≤ ancestors s t
climbed_few s t = climb-above (s TaskCreator) (is_over s) t t

-- The ancestors are the tasks that it descends from.
module _ (s : Session) (falls : Falls s) where
  abbrev above : ℕ → ℕ → Formula
  above h = under (s TaskCreator) h h

  above_none : (k h : ℕ) → (1 ≤ s TaskCreator h → ⊥) → creators_above (s TaskCreator) k h ≡ 0
  unfolding creators_above
  above_none zero h top = refl
  above_none (suc k) h top =
      choose_no (1 ≼ s TaskCreator h) (1 + creators_above (s TaskCreator) k (s TaskCreator h)) 0 top

  above-counted : (k h : ℕ) → h ≤ k → h ≤ s Objects 0
      → creators_above (s TaskCreator) k h ≡ count (s Objects 0 + 1) (above h)
  above-counted zero h l b = none (λ m. let f = falls h b m in omega arith)
    where
      none : (1 ≤ s TaskCreator h → ⊥) → creators_above (s TaskCreator) 0 h ≡ count (s Objects 0 + 1) (above h)
      none top = above_none 0 h top ∙ sym (count_none _ (above h) (λ a q x. top (under-made (s TaskCreator) h a x)))
  above-counted (suc k) h l b = go (above-counted k (s TaskCreator h)) (decide (1 ≼ s TaskCreator h))
    where
      c : ℕ → ℕ
      c = s TaskCreator

      other : (a : ℕ) → (c h ≡ a → ⊥) → (c h ≡ a) ⊎ Holds (above (c h) a) → Holds (above (c h) a)
      other a ne (inl e) = absurd (ne e)
      other a ne (inr x) = x

      one_more : (m : 1 ≤ c h) → count (s Objects 0 + 1) (above h) ≡ 1 + count (s Objects 0 + 1) (above (c h))
      one_more m =
          let f = falls h b m in
          count-one (s Objects 0 + 1) (above (c h)) (above h) (c h) (omega arith)
          (λ x. let z = under_lower s falls (c h) (c h) (c h) (omega arith) x in omega arith)
          (under_up s falls h (c h) b m (inl refl))
          (λ a q ne x. under_up s falls h a b m (inr x))
          (λ a q ne x. other a ne (under_down s falls h a b x))

      go : (c h ≤ k → c h ≤ s Objects 0 → creators_above c k (c h) ≡ count (s Objects 0 + 1) (above (c h))) → Case (1 ≼ c h)
          → creators_above c (suc k) h ≡ count (s Objects 0 + 1) (above h)
      go more (it_does m) =
          let f = falls h b m in
          let e = more (omega arith) (omega arith) in
          let i = above_more c (is_over s) k h m in
          let j = one_more m in
          omega arith
      go more (it_does_not top) =
          above_none (suc k) h top ∙ sym (count_none _ (above h) (λ a q x. top (under-made c h a x)))

  pub ancestors-counted : (t : ℕ) → t ≤ s Objects 0 → ancestors s t ≡ count (s Objects 0 + 1) (under (s TaskCreator) t t)
  ancestors-counted t b = above-counted t t (omega arith) b

-- The sentence: standing on h, n moves are made. None where h is main, which alone has no creator, or is not over; else one to the
-- creator, and those from there.
pub data Moves (s : Session) : ℕ → ℕ → Type 0 where
  stands : {h : ℕ} → ((1 ≤ s TaskCreator h) × Holds (is_over s h) → ⊥) → Moves s h 0
  moves_on : {h n : ℕ} → 1 ≤ s TaskCreator h → Holds (is_over s h) → Moves s (s TaskCreator h) n → Moves s h (suc n)

-- "The count is exactly those moves of the definition": these and no other number of moves, with as many steps as the handle or more
module _ (s : Session) (falls : Falls s) where
  abbrev c : ℕ → ℕ
  c = s TaskCreator

  moves-within : (k h : ℕ) → h ≤ k → h ≤ s Objects 0 → Moves s h (climb c (is_over s) k h)
  moves-within zero h l b =
      rw (climb_stands c (is_over s) 0 h (λ x. no_move x.0)) (stands (λ x. no_move x.0))
    where
      no_move : 1 ≤ c h → ⊥
      no_move m = let f = falls h b m in omega arith
  moves-within (suc k) h l b = go (moves-within k (c h)) (decide (1 ≼ c h and is_over s h))
    where
      go : (c h ≤ k → c h ≤ s Objects 0 → Moves s (c h) (climb c (is_over s) k (c h))) → Case (1 ≼ c h and is_over s h)
          → Moves s h (climb c (is_over s) (suc k) h)
      go more (it_does x) =
          let f = falls h b x.0 in
          let i = climb-moves c (is_over s) k h x.0 x.1 in
          let e : climb c (is_over s) (suc k) h ≡ suc (climb c (is_over s) k (c h)) = omega arith in
          rw e (moves_on x.0 x.1 (more (omega arith) (omega arith)))
      go more (it_does_not x) = rw (climb_stands c (is_over s) (suc k) h x) (stands x)

  only-moves : (k : ℕ) {h n : ℕ} → h ≤ k → h ≤ s Objects 0 → Moves s h n → n ≡ climb c (is_over s) k h
  only-moves k {h} l b (stands x) = sym (climb_stands c (is_over s) k h x)
  only-moves zero {h} l b (moves_on m o r) = let f = falls h b m in absurd (omega arith)
  only-moves (suc k) {h} l b (moves_on m o r) =
      let f = falls h b m in
      let e = only-moves k (omega arith) (omega arith) r in
      let i = climb-moves c (is_over s) k h m o in
      omega arith

  pub climbs_exactly : (h : ℕ) → h ≤ s Objects 0 → Moves s h (climbed s h)
  climbs_exactly h b = moves-within h h (omega arith) b

  pub climbs_only : (h n : ℕ) → h ≤ s Objects 0 → Moves s h n → n ≡ climbed s h
  climbs_only h n b m = only-moves h (omega arith) b m

  -- from one task to its creator
  pub climbed-moves : (h : ℕ) → h ≤ s Objects 0 → 1 ≤ c h → Holds (is_over s h) → climbed s h ≡ 1 + climbed s (c h)
  climbed-moves h b m o =
      let f = falls h b m in
      let e = climbs_only h (suc (climbed s (c h))) b (moves_on m o (climbs_exactly (c h) (omega arith))) in
      omega arith

pub climbed_stands : (s : Session) (h : ℕ) → ((1 ≤ s TaskCreator h) × Holds (is_over s h) → ⊥) → climbed s h ≡ 0
climbed_stands s h stop = climb_stands (s TaskCreator) (is_over s) h h stop

-- what an accepted call of a row answers and leaves
module _ (s : Session) (o : Operation) where
  answers-row : (r : Rule) → rule_of o ≡ r → (step s o).refused ≡ 0
      → ((step s o).made ≡ r.makes s o) × ((step s o).leaves ≡ r.does s o)
  answers-row r e z = go (called s o)
    where
      go : Called s o → ((step s o).made ≡ r.makes s o) × ((step s o).leaves ≡ r.does s o)
      go (refused n w l) = absurd (n z)
      go (accepted h n w l a) =
          (w ∙ a.makes ∙ ap (λ (q : Rule). q.makes s o) e, l ∙ a.leaves ∙ ap (λ (q : Rule). q.does s o) e)

  -- "For end and for destroying a task, the third number on the line becomes the steps climbed": of an end that is accepted ..
  pub end_climbs_lem : o.code ≡ 12 → (step s o).refused ≡ 0 → (step s o).made ≡ climbed (step s o).leaves (arg o 0)
  unfolding rules
  end_climbs_lem k z =
      let a = answers-row end_rule (rule_at o 12 k) z in a.0 ∙ ap (λ (q : Session). climbed q (arg o 0)) (sym a.1)

  pub end_few : o.code ≡ 12 → (step s o).refused ≡ 0 → (step s o).made ≤ ancestors (step s o).leaves (arg o 0)
  end_few k z = rw (end_climbs_lem k z) (climbed_few (step s o).leaves (arg o 0))

  -- .. of a task that is destroyed ..
  pub destroy_climbs_lem : o.code ≡ 8 → (step s o).refused ≡ 0 → s Kind (arg o 1) ≡ task
      → (step s o).made ≡ climbed (step s o).leaves (arg o 1)
  unfolding rules
  destroy_climbs_lem k z t =
      let a = answers-row destroy_rule (rule_at o 8 k) z in
      a.0 ∙ choose_yes (s Kind (arg o 1) ≐ task) (climbed (destroy_rule.does s o) (arg o 1)) 0 t
      ∙ ap (λ (q : Session). climbed q (arg o 1)) (sym a.1)

  pub destroy_few : o.code ≡ 8 → (step s o).refused ≡ 0 → s Kind (arg o 1) ≡ task
      → (step s o).made ≤ ancestors (step s o).leaves (arg o 1)
  destroy_few k z t = rw (destroy_climbs_lem k z t) (climbed_few (step s o).leaves (arg o 1))

  -- .. and of anything else that is destroyed
  pub destroy-climbs_none : o.code ≡ 8 → (step s o).refused ≡ 0 → (s Kind (arg o 1) ≡ task → ⊥) → (step s o).made ≡ 0
  unfolding rules
  destroy-climbs_none k z n =
      (answers-row destroy_rule (rule_at o 8 k) z).0
      ∙ choose_no (s Kind (arg o 1) ≐ task) (climbed (destroy_rule.does s o) (arg o 1)) 0 n
