-- What deliveries, grants, starts and ends have left to do: a step for each undelivered link, three for a task that is not
-- granted, two for a granted and one for a running task.
use Rattle.std.specs.Prelude.{ℕ, suc, ◌+◌, ◌≤◌, ◌≡◌, refl}
use Rattle.std.proofs.Math.Path.{ap}
use Rattle.std.proofs.Common.{sym, ◌∙◌, inl, inr}
use native.Mathlib.Omega.{arith}
use Rattle.session.specs.Table.{Session, put}
use Rattle.session.specs.declared.Field.TheVariants.{Objects, Links, Kind, TaskState, LinkState}
use Rattle.session.specs.Names.{task, resolved, granted, running, ready, delivered}
use Rattle.rules.specs.Formula.{Formula, Holds, count, Formula.◌≐◌, Formula.◌≼◌, Formula.◌and◌}
use Rattle.rules.specs.FormulaLaws.{Case, decide, Case.it_does, Case.it_does_not}
use Rattle.rules.specs.Reading.{is_kind, is_undelivered}
use Rattle.rules.specs.LastLine.{undelivered_links}
use Rattle.laws.specs.Places.{put-here, put_there}
use Rattle.laws.specs.Counting.{count_same, count-one}
use Rattle.laws.specs.Moving.{move, Moved, after-move, Moved.state_stays, Moved.state_moves}
use Rattle.laws.specs.MarkLink.{handed}

-- a task in state k or an earlier one
abbrev pub up_to : Session → ℕ → ℕ → Formula
up_to s k t = is_kind s task t and s TaskState t ≼ k

abbrev pub tasks_up_to : Session → ℕ → ℕ
tasks_up_to s k = count (s Objects 0 + 1) (up_to s k)

unfoldable pub left : Session → ℕ
unfolding undelivered_links
left s = undelivered_links s + (tasks_up_to s resolved + (tasks_up_to s granted + tasks_up_to s running))

-- r has left what s has: the same undelivered links, and the same tasks up to resolved, granted and running
pub record SameLeft (s r : Session) : Type 0 where
  pub objects : r Objects 0 ≡ s Objects 0
  pub links : r Links 0 ≡ s Links 0
  pub kinds : (h : ℕ) → r Kind h ≡ s Kind h
  pub still_up_to : (k t : ℕ) → resolved ≤ k → s TaskState t ≤ k → r TaskState t ≤ k
  pub was_up_to : (k t : ℕ) → resolved ≤ k → r TaskState t ≤ k → s TaskState t ≤ k
  pub still_undelivered : (l : ℕ) → Holds (is_undelivered s l) → Holds (is_undelivered r l)
  pub was_undelivered : (l : ℕ) → Holds (is_undelivered r l) → Holds (is_undelivered s l)

module _ (s r : Session) (x : SameLeft s r) where
  same-up_to : (k : ℕ) → resolved ≤ k → tasks_up_to r k ≡ tasks_up_to s k
  same-up_to k h =
      ap (λ (n : ℕ). count (n + 1) (up_to r k)) x.objects
      ∙ count_same (s Objects 0 + 1) (up_to r k) (up_to s k) (λ i l y. (sym (x.kinds i) ∙ y.0, x.was_up_to k i h y.1))
      (λ i l y. (x.kinds i ∙ y.0, x.still_up_to k i h y.1))

  same-undelivered : undelivered_links r ≡ undelivered_links s
  unfolding undelivered_links
  same-undelivered =
      ap (λ (n : ℕ). count (n + 1) (is_undelivered r)) x.links
      ∙ count_same (s Links 0 + 1) (is_undelivered r) (is_undelivered s) (λ i l. x.was_undelivered i)
      (λ i l. x.still_undelivered i)

  pub left-same : left r ≡ left s
  unfolding left
  left-same =
      rw (same-undelivered, same-up_to resolved (omega arith), same-up_to granted (omega arith), same-up_to running (omega arith))

-- a task that goes on to the next state, from resolved to ended, takes one step
module _ (s : Session) (t v : ℕ) (low : t ≤ s Objects 0) (kind : s Kind t ≡ task) (was : s TaskState t ≡ v) where
  here : move s t (suc v) TaskState t ≡ suc v
  here = put-here s TaskState t t (suc v) refl

  there : (i : ℕ) → (t ≡ i → ⊥) → move s t (suc v) TaskState i ≡ s TaskState i
  there i n = put_there s TaskState t i (suc v) n

  moved_one : (k : ℕ) → v ≡ k → tasks_up_to s k ≡ 1 + tasks_up_to (move s t (suc v)) k
  unfolding put
  moved_one k e =
      count-one (s Objects 0 + 1) (up_to (move s t (suc v)) k) (up_to s k) t (omega arith)
      (λ y. let z = y.1 in let h = here in absurd (omega arith)) (kind, omega arith)
      (λ i l n y. (y.0, rw (there i n) at y.1)) (λ i l n y. (y.0, rw (there i n) y.1))

  moved_none : (k : ℕ) → (v ≡ k → ⊥) → tasks_up_to s k ≡ tasks_up_to (move s t (suc v)) k
  unfolding put
  moved_none k d =
      count_same (s Objects 0 + 1) (up_to s k) (up_to (move s t (suc v)) k)
      (λ i l y. (y.0, on i y.1 (after-move s t (suc v) i))) (λ i l y. (y.0, back i y.1 (after-move s t (suc v) i)))
    where
      at_t : (i : ℕ) → t ≡ i → s TaskState i ≡ v
      at_t i p = rw (← p) was

      on : (i : ℕ) → s TaskState i ≤ k → Moved s t (suc v) i → move s t (suc v) TaskState i ≤ k
      on i y (state_stays e) = omega arith
      on i y (state_moves p e) = let q = at_t i p in omega arith

      back : (i : ℕ) → move s t (suc v) TaskState i ≤ k → Moved s t (suc v) i → s TaskState i ≤ k
      back i y (state_stays e) = omega arith
      back i y (state_moves p e) = let q = at_t i p in omega arith

  pub moved_left : resolved ≤ v → v ≤ running → left s ≡ 1 + left (move s t (suc v))
  unfolding left undelivered_links put
  moved_left lo hi = go (decide (v ≐ resolved)) (decide (v ≐ granted))
    where
      go : Case (v ≐ resolved) → Case (v ≐ granted) → left s ≡ 1 + left (move s t (suc v))
      go (it_does e) c =
          let a = moved_one resolved e in
          let b = moved_none granted (λ q. omega arith) in
          let d = moved_none running (λ q. omega arith) in
          omega arith
      go (it_does_not n) (it_does e) =
          let a = moved_none resolved n in
          let b = moved_one granted e in
          let d = moved_none running (λ q. omega arith) in
          omega arith
      go (it_does_not n) (it_does_not m) =
          let a = moved_none resolved n in
          let b = moved_none granted m in
          let d = moved_one running (omega arith) in
          omega arith

-- a ready link that is delivered takes one step
pub handed-left : (s : Session) (l : ℕ) → l ≤ s Links 0 → s LinkState l ≡ ready → left s ≡ 1 + left (handed s l)
unfolding left undelivered_links put
handed-left s l low was = let e : undelivered_links s ≡ 1 + undelivered_links (handed s l) = one_less in omega arith
  where
    here : handed s l LinkState l ≡ delivered
    here = put-here s LinkState l l delivered refl

    there : (i : ℕ) → (l ≡ i → ⊥) → handed s l LinkState i ≡ s LinkState i
    there i n = put_there s LinkState l i delivered n

    struck : Holds (is_undelivered (handed s l) l) → ⊥
    struck (inl e) = let h = here in omega arith
    struck (inr e) = let h = here in omega arith

    one_less : undelivered_links s ≡ 1 + undelivered_links (handed s l)
    one_less =
        count-one (s Links 0 + 1) (is_undelivered (handed s l)) (is_undelivered s) l (omega arith) struck (inr was)
        (λ i b n y. rw (there i n) at y) (λ i b n y. rw (there i n) y)
