-- Of any list of moves no more are accepted than there are steps left, and those are no more than the book has: one for each
-- undelivered link, three for each live task.
use Rattle.std.specs.Prelude.{ℕ, zero, suc, ◌+◌, ◌*◌, ◌≤◌, ◌<◌, List, [], ◌∷◌}
use Rattle.std.proofs.Common.{inl, inr}
use native.Mathlib.Omega.{arith}
use Rattle.session.specs.Table.{Session}
use Rattle.session.specs.declared.Field.TheVariants.{Objects, Links, LinkState}
use Rattle.session.specs.Names.{resolved, granted, running, delivered}
use Rattle.rules.specs.declared.Operation.{Operation}
use Rattle.rules.specs.Formula.{Holds, Formula.◌≐◌}
use Rattle.rules.specs.FormulaLaws.{choose_yes, choose_no}
use Rattle.rules.specs.Reading.{is_undelivered}
use Rattle.rules.specs.Sound.{kept}
use Rattle.rules.specs.Step.{step}
use Rattle.rules.specs.Demand.{accepted, next, accepted_of, AllMove, AllMove.one}
use Rattle.rules.specs.Book.{Book, live, live_tasks, undelivered as unstruck, undelivered_links as unstruck_links}
use Rattle.rules.specs.LastLine.{undelivered_links}
use Rattle.laws.specs.Rows.Name.{free_links}
use Rattle.laws.specs.ByName.{by_name}
use Rattle.laws.specs.Conjuncts.{no_link_lem}
use Rattle.laws.specs.Accepted.{Called, called, Called.refused, Called.accepted as was-accepted}
use Rattle.laws.specs.StepKeeps.{step_keeps}
use Rattle.laws.specs.Counting.{count-more}
use Rattle.laws.specs.Relation.{Related}
use Rattle.laws.specs.Relation.Clause.{same_objects, same_links, struck_agree}
use Rattle.laws.specs.Living.{live_here}
use Rattle.laws.specs.Left.{left, up_to, tasks_up_to}
use Rattle.laws.specs.Operations.{moves_fall}

-- of a list of moves at most as many are accepted as steps are left
pub accepted-left : (s : Session) (more : List Operation) → Holds (kept s) → AllMove more → accepted_of s more ≤ left s
unfolding accepted_of accepted next
accepted-left s [] k m = omega arith
accepted-left s (o ∷ os) k (one c m) = go (called s o) (accepted-left (step s o).leaves os (step_keeps s o k) m)
  where
    go : Called s o → accepted_of (step s o).leaves os ≤ left (step s o).leaves → accepted_of s (o ∷ os) ≤ left s
    go (refused n w e) l = rw (choose_no {A = ℕ} (accepted s o) 1 0 n, e) (let g = rw e at l in omega arith)
    go (was-accepted h n w e a) l =
        let f = moves_fall s o a c k in rw (choose_yes {A = ℕ} (accepted s o) 1 0 n, e) (let g = rw e at l in omega arith)

-- the book has at least as many
module _ (s : Session) (b : Book) (k : Holds (kept s)) (x : Related s b) where
  unstruck_link : (l : ℕ) → l < s Links 0 + 1 → Holds (is_undelivered s l) → Holds (unstruck b l)
  unstruck_link zero h u = absurd (none u (no_link_lem s 0 (by_name s k free_links).0).no_state)
    where
      none : Holds (is_undelivered s 0) → Holds (s LinkState 0 ≐ 0) → ⊥
      none (inl e) z = omega arith
      none (inr e) z = omega arith
  unstruck_link (suc l) h u = (omega arith, (x struck_agree (suc l) (omega arith) (omega arith)).1 (early u))
    where
      early : Holds (is_undelivered s (suc l)) → delivered ≤ s LinkState (suc l) → ⊥
      early (inl e) d = omega arith
      early (inr e) d = omega arith

  live_more : (v : ℕ) → v ≤ running → tasks_up_to s v ≤ live_tasks b
  live_more v h =
      rw (x same_objects)
      (count-more (s Objects 0 + 1) (up_to s v) (live b) (λ t l u. live_here s b k x t (let low = u.1 in (u.0, omega arith))))

  links-more : undelivered_links s ≤ unstruck_links b
  unfolding undelivered_links
  links-more = rw (x same_links) (count-more (s Links 0 + 1) (is_undelivered s) (unstruck b) unstruck_link)

  pub left_bounded : left s ≤ unstruck_links b + 3 * live_tasks b
  unfolding left
  left_bounded =
      let l = links-more in
      let p = live_more resolved (omega arith) in
      let q = live_more granted (omega arith) in
      let r = live_more running (omega arith) in
      omega arith

  pub moves_bounded : (more : List Operation) → AllMove more → accepted_of s more ≤ unstruck_links b + 3 * live_tasks b
  moves_bounded more m =
      let p = accepted-left s more k m in
      let q = left_bounded in
      omega arith
