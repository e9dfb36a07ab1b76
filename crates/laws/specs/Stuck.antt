-- Where no move would be accepted, no task is granted or running; so nobody holds anything, and every live task has a slot that
-- is not satisfied or that has a destroyed block.
use Rattle.std.specs.Prelude.{ℕ, ◌≤◌, ◌<◌, ◌≡◌, ◌⊎◌, [], ◌∷◌}
use Rattle.std.proofs.Common.{ap, sym, subst, ◌∙◌, inl, inr}
use native.Mathlib.Omega.{arith}
use Rattle.session.specs.Table.{Session, at}
use Rattle.session.specs.declared.Field.TheVariants.{Objects, Kind, TaskSlots, SlotMark, SlotPayload}
use Rattle.session.specs.Names.{task, block}
use Rattle.rules.specs.declared.Operation.{Operation}
use Rattle.rules.specs.Formula.{Holds, Formula.◌≼◌}
use Rattle.rules.specs.FormulaLaws.{Case, decide, Case.it_does, Case.it_does_not}
use Rattle.rules.specs.Reading.{made, is_live}
use Rattle.rules.specs.Checks.{grant_checks, start_checks, end_checks}
use Rattle.rules.specs.Sound.{kept}
use Rattle.rules.specs.Step.{answer, rules, Reply}
use Rattle.rules.specs.Demand.{accepted, moves}
use Rattle.rules.specs.Book.{Book, Column, live}
use Rattle.laws.specs.ByName.{by_name}
use Rattle.laws.specs.Met.{met}
use Rattle.laws.specs.Met.{none_fails}
use Rattle.laws.specs.StepKeeps.{kept_step}
use Rattle.laws.specs.Holding.{Idle, lacks, waits, startable, endable}
use Rattle.laws.specs.Relation.{Related, SlotAgrees}
use Rattle.laws.specs.Relation.Clause.{same_kinds, task_counts, slots_agree, blocks_destroyed}
use Rattle.laws.specs.Living.{task-made, live_there}

-- no move would be accepted
abbrev pub Stuck : Session → Type 0
Stuck s = (o : Operation) → Holds (moves o) → Holds (accepted s o) → ⊥

-- in the book: slot j of task t was not satisfied, or brought a block that is destroyed
abbrev pub Lacks : Book → ℕ → ℕ → Type 0
Lacks b t j =
    (b Column.Times (at t j) ≡ 0)
    ⊎ ((b Column.Kind (b Column.Brought (at t j)) ≡ block) × (b Column.Destroyed (b Column.Brought (at t j)) ≡ 1))

-- a move of task t
move : ℕ → ℕ → Operation
move c t = record { code = c; fields = t ∷ 0 ∷ [] }

module _ (s : Session) (k : Holds (kept s)) (stuck : Stuck s) where
  answered : (o : Operation) → Holds (moves o) → answer s o ≡ 0 → ⊥
  unfolding accepted
  answered o c e = stuck o c (ap (λ (r : Reply). r.refused) (kept_step s o k) ∙ e)

  idle : Idle s
  unfolding move answer rules
  idle t m e = (
    λ q. answered (move 11 t) (omega arith, omega arith) (none_fails (start_checks s t) (startable s t m e q)),
    λ q. answered (move 12 t) (omega arith, omega arith) (none_fails (end_checks s t 0) (endable s t m e q)),
  )

  no_grant : (t : ℕ) → met (grant_checks s t) → ⊥
  unfolding move answer rules
  no_grant t m = answered (move 10 t) (omega arith, omega arith) (none_fails (grant_checks s t) m)

  module _ (b : Book) (x : Related s b) where
    -- what lacks in the session lacks in the book
    lacks_there : (t j : ℕ) → t ≤ s Objects 0 → Holds (is_live s t) → j < s TaskSlots t → Holds (lacks s t j) → Lacks b t j
    lacks_there t j l u h z = go (x slots_agree t (omega arith) u.0 (λ e. let w = u.1 in omega arith) j h) z
      where
        go : SlotAgrees (s SlotMark (at t j)) (s SlotPayload (at t j)) (b Column.Times (at t j)) (b Column.Brought (at t j))
            → Holds (lacks s t j) → Lacks b t j
        go a (inl e) = inl (a.0 e)
        go a (inr y) = either (decide (1 ≼ s SlotMark (at t j)))
          where
            either : Case (1 ≼ s SlotMark (at t j)) → Lacks b t j
            either (it_does_not n) = inl (a.0 (omega arith))
            either (it_does m) =
                inr (subst (λ (p : ℕ). (b Column.Kind p ≡ block) × (b Column.Destroyed p ≡ 1)) (sym (a.1 m).1) gone)
              where
                gone : (b Column.Kind (s SlotPayload (at t j)) ≡ block) × (b Column.Destroyed (s SlotPayload (at t j)) ≡ 1)
                gone =
                    let d = y.1 in (
                      x same_kinds (s SlotPayload (at t j)) ∙ y.0,
                      (x blocks_destroyed (s SlotPayload (at t j)) y.0).0
                          (omega arith),
                    )

    pub live-lacks : (t : ℕ) → Holds (live b t) → (j : ℕ) × (j < b Column.Count t) × Lacks b t j
    live-lacks t u = (w.0, rw (x task_counts t m.1) w.1, lacks_there t w.0 m.0.1 live-task w.1 w.2)
      where
        m : Holds (made s t) × (s Kind t ≡ task)
        m = task-made s b k x t u.0

        live-task : Holds (is_live s t)
        live-task = live_there s b k x t m.0.1 u

        w : (j : ℕ) × (j < s TaskSlots t) × Holds (lacks s t j)
        w = waits s (by_name s k) idle t m.0 m.1 live-task.1 (no_grant t)
