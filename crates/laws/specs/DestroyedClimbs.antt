-- A destroyed task climbs at least one step (document 02, E5): it never ran, so it made no task, and it is not main, which has run
-- wherever there is a caller.
use Rattle.std.specs.Prelude.{ℕ, zero, suc, ◌+◌, ◌≤◌, ◌<◌, ◌≡◌, refl, ◌⊎◌}
use Rattle.std.proofs.Common.{sym, ap, ◌∙◌, inl, inr, arith}
use Rattle.session.specs.Table.{Session, put, change}
use Rattle.session.specs.Names.{template, task, resolved, running, task_destroyed}
use Rattle.session.specs.declared.Field.TheVariants.{Objects, Kind, TaskState, TaskCreator, TaskOutput}
use Rattle.rules.specs.declared.Operation.{Operation}
use Rattle.rules.specs.Formula.{Holds, Formula.◌≐◌}
use Rattle.rules.specs.FormulaLaws.{choose_yes, choose_no, choose_case}
use Rattle.rules.specs.Descendants.{busy, climbed, is_over}
use Rattle.rules.specs.Sound.{sound, creator, task_part}
use Rattle.rules.specs.Checks.{refusal, destroy_checks}
use Rattle.rules.specs.Effects.{destroy, destroy_task, destroy_event, fire_finished, fire}
use Rattle.rules.specs.Step.{Rule, rules, arg, step}
use Rattle.laws.specs.Accepted.{Called, called, rule_at, Called.refused, Called.accepted}
use Rattle.laws.specs.Met.{Checked, by_number, all_met_lem}
use Rattle.laws.specs.Places.{put-here}
use Rattle.laws.specs.Rows.Name.{counts, task_parts, roots, creators}
use Rattle.laws.specs.Keeping.{Sound}
use Rattle.laws.specs.ByName.{sound_by_name}
use Rattle.laws.specs.Conjuncts.{roots_by_name, Root.main_creator}
use Rattle.laws.specs.Under.{Falls, creators_fall, child_between}
use Rattle.laws.specs.Climbing.{climbed-moves, destroy_climbs_lem}

-- no task was made by h
abbrev pub Childless : Session → ℕ → Type 0
Childless s h = (d : ℕ) → d ≤ s Objects 0 → s TaskCreator d ≡ h → ⊥

-- nobody descends from h then
pub childless_idle : (s : Session) → Falls s → (h : ℕ) → Childless s h → Holds (busy s h) → ⊥
childless_idle s falls h none (d, l, (live, u)) =
    let child = child_between s falls d d h (omega arith) u in
    let b = child.1 in
    none child.0 (omega arith) child.2.1.0

module _ (s : Session) (good : Holds (sound s)) where
  r : Sound s
  r = sound_by_name s good

  falls : Falls s
  falls = creators_fall s (r counts).1.0 (r task_parts) (r roots) (r creators)

  -- "every other task's creator is a lower task, running or ended"
  abbrev MadeBy : ℕ → Type 0
  MadeBy h =
      (1 ≤ s TaskCreator h) × (s TaskCreator h < h) × (s Kind (s TaskCreator h) ≡ task) × (running ≤ s TaskState (s TaskCreator h))

  maker : (h : ℕ) → h ≤ s Objects 0 → s Kind h ≡ task → (h ≡ 2) ⊎ MadeBy h
  maker h l k = go (r creators h (omega arith) k)
    where
      go : Holds (creator s h) → (h ≡ 2) ⊎ MadeBy h
      go (inl e) = inl e
      go (inr (there, (lower, (is_task, inl q)))) = inr (there, omega arith, is_task, omega arith)
      go (inr (there, (lower, (is_task, inr q)))) = inr (there, omega arith, is_task, omega arith)

  -- so a task that never ran made none
  pub unstarted_childless : (h : ℕ) → 1 ≤ h → s TaskState h ≤ resolved → Childless s h
  unstarted_childless h m early d l e = go (r task_parts d (omega (arith, (r counts).1.0)))
    where
      main : d ≡ 2 → ⊥
      main i = let z : s TaskCreator d ≡ 0 = rw i (roots_by_name s (r roots) main_creator) in omega arith

      started : running ≤ s TaskState (s TaskCreator d) → ⊥
      started ran = let z : running ≤ s TaskState h = rw e at ran in omega arith

      made_by : (d ≡ 2) ⊎ MadeBy d → ⊥
      made_by (inl i) = main i
      made_by (inr x) = started x.3

      go : Holds (task_part s d) → ⊥
      go (inl x) = made_by (maker d l x.0)
      go (inr (other, (no_state, (no_creator, rest)))) = omega arith

  -- and main has run where there is another task
  main_ran : (n h : ℕ) → h ≤ n → h ≤ s Objects 0 → s Kind h ≡ task → (h ≡ 2) ⊎ (running ≤ s TaskState 2)
  main_ran zero h l b k = go (maker h b k)
    where
      go : (h ≡ 2) ⊎ MadeBy h → (h ≡ 2) ⊎ (running ≤ s TaskState 2)
      go (inl e) = inl e
      go (inr (there, lower, is_task, ran)) = absurd (omega arith)
  main_ran (suc n) h l b k = go (main_ran n (s TaskCreator h)) (maker h b k)
    where
      up : (s TaskCreator h ≡ 2) ⊎ (running ≤ s TaskState 2) → running ≤ s TaskState (s TaskCreator h) → running ≤ s TaskState 2
      up (inl e) ran = rw e at ran
      up (inr y) ran = y

      go : (s TaskCreator h ≤ n → s TaskCreator h ≤ s Objects 0 → s Kind (s TaskCreator h) ≡ task
          → (s TaskCreator h ≡ 2) ⊎ (running ≤ s TaskState 2))
          → (h ≡ 2) ⊎ MadeBy h → (h ≡ 2) ⊎ (running ≤ s TaskState 2)
      go further (inl e) = inl e
      go further (inr (there, lower, is_task, ran)) = inr (up (further (omega arith) (omega arith) is_task) ran)

  module _ (caller h : ℕ) (c : Checked (destroy_checks s caller h)) (k : s Kind h ≡ task) where
    -- a task that may be destroyed is not main
    not_main : h ≡ 2 → ⊥
    not_main e = go (main_ran caller caller (omega arith) (c 8).0.1 (c 8).1.0)
      where
        early : s TaskState 2 ≤ resolved
        early = rw e at (c 16 k)

        go : (caller ≡ 2) ⊎ (running ≤ s TaskState 2) → ⊥
        go (inl q) = let z : s TaskState 2 ≡ running = rw q at (c 8).1.1 in omega (arith, early)
        go (inr ran) = omega (arith, early)

    made-once : 1 ≤ s TaskCreator h
    made-once = go (maker h (c 9).1 k)
      where
        go : (h ≡ 2) ⊎ MadeBy h → 1 ≤ s TaskCreator h
        go (inl e) = absurd (not_main e)
        go (inr x) = x.0

    abbrev q : Session
    q = destroy_task s h

    abbrev left : Session
    left = put s TaskState h task_destroyed

    destroyed : destroy s caller h ≡ q
    unfolding destroy
    destroyed =
        choose_no (s Kind h ≐ template) _ _ (λ z. omega arith) ∙ choose_yes (s Kind h ≐ task) _ _ k

    -- of what a climb reads, the state of h alone is written
    same_count : q Objects 0 ≡ s Objects 0
    unfolding destroy_task fire_finished fire destroy_event put change
    same_count =
        choose_case (λ (p : Session). p Objects 0 ≡ s Objects 0) (s TaskOutput h ≐ 1) (destroy_event left (h + 1)) left (λ _. refl) (λ _. refl)

    same-creators : q TaskCreator ≡ s TaskCreator
    unfolding destroy_task fire_finished fire destroy_event put change
    same-creators =
        choose_case (λ (p : Session). p TaskCreator ≡ s TaskCreator) (s TaskOutput h ≐ 1) (destroy_event left (h + 1)) left (λ _. refl) (λ _. refl)

    gone : q TaskState h ≡ task_destroyed
    unfolding destroy_task fire_finished fire destroy_event put change
    gone =
        choose_case (λ (p : Session). p TaskState h ≡ task_destroyed) (s TaskOutput h ≐ 1) (destroy_event left (h + 1)) left
        (λ _. put-here s TaskState h h task_destroyed refl) (λ _. put-here s TaskState h h task_destroyed refl)

    lower : Falls q
    lower = rw (same-creators, same_count) falls

    childless : Childless q h
    childless = rw (same-creators, same_count) (unstarted_childless h (c 9).0 (c 16 k))

    over : Holds (is_over q h)
    over = (λ live. let z = gone in let l = live.1 in omega arith, childless_idle q lower h childless)

    pub destroyed_climbs : 1 ≤ climbed (destroy s caller h) h
    destroyed_climbs =
        let e = climbed-moves q lower h (rw same_count (c 9).1) (rw same-creators made-once) over in
        rw destroyed (omega arith)

-- of a single call
pub destroy_climbs_some : (s : Session) (o : Operation) → o.code ≡ 8 → (step s o).refused ≡ 0 → s Kind (arg o 1) ≡ task
    → 1 ≤ (step s o).made
unfolding rules
destroy_climbs_some s o k z t = go (called s o)
  where
    go : Called s o → 1 ≤ (step s o).made
    go (refused n w l) = absurd (n z)
    go (accepted good n w l a) =
        let row = rule_at o 8 k in
        let none = ap (λ (q : Rule). refusal (q.asks s o)) (sym row) ∙ a.none_fails in
        let left = l ∙ a.leaves ∙ ap (λ (q : Rule). q.does s o) row in
        let checks = destroy_checks s (arg o 0) (arg o 1) in
        rw (destroy_climbs_lem s o k z t, left) (destroyed_climbs s good (arg o 0) (arg o 1) (by_number checks (all_met_lem checks tt none)) t)
