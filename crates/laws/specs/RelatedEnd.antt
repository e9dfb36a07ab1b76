-- An end is entered, and what the output event has: a plain task's fires now with the returned block; a finish task's has 0,
-- and fires with it once no descendant is live.
use Rattle.std.specs.Prelude.{ℕ, ◌+◌, ◌≤◌, ◌≡◌, refl, [], ◌∷◌}
use Rattle.std.proofs.Math.Path.{ap}
use Rattle.std.proofs.Common.{sym, subst, ◌∙◌, arith}
use Rattle.session.specs.Table.{Session, put, change}
use Rattle.session.specs.declared.Field.TheVariants.{Objects, Kind, TaskState, TaskFinish, TaskOutput, EventState}
use Rattle.session.specs.Names.{task, running, ended, event_open}
use Rattle.rules.specs.Formula.{Formula, Holds, test, choose, Formula.◌≐◌, Formula.◌and◌}
use Rattle.rules.specs.FormulaLaws.{Case, decide, choose_yes, choose_no, Case.it_does, Case.it_does_not}
use Rattle.rules.specs.Reading.{made}
use Rattle.rules.specs.Checks.{end_checks}
use Rattle.rules.specs.Effects.{end, let_go, bury_doomed, fire_one, fire_finished}
use Rattle.rules.specs.Sound.{kept}
use Rattle.rules.specs.Book.{Book, enter, enter_end, Column}
use Rattle.laws.specs.Met.{Checked}
use Rattle.laws.specs.Frame.{AllOf, Shown.due}
use Rattle.laws.specs.Rows.Name.{counts, task_parts, event_parts, outputs}
use Rattle.laws.specs.Keeping.{Kept}
use Rattle.laws.specs.ByName.{by_name}
use Rattle.laws.specs.Conjuncts.{task_by_name, Task.finish_flag, output_row, Output.output_made, Output.output_type}
use Rattle.laws.specs.Standing.{made_low, output-at, open_output}
use Rattle.laws.specs.Outside.{outside_same}
use Rattle.laws.specs.BookEntries.{outside_enter}
use Rattle.laws.specs.Relation.{HadFired, Clause, says, Related, Due, related_by}
use Rattle.laws.specs.Relation.Clause.{same_finishes, same_outputs, fired_has, open_has, blank_has}
use Rattle.laws.specs.Column.{at_set, set_there, blank-set, unfired}
use Rattle.laws.specs.RelatedState.{related-let_go, related-ended}
use Rattle.laws.specs.RelatedFire.{related_fire_output, related-fire_finished}

-- an open event has 0
related_zero : (s : Session) (b : Book) (e : ℕ) → e ≤ s Objects 0 → s EventState e ≡ event_open → Related s b
    → Related s (enter b Column.Has e 0)
unfolding enter test
related_zero s b e m is_open r = related_by (outside_same s) (outside_enter {c = Column.Has} e 0 (outside_same b)) r shows
  where
    not-fired : (i : ℕ) → HadFired (s EventState i) → e ≡ i → ⊥
    not-fired i f q = unfired event_open (omega arith) (omega arith) (subst HadFired (ap (s EventState) (sym q) ∙ is_open) f)

    shows : (c : Clause) → Due [] (Column.Has ∷ []) c → says c s (enter b Column.Has e 0)
    shows fired_has due = λ i f. set_there (b Column.Has) e 0 i (not-fired i f) ∙ r fired_has i f
    shows open_has due = λ i o. at_set (λ (w : ℕ). w ≡ 0) (b Column.Has) e 0 i (λ q. refl) (λ n. r open_has i o)
    shows blank_has due = blank-set e 0 m (r blank_has)
    shows Rattle.laws.specs.Relation.same_objects x' = elim x' [ ]
    shows Rattle.laws.specs.Relation.same_links x'' = elim x'' [ ]
    shows Rattle.laws.specs.Relation.same_kinds x3 = elim x3 [ ]
    shows Rattle.laws.specs.Relation.same_types x4 = elim x4 [ ]
    shows Rattle.laws.specs.Relation.same_makers x5 = elim x5 [ ]
    shows same_finishes x6 = elim x6 [ ]
    shows same_outputs x7 = elim x7 [ ]
    shows Rattle.laws.specs.Relation.same_sources x8 = elim x8 [ ]
    shows Rattle.laws.specs.Relation.same_targets x9 = elim x9 [ ]
    shows Rattle.laws.specs.Relation.same_slots x10 = elim x10 [ ]
    shows Rattle.laws.specs.Relation.task_counts x11 = elim x11 [ ]
    shows Rattle.laws.specs.Relation.template_counts x12 = elim x12 [ ]
    shows Rattle.laws.specs.Relation.slots_agree x13 = elim x13 [ ]
    shows Rattle.laws.specs.Relation.ended_agree x14 = elim x14 [ ]
    shows Rattle.laws.specs.Relation.starts_agree x15 = elim x15 [ ]
    shows Rattle.laws.specs.Relation.tasks_destroyed x16 = elim x16 [ ]
    shows Rattle.laws.specs.Relation.blocks_destroyed x17 = elim x17 [ ]
    shows Rattle.laws.specs.Relation.satisfied_agree x18 = elim x18 [ ]
    shows Rattle.laws.specs.Relation.struck_agree x19 = elim x19 [ ]
    shows Rattle.laws.specs.Relation.blank_kinds x20 = elim x20 [ ]
    shows Rattle.laws.specs.Relation.blank_times x21 = elim x21 [ ]
    shows Rattle.laws.specs.Relation.blank_satisfied x22 = elim x22 [ ]
    shows Rattle.laws.specs.Relation.blank_starts x23 = elim x23 [ ]
    shows Rattle.laws.specs.Relation.blank_ended x24 = elim x24 [ ]
    shows Rattle.laws.specs.Relation.blank_destroyed x25 = elim x25 [ ]
    shows Rattle.laws.specs.Relation.blank_struck x26 = elim x26 [ ]

-- what the book enters
module _ (b : Book) (t p : ℕ) where
  abbrev mark : Book
  mark = enter b Column.Ended t 1

  abbrev has : ℕ
  has = choose (b Column.Finish t ≐ 1) 0 p

  enters_mark : (b Column.Output t ≡ 1 → ⊥) → enter_end b t p ≡ mark
  unfolding enter_end
  enters_mark n = choose_no (b Column.Output t ≐ 1) (enter mark Column.Has (t + 1) has) mark n

  enters_has : (v : ℕ) → b Column.Output t ≡ 1 → has ≡ v → enter_end b t p ≡ enter mark Column.Has (t + 1) v
  unfolding enter_end
  enters_has v o e =
      choose_yes (b Column.Output t ≐ 1) (enter mark Column.Has (t + 1) has) mark o
      ∙ ap (λ (w : ℕ). enter mark Column.Has (t + 1) w) e

module _ (s : Session) (b : Book) (t p : ℕ) (c : Checked (end_checks s t p)) (k : Holds (kept s)) (r : Related s b) where
  x : Kept s
  x = by_name s k

  is : Holds (made s t)
  is = (c 9).0

  kind : s Kind t ≡ task
  kind = (c 10).0

  was : s TaskState t ≡ running
  was = c 16

  over : Session
  over = put (let_go s t (λ k. 0 ≐ 0)) TaskState t ended

  related-over : Related over (enter b Column.Ended t 1)
  unfolding over let_go bury_doomed change
  related-over = related-ended (let_go s t (λ k. 0 ≐ 0)) b t is.1 was (related-let_go s t (λ k. 0 ≐ 0) b r)

  has-output : s TaskOutput t ≡ 1 → AllOf (output_row t) s
  has-output = output-at s t (x outputs) is kind

  fires_plain : s TaskOutput t ≡ 1 → Related (fire_one over (t + 1) p) (enter (enter b Column.Ended t 1) Column.Has (t + 1) p)
  unfolding over let_go bury_doomed change put
  fires_plain o =
      let y = has-output o in
      related_fire_output over (enter b Column.Ended t 1) (t + 1) p (y output_made).1 (y output_type) related-over

  waits_finish : s TaskOutput t ≡ 1 → Related over (enter (enter b Column.Ended t 1) Column.Has (t + 1) 0)
  unfolding over let_go bury_doomed change put
  waits_finish o =
      let w = was in
      let is_open = open_output s t (x counts) (x event_parts) (x outputs) is kind o (omega arith) in
      related_zero over (enter b Column.Ended t 1) (t + 1) (has-output o output_made).1 is_open related-over

  plain : Formula
  plain = s TaskOutput t ≐ 1 and s TaskFinish t ≐ 0

  finish_mark : (s TaskFinish t ≡ 0 → ⊥) → b Column.Finish t ≡ 1
  finish_mark n =
      let l = task_by_name t s kind (x task_parts t (made_low s t (x counts) is)) finish_flag in
      let q = r same_finishes t in
      omega arith

  pub related-end : Related (end s t p) (enter_end b t p)
  unfolding end over plain
  related-end = go (decide (s TaskOutput t ≐ 1)) (decide (s TaskFinish t ≐ 0))
    where
      fires : Session
      fires = fire_one over (t + 1) p

      go : Case (s TaskOutput t ≐ 1) → Case (s TaskFinish t ≐ 0)
          → Related (fire_finished (choose plain fires over)) (enter_end b t p)
      go (it_does_not n) f =
          rw (choose_no plain fires over (λ y. n y.0), enters_mark b t p (λ q. n (sym (r same_outputs t) ∙ q)))
          (related-fire_finished over _ related-over)
      go (it_does o) (it_does f) =
          rw (
            choose_yes plain fires over (o, f),
            enters_has b t p p (r same_outputs t ∙ o) (choose_no (b Column.Finish t ≐ 1) 0 p
                (λ q. let z = r same_finishes t in omega arith)),
          )
          (related-fire_finished fires _ (fires_plain o))
      go (it_does o) (it_does_not n) =
          rw (
            choose_no plain fires over (λ y. n y.1),
            enters_has b t p 0 (r same_outputs t ∙ o) (choose_yes (b Column.Finish t ≐ 1) 0 p (finish_mark n)),
          )
          (related-fire_finished over _ (waits_finish o))
