-- A destroy is entered, for a task's output event too.
use Rattle.std.specs.Prelude.{ℕ, ◌+◌, ◌≤◌, ◌≡◌, refl, [], ◌∷◌}
use Rattle.std.proofs.Common.{sym, ◌∙◌, inl, inr, arith}
use Rattle.session.specs.Table.{Session, put}
use Rattle.session.specs.declared.Field.TheVariants.{Objects, Kind, TemplateState, TaskState, TaskOutput, EventState}
use Rattle.session.specs.declared.Field.TheVariants.{EventType, BlockState}
use Rattle.session.specs.Names.{template, task, event, block, template_destroyed, resolved, task_destroyed, event_open}
use Rattle.session.specs.Names.{fired, doomed, block_destroyed}
use Rattle.rules.specs.Formula.{Formula, Holds, test, choose, Formula.◌≐◌, Formula.◌and◌}
use Rattle.rules.specs.EventTypes.{is_event_type, stays_when_fired}
use Rattle.rules.specs.EventTypeLaws.{gone_or_stays, stays_fires, fires_no_output}
use Rattle.rules.specs.FormulaLaws.{Case, decide, choose_yes, choose_no, Case.it_does, Case.it_does_not}
use Rattle.rules.specs.Reading.{made, is_kind, is_user_event, is_gone, is_held}
use Rattle.rules.specs.Checks.{destroy_checks}
use Rattle.rules.specs.Effects.{destroy, destroy_event, destroy_task, destroy_block, fire_finished, release}
use Rattle.rules.specs.Sound.{kept}
use Rattle.rules.specs.Book.{Book, enter, enter_destroy, strike, Column}
use Rattle.laws.specs.Met.{Checked}
use Rattle.laws.specs.Frame.{AllOf, Shown.due}
use Rattle.laws.specs.Rows.Name.{counts, kinds, event_parts, outputs, links}
use Rattle.laws.specs.Keeping.{Kept}
use Rattle.laws.specs.ByName.{by_name}
use Rattle.laws.specs.Conjuncts.{event_by_name, Event.type_known, output_row}
use Rattle.laws.specs.Conjuncts.Output.{output_made, output_event, output_type}
use Rattle.laws.specs.Standing.{made_low, open_unless, output-at, open_output}
use Rattle.laws.specs.Outside.{Outside, outside_same, outside_put}
use Rattle.laws.specs.Writes.{let_go_fields, release-writes}
use Rattle.laws.specs.BookEntries.{outside_enter}
use Rattle.laws.specs.Relation.{Clause, says, Related, Due, related_by}
use Rattle.laws.specs.Relation.Clause.{same_kinds, same_types, same_outputs, tasks_destroyed, blocks_destroyed}
use Rattle.laws.specs.Relation.Clause.{satisfied_agree, blank_destroyed}
use Rattle.laws.specs.Column.{blank-set, marks-entered, marks_beside}
use Rattle.laws.specs.RelatedState.{related_destroyed, related-release}
use Rattle.laws.specs.RelatedFire.{related-fire_finished}
use Rattle.laws.specs.RelatedDestroyEvent.{spared, related-destroy_event}

-- what the book enters, by the kind of the object
module _ (b : Book) (h : ℕ) where
  abbrev mark : Book
  mark = enter b Column.Destroyed h 1

  -- the output event's too
  abbrev mark_both : Book
  mark_both = strike (enter mark Column.Destroyed (h + 1) 1) (h + 1)

  abbrev has_output : Formula
  has_output = (b Column.Kind h ≐ task) and (b Column.Output h ≐ 1)

  abbrev for_task : Book
  for_task = choose has_output mark_both mark

  enters_event : b Column.Kind h ≡ event → enter_destroy b h ≡ strike mark h
  unfolding enter_destroy
  enters_event e = choose_yes (b Column.Kind h ≐ event) (strike mark h) for_task e

  enters_output : b Column.Kind h ≡ task → b Column.Output h ≡ 1 → enter_destroy b h ≡ mark_both
  unfolding enter_destroy
  enters_output t o =
      choose_no (b Column.Kind h ≐ event) (strike mark h) for_task (λ e. omega arith)
      ∙ choose_yes has_output mark_both mark (t, o)

  enters_mark : (b Column.Kind h ≡ event → ⊥) → ((b Column.Kind h ≡ task) × (b Column.Output h ≡ 1) → ⊥)
      → enter_destroy b h ≡ mark
  unfolding enter_destroy
  enters_mark n m =
      choose_no (b Column.Kind h ≐ event) (strike mark h) for_task n
      ∙ choose_no has_output mark_both mark m

-- what the session does
module _ (s : Session) (caller h : ℕ) where
  abbrev retired : Session
  retired = put s TemplateState h template_destroyed

  abbrev not_task : Session
  not_task = choose (is_kind s event h) (destroy_event s h) (destroy_block s caller h)

  abbrev not_template : Session
  not_template = choose (is_kind s task h) (destroy_task s h) not_task

  does-template : s Kind h ≡ template → destroy s caller h ≡ retired
  unfolding destroy
  does-template k = choose_yes (is_kind s template h) retired not_template k

  does-task : s Kind h ≡ task → destroy s caller h ≡ destroy_task s h
  unfolding destroy
  does-task k =
      choose_no (is_kind s template h) retired not_template (λ e. omega arith)
      ∙ choose_yes (is_kind s task h) (destroy_task s h) not_task k

  does-event : s Kind h ≡ event → destroy s caller h ≡ destroy_event s h
  unfolding destroy
  does-event k =
      choose_no (is_kind s template h) retired not_template (λ e. omega arith)
      ∙ choose_no (is_kind s task h) (destroy_task s h) not_task (λ e. omega arith)
      ∙ choose_yes (is_kind s event h) (destroy_event s h) (destroy_block s caller h) k

  does-block : s Kind h ≡ block → destroy s caller h ≡ destroy_block s caller h
  unfolding destroy
  does-block k =
      choose_no (is_kind s template h) retired not_template (λ e. omega arith)
      ∙ choose_no (is_kind s task h) (destroy_task s h) not_task (λ e. omega arith)
      ∙ choose_no (is_kind s event h) (destroy_event s h) (destroy_block s caller h) (λ e. omega arith)

-- a template: nobody asks the book for its destroying
related_template_gone : (s : Session) (b : Book) (h : ℕ) → h ≤ s Objects 0 → s Kind h ≡ template → Related s b
    → Related (put s TemplateState h template_destroyed) (enter b Column.Destroyed h 1)
unfolding put enter test
related_template_gone s b h m kind r =
    related_by (outside_put {f = TemplateState} _ _ (outside_same s)) (outside_enter {c = Column.Destroyed} h 1 (outside_same b)) r shows
  where
    shows : (c : Clause) → Due (TemplateState ∷ []) (Column.Destroyed ∷ []) c
        → says c (put s TemplateState h template_destroyed) (enter b Column.Destroyed h 1)
    shows tasks_destroyed due =
        λ i k. marks_beside (s Kind) (b Column.Destroyed) kind k (λ q. omega arith) (r tasks_destroyed i k)
    shows blocks_destroyed due =
        λ i k. marks_beside (s Kind) (b Column.Destroyed) kind k (λ q. omega arith) (r blocks_destroyed i k)
    shows blank_destroyed due = blank-set h 1 m (r blank_destroyed)
    shows Rattle.laws.specs.Relation.same_objects x' = elim x' [ ]
    shows Rattle.laws.specs.Relation.same_links x'' = elim x'' [ ]
    shows same_kinds x3 = elim x3 [ ]
    shows same_types x4 = elim x4 [ ]
    shows Rattle.laws.specs.Relation.same_makers x5 = elim x5 [ ]
    shows Rattle.laws.specs.Relation.same_finishes x6 = elim x6 [ ]
    shows same_outputs x7 = elim x7 [ ]
    shows Rattle.laws.specs.Relation.same_sources x8 = elim x8 [ ]
    shows Rattle.laws.specs.Relation.same_targets x9 = elim x9 [ ]
    shows Rattle.laws.specs.Relation.same_slots x10 = elim x10 [ ]
    shows Rattle.laws.specs.Relation.task_counts x11 = elim x11 [ ]
    shows Rattle.laws.specs.Relation.template_counts x12 = elim x12 [ ]
    shows Rattle.laws.specs.Relation.slots_agree x13 = elim x13 [ ]
    shows Rattle.laws.specs.Relation.ended_agree x14 = elim x14 [ ]
    shows Rattle.laws.specs.Relation.starts_agree x15 = elim x15 [ ]
    shows Rattle.laws.specs.Relation.fired_has x16 = elim x16 [ ]
    shows Rattle.laws.specs.Relation.open_has x17 = elim x17 [ ]
    shows satisfied_agree x18 = elim x18 [ ]
    shows Rattle.laws.specs.Relation.struck_agree x19 = elim x19 [ ]
    shows Rattle.laws.specs.Relation.blank_kinds x20 = elim x20 [ ]
    shows Rattle.laws.specs.Relation.blank_times x21 = elim x21 [ ]
    shows Rattle.laws.specs.Relation.blank_satisfied x22 = elim x22 [ ]
    shows Rattle.laws.specs.Relation.blank_has x23 = elim x23 [ ]
    shows Rattle.laws.specs.Relation.blank_starts x24 = elim x24 [ ]
    shows Rattle.laws.specs.Relation.blank_ended x25 = elim x25 [ ]
    shows Rattle.laws.specs.Relation.blank_struck x26 = elim x26 [ ]

-- a block that is doomed or destroyed
related_condemned : (s : Session) (b : Book) (h v : ℕ) → h ≤ s Objects 0 → s Kind h ≡ block → doomed ≤ v → Related s b
    → Related (put s BlockState h v) (enter b Column.Destroyed h 1)
unfolding put enter test
related_condemned s b h v m kind low r =
    related_by (outside_put {f = BlockState} h v (outside_same s)) (outside_enter {c = Column.Destroyed} h 1 (outside_same b)) r shows
  where
    shows : (c : Clause) → Due (BlockState ∷ []) (Column.Destroyed ∷ []) c
        → says c (put s BlockState h v) (enter b Column.Destroyed h 1)
    shows tasks_destroyed due =
        λ i k. marks_beside (s Kind) (b Column.Destroyed) kind k (λ q. omega arith) (r tasks_destroyed i k)
    shows blocks_destroyed due =
        λ i k. marks-entered (λ (w : ℕ). doomed ≤ w) (s BlockState) (b Column.Destroyed) h v 1 low refl (r blocks_destroyed i k)
    shows blank_destroyed due = blank-set h 1 m (r blank_destroyed)
    shows Rattle.laws.specs.Relation.same_objects x' = elim x' [ ]
    shows Rattle.laws.specs.Relation.same_links x'' = elim x'' [ ]
    shows same_kinds x3 = elim x3 [ ]
    shows same_types x4 = elim x4 [ ]
    shows Rattle.laws.specs.Relation.same_makers x5 = elim x5 [ ]
    shows Rattle.laws.specs.Relation.same_finishes x6 = elim x6 [ ]
    shows same_outputs x7 = elim x7 [ ]
    shows Rattle.laws.specs.Relation.same_sources x8 = elim x8 [ ]
    shows Rattle.laws.specs.Relation.same_targets x9 = elim x9 [ ]
    shows Rattle.laws.specs.Relation.same_slots x10 = elim x10 [ ]
    shows Rattle.laws.specs.Relation.task_counts x11 = elim x11 [ ]
    shows Rattle.laws.specs.Relation.template_counts x12 = elim x12 [ ]
    shows Rattle.laws.specs.Relation.slots_agree x13 = elim x13 [ ]
    shows Rattle.laws.specs.Relation.ended_agree x14 = elim x14 [ ]
    shows Rattle.laws.specs.Relation.starts_agree x15 = elim x15 [ ]
    shows Rattle.laws.specs.Relation.fired_has x16 = elim x16 [ ]
    shows Rattle.laws.specs.Relation.open_has x17 = elim x17 [ ]
    shows satisfied_agree x18 = elim x18 [ ]
    shows Rattle.laws.specs.Relation.struck_agree x19 = elim x19 [ ]
    shows Rattle.laws.specs.Relation.blank_kinds x20 = elim x20 [ ]
    shows Rattle.laws.specs.Relation.blank_times x21 = elim x21 [ ]
    shows Rattle.laws.specs.Relation.blank_satisfied x22 = elim x22 [ ]
    shows Rattle.laws.specs.Relation.blank_has x23 = elim x23 [ ]
    shows Rattle.laws.specs.Relation.blank_starts x24 = elim x24 [ ]
    shows Rattle.laws.specs.Relation.blank_ended x25 = elim x25 [ ]
    shows Rattle.laws.specs.Relation.blank_struck x26 = elim x26 [ ]

related-destroy_block : (s : Session) (b : Book) (caller h : ℕ) → h ≤ s Objects 0 → s Kind h ≡ block → Related s b
    → Related (destroy_block s caller h) (enter b Column.Destroyed h 1)
unfolding destroy_block release
related-destroy_block s b caller h m kind r =
    related_condemned (release s caller h) b h v (rw (beside.as_was Objects refl) m) (rw (beside.as_was Kind refl) kind)
    (low (decide f)) (related-release s b caller h r)
  where
    beside : Outside s (release s caller h) let_go_fields
    beside = release-writes s caller h

    f : Formula
    f = is_held (release s caller h) h

    v : ℕ
    v = choose f doomed block_destroyed

    low : Case f → doomed ≤ v
    low (it_does y) = let e = choose_yes f doomed block_destroyed y in omega arith
    low (it_does_not n) = let e = choose_no f doomed block_destroyed n in omega arith

-- an event of type 1 to 4 that is not gone
module _ (s : Session) (b : Book) (e : ℕ) (x : Kept s) (m : Holds (made s e)) (user : Holds (is_user_event s e))
    (there : Holds (is_gone s e) → ⊥) (r : Related s b) where
  -- it was satisfied, once it has fired
  fired-spared : s EventState e ≡ fired → Holds (spared b e)
  fired-spared f = (rw (r same_types e) stays, (r satisfied_agree e (stays_fires _ stays)).1 (inl f))
    where
      known : Holds (is_event_type (s EventType e))
      known = event_by_name e s user.0 (x event_parts e (made_low s e (x counts) m)) type_known

      stays : Holds (stays_when_fired (s EventType e))
      stays = gone_or_stays (s EventType e) known (λ g. there (inr (inr (inl (user.0, inr (f, g))))))

  spared_shut : Holds (spared b e) → s EventState e ≡ event_open → ⊥
  spared_shut y o =
      let z = (r satisfied_agree e (stays_fires _ (rw (r same_types e) at y.0))).0 o in
      let q = y.1 in
      omega arith

  related_event_gone : Related (destroy_event s e) (strike (enter b Column.Destroyed e 1) e)
  related_event_gone =
      related-destroy_event s b e m.1 user.0 (x links)
      (λ n. open_unless s e (x counts) (x event_parts) m user.0 there (λ f. n (fired-spared f))) spared_shut r

-- a task that is waiting or resolved, and its output event, which is open
module _ (s : Session) (b : Book) (t : ℕ) (k : Holds (kept s)) (m : Holds (made s t)) (kind : s Kind t ≡ task)
    (early : s TaskState t ≤ resolved) (r : Related s b) where
  gone : Session
  gone = put s TaskState t task_destroyed

  related-gone : Related gone (enter b Column.Destroyed t 1)
  unfolding gone
  related-gone = related_destroyed s b t m.1 kind early r

  output-gone : s TaskOutput t ≡ 1 → Related (destroy_event gone (t + 1)) (mark_both b t)
  unfolding gone put enter test
  output-gone o =
      related-destroy_event gone (enter b Column.Destroyed t 1) (t + 1) (y output_made).1 (y output_event) (x links)
      (λ n. is_open) (λ q. absurd (no_spare q.0)) related-gone
    where
      x : Kept s
      x = by_name s k

      y : AllOf (output_row t) s
      y = output-at s t (x outputs) m kind o

      is_open : s EventState (t + 1) ≡ event_open
      is_open = open_output s t (x counts) (x event_parts) (x outputs) m kind o (omega arith)

      no_spare : Holds (stays_when_fired (b Column.EventType (t + 1))) → ⊥
      no_spare q = fires_no_output _ (stays_fires _ q) (r same_types (t + 1) ∙ y output_type)

  related-destroy_task : Related (destroy_task s t) (enter_destroy b t)
  unfolding destroy_task gone
  related-destroy_task = go (decide (s TaskOutput t ≐ 1))
    where
      kind_is : b Column.Kind t ≡ task
      kind_is = r same_kinds t ∙ kind

      without : Session
      without = destroy_event gone (t + 1)

      go : Case (s TaskOutput t ≐ 1) → Related (fire_finished (choose (s TaskOutput t ≐ 1) without gone)) (enter_destroy b t)
      go (it_does o) =
          rw (choose_yes (s TaskOutput t ≐ 1) without gone o, enters_output b t kind_is (r same_outputs t ∙ o))
          (related-fire_finished without _ (output-gone o))
      go (it_does_not n) =
          rw (
            choose_no (s TaskOutput t ≐ 1) without gone n,
            enters_mark b t (λ e. let q = kind_is in omega arith) (λ q. n (sym (r same_outputs t) ∙ q.1)),
          )
          (related-fire_finished gone _ related-gone)

module _ (s : Session) (b : Book) (caller h : ℕ) (c : Checked (destroy_checks s caller h)) (k : Holds (kept s))
    (r : Related s b) where
  pub related-destroy : Related (destroy s caller h) (enter_destroy b h)
  related-destroy =
      let l = is.1 in
      go (decide (s Kind h ≐ template)) (decide (s Kind h ≐ task)) (decide (s Kind h ≐ event))
      ((by_name s k kinds).1.0 h (omega arith) is.0)
    where
      is : Holds (made s h)
      is = c 9

      same : b Column.Kind h ≡ s Kind h
      same = r same_kinds h

      plain : (s Kind h ≡ event → ⊥) → (s Kind h ≡ task → ⊥) → enter_destroy b h ≡ enter b Column.Destroyed h 1
      plain n m = enters_mark b h (λ e. n (sym same ∙ e)) (λ q. m (sym same ∙ q.0))

      go : Case (s Kind h ≐ template) → Case (s Kind h ≐ task) → Case (s Kind h ≐ event) → (1 ≤ s Kind h) × (s Kind h ≤ 4)
          → Related (destroy s caller h) (enter_destroy b h)
      go (it_does q) d e l =
          rw (does-template s caller h q, plain (λ p. omega arith) (λ p. omega arith)) (related_template_gone s b h is.1 q r)
      go (it_does_not n) (it_does q) e l = rw (does-task s caller h q) (related-destroy_task s b h k is q (c 16 q) r)
      go (it_does_not n) (it_does_not m) (it_does q) l =
          rw (does-event s caller h q, enters_event b h (same ∙ q)) (related_event_gone s b h (by_name s k) is (c 10 q) (c 11) r)
      go (it_does_not n) (it_does_not m) (it_does_not p) l =
          let q : s Kind h ≡ block = omega arith in
          rw (does-block s caller h q, plain p m) (related-destroy_block s b caller h is.1 q r)
