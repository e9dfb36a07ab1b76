-- A task's slot is satisfied: once in the book. A delivery to a destroyed task is dropped, and only the book counts it.
use Rattle.std.specs.Prelude.{ℕ, ◌+◌, ◌≤◌, ◌<◌, ◌≡◌, refl}
use Rattle.std.proofs.Common.{ap, sym, ◌∙◌, arith}
use mathlib.Core.List.{[], ◌∷◌}
use Rattle.session.specs.Table.{Session, put, at}
use Rattle.session.specs.declared.Field.TheVariants.{Objects, Kind, TaskState, TaskSlots, SlotMark, SlotPayload}
use Rattle.session.specs.Names.{task, resolved, granted, task_destroyed, satisfied}
use Rattle.rules.specs.Formula.{Formula, test, choose, Formula.◌≐◌, Formula.◌≼◌, Formula.each, not, Formula.◌and◌}
use Rattle.rules.specs.EventTypes.{fires_at_first}
use Rattle.rules.specs.FormulaLaws.{Case, decide, choose_yes, choose_no, Case.it_does, Case.it_does_not}
use Rattle.rules.specs.Effects.{satisfy_slot}
use Rattle.rules.specs.Book.{Book, enter, satisfies, Column}
use Rattle.laws.specs.SlotPlaces.{same-task}
use Rattle.laws.specs.Outside.{outside_same, outside_put}
use Rattle.laws.specs.BookEntries.{OutsideBook, outside_enter}
use Rattle.laws.specs.Frame.{Shown.due}
use Rattle.laws.specs.Relation.{SlotsAgree, SlotAgrees, Clause, says, Related, Due, related_by}
use Rattle.laws.specs.Relation.Clause.{same_kinds, slots_agree, blank_times}
use Rattle.laws.specs.Places.{Places, places, Places.one, Places.two}
use Rattle.laws.specs.Column.{set, set_here, set_there, blank-set}
use Rattle.laws.specs.RelatedState.{related_early}

-- one slot is satisfied once, with p
slots_filled : (n i p : ℕ) (kind state slots mark payload times brought : ℕ → ℕ) → times i ≡ 0
    → SlotsAgree n kind state slots mark payload times brought
    → SlotsAgree n kind state slots (set mark i satisfied) (set payload i p) (set times i (times i + 1)) (set brought i p)
slots_filled n i p kind state slots mark payload times brought z x h l k d j m = go (places i (at h j))
  where
    here : ℕ
    here = at h j

    go : Places i here
        → SlotAgrees (set mark i satisfied here) (set payload i p here) (set times i (times i + 1) here) (set brought i p here)
    go (one e) =
        rw (
          set_here mark i satisfied here e,
          set_here payload i p here e,
          set_here times i (times i + 1) here e,
          set_here brought i p here e,
        )
        (λ q. absurd (omega arith), λ q. (omega arith, refl))
    go (two n') =
        rw (
          set_there mark i satisfied here n',
          set_there payload i p here n',
          set_there times i (times i + 1) here n',
          set_there brought i p here n',
        )
        (x h l k d j m)

-- a slot of a destroyed task counts in the book alone
slots-dropped : (n t j p v : ℕ) (kind state slots mark payload times brought : ℕ → ℕ) → j < 16
    → ((h : ℕ) → h < n + 1 → slots h ≤ 16) → state t ≡ task_destroyed
    → SlotsAgree n kind state slots mark payload times brought
    → SlotsAgree n kind state slots mark payload (set times (at t j) v) (set brought (at t j) p)
slots-dropped n t j p v kind state slots mark payload times brought low few gone x h l k d i m =
    let apart : at t j ≡ at h i → ⊥ =
    λ e. let f = few h l in d (ap state (sym (same-task h i t j (omega arith) low e)) ∙ gone) in
    rw (set_there times (at t j) v (at h i) apart, set_there brought (at t j) p (at h i) apart) (x h l k d i m)

-- what the book enters of a task's slot
abbrev pub slot_entry : Book → ℕ → ℕ → ℕ → Book
slot_entry b t j p = enter (enter b Column.Times (at t j) (b Column.Times (at t j) + 1)) Column.Brought (at t j) p

pub satisfies-task : (b : Book) (t j p : ℕ) → b Column.Kind t ≡ task → satisfies b t j p ≡ slot_entry b t j p
unfolding satisfies
satisfies-task b t j p k =
    choose_yes (b Column.Kind t ≐ task) (slot_entry b t j p)
    (choose (fires_at_first (b Column.EventType t) and not (b Column.Satisfied t ≐ 1))
    (enter (enter b Column.Satisfied t 1) Column.Has t p) b) k

slot-entered : (b : Book) (t j p : ℕ) → OutsideBook b (slot_entry b t j p) (Column.Brought ∷ Column.Times ∷ [])
slot-entered b t j p = outside_enter _ _ (outside_enter _ _ (outside_same b))

module _ (s : Session) (b : Book) (t j p : ℕ) (made : t ≤ s Objects 0) (low : j < 16) (r : Related s b) where
  related-filled : b Column.Times (at t j) ≡ 0
      → Related (put (put s SlotMark (at t j) satisfied) SlotPayload (at t j) p) (slot_entry b t j p)
  unfolding put enter test
  related-filled z = related_by (outside_put {f = SlotPayload} (at t j) p (outside_put {f = SlotMark} (at t j) satisfied (outside_same s))) (slot-entered b t j p) r shows
    where
      shows : (c : Clause) → Due (SlotPayload ∷ SlotMark ∷ []) (Column.Brought ∷ Column.Times ∷ []) c
          → says c (put (put s SlotMark (at t j) satisfied) SlotPayload (at t j) p) (slot_entry b t j p)
      shows slots_agree due =
          slots_filled (s Objects 0) (at t j) p (s Kind) (s TaskState) (s TaskSlots) (s SlotMark) (s SlotPayload)
          (b Column.Times) (b Column.Brought) z (r slots_agree)
      shows blank_times due = blank-set (at t j) (b Column.Times (at t j) + 1) (omega arith) (r blank_times)
      shows Rattle.laws.specs.Relation.same_objects x' = elim x' [ ]
      shows Rattle.laws.specs.Relation.same_links x'' = elim x'' [ ]
      shows same_kinds x3 = elim x3 [ ]
      shows Rattle.laws.specs.Relation.same_types x4 = elim x4 [ ]
      shows Rattle.laws.specs.Relation.same_makers x5 = elim x5 [ ]
      shows Rattle.laws.specs.Relation.same_finishes x6 = elim x6 [ ]
      shows Rattle.laws.specs.Relation.same_outputs x7 = elim x7 [ ]
      shows Rattle.laws.specs.Relation.same_sources x8 = elim x8 [ ]
      shows Rattle.laws.specs.Relation.same_targets x9 = elim x9 [ ]
      shows Rattle.laws.specs.Relation.same_slots x10 = elim x10 [ ]
      shows Rattle.laws.specs.Relation.task_counts x11 = elim x11 [ ]
      shows Rattle.laws.specs.Relation.template_counts x12 = elim x12 [ ]
      shows Rattle.laws.specs.Relation.ended_agree x13 = elim x13 [ ]
      shows Rattle.laws.specs.Relation.starts_agree x14 = elim x14 [ ]
      shows Rattle.laws.specs.Relation.tasks_destroyed x15 = elim x15 [ ]
      shows Rattle.laws.specs.Relation.blocks_destroyed x16 = elim x16 [ ]
      shows Rattle.laws.specs.Relation.fired_has x17 = elim x17 [ ]
      shows Rattle.laws.specs.Relation.open_has x18 = elim x18 [ ]
      shows Rattle.laws.specs.Relation.satisfied_agree x19 = elim x19 [ ]
      shows Rattle.laws.specs.Relation.struck_agree x20 = elim x20 [ ]
      shows Rattle.laws.specs.Relation.blank_kinds x21 = elim x21 [ ]
      shows Rattle.laws.specs.Relation.blank_satisfied x22 = elim x22 [ ]
      shows Rattle.laws.specs.Relation.blank_has x23 = elim x23 [ ]
      shows Rattle.laws.specs.Relation.blank_starts x24 = elim x24 [ ]
      shows Rattle.laws.specs.Relation.blank_ended x25 = elim x25 [ ]
      shows Rattle.laws.specs.Relation.blank_destroyed x26 = elim x26 [ ]
      shows Rattle.laws.specs.Relation.blank_struck x27 = elim x27 [ ]

  -- a task that has not started, at a slot that is not satisfied
  pub related-satisfy_slot : s Kind t ≡ task → j < s TaskSlots t → s TaskState t ≤ granted → s SlotMark (at t j) ≡ 0
      → Related (satisfy_slot s t j p) (satisfies b t j p)
  unfolding satisfy_slot put
  related-satisfy_slot kind has early empty =
      rw (satisfies-task b t j p (r same_kinds t ∙ kind))
      (related_early filled (slot_entry b t j p) t v early (low_state (decide f)) (related-filled never))
    where
      filled : Session
      filled = put (put s SlotMark (at t j) satisfied) SlotPayload (at t j) p

      f : Formula
      f = each (s TaskSlots t) (λ k. 1 ≼ filled SlotMark (at t k))

      v : ℕ
      v = choose f resolved (s TaskState t)

      low_state : Case f → v ≤ granted
      low_state (it_does x) = let e = choose_yes f resolved (s TaskState t) x in omega arith
      low_state (it_does_not n) = let e = choose_no f resolved (s TaskState t) n in omega arith

      never : b Column.Times (at t j) ≡ 0
      never = (r slots_agree t (omega arith) kind (λ e. omega arith) j has).0 empty

  -- a destroyed task
  pub related-dropped : s Kind t ≡ task → s TaskState t ≡ task_destroyed
      → ((h : ℕ) → h < s Objects 0 + 1 → s TaskSlots h ≤ 16) → Related s (satisfies b t j p)
  unfolding enter test
  related-dropped kind gone few =
      rw (satisfies-task b t j p (r same_kinds t ∙ kind)) (related_by (outside_same s) (slot-entered b t j p) r shows)
    where
      shows : (c : Clause) → Due [] (Column.Brought ∷ Column.Times ∷ []) c → says c s (slot_entry b t j p)
      shows slots_agree due =
          slots-dropped (s Objects 0) t j p (b Column.Times (at t j) + 1) (s Kind) (s TaskState) (s TaskSlots) (s SlotMark)
          (s SlotPayload) (b Column.Times) (b Column.Brought) low few gone (r slots_agree)
      shows blank_times due = blank-set (at t j) (b Column.Times (at t j) + 1) (omega arith) (r blank_times)
      shows Rattle.laws.specs.Relation.same_objects x' = elim x' [ ]
      shows Rattle.laws.specs.Relation.same_links x'' = elim x'' [ ]
      shows same_kinds x3 = elim x3 [ ]
      shows Rattle.laws.specs.Relation.same_types x4 = elim x4 [ ]
      shows Rattle.laws.specs.Relation.same_makers x5 = elim x5 [ ]
      shows Rattle.laws.specs.Relation.same_finishes x6 = elim x6 [ ]
      shows Rattle.laws.specs.Relation.same_outputs x7 = elim x7 [ ]
      shows Rattle.laws.specs.Relation.same_sources x8 = elim x8 [ ]
      shows Rattle.laws.specs.Relation.same_targets x9 = elim x9 [ ]
      shows Rattle.laws.specs.Relation.same_slots x10 = elim x10 [ ]
      shows Rattle.laws.specs.Relation.task_counts x11 = elim x11 [ ]
      shows Rattle.laws.specs.Relation.template_counts x12 = elim x12 [ ]
      shows Rattle.laws.specs.Relation.ended_agree x13 = elim x13 [ ]
      shows Rattle.laws.specs.Relation.starts_agree x14 = elim x14 [ ]
      shows Rattle.laws.specs.Relation.tasks_destroyed x15 = elim x15 [ ]
      shows Rattle.laws.specs.Relation.blocks_destroyed x16 = elim x16 [ ]
      shows Rattle.laws.specs.Relation.fired_has x17 = elim x17 [ ]
      shows Rattle.laws.specs.Relation.open_has x18 = elim x18 [ ]
      shows Rattle.laws.specs.Relation.satisfied_agree x19 = elim x19 [ ]
      shows Rattle.laws.specs.Relation.struck_agree x20 = elim x20 [ ]
      shows Rattle.laws.specs.Relation.blank_kinds x21 = elim x21 [ ]
      shows Rattle.laws.specs.Relation.blank_satisfied x22 = elim x22 [ ]
      shows Rattle.laws.specs.Relation.blank_has x23 = elim x23 [ ]
      shows Rattle.laws.specs.Relation.blank_starts x24 = elim x24 [ ]
      shows Rattle.laws.specs.Relation.blank_ended x25 = elim x25 [ ]
      shows Rattle.laws.specs.Relation.blank_destroyed x26 = elim x26 [ ]
      shows Rattle.laws.specs.Relation.blank_struck x27 = elim x27 [ ]
