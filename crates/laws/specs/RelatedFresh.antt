-- A fresh session and the book as it opens say the same.
use Rattle.std.specs.Prelude.{ℕ, ◌≤◌, ◌≡◌, refl}
use Rattle.std.proofs.Common.{arith}
use Rattle.session.specs.Table.{put, at}
use Rattle.session.specs.Fresh.{empty_session, first_objects, fresh_session}
use Rattle.session.specs.Names.{template, task, block, fresh, resolved, satisfied}
use Rattle.rules.specs.Formula.{test}
use Rattle.rules.specs.Book.{opening, enter}
use Rattle.laws.specs.Relation.{Related, SlotAgrees}
use Rattle.laws.specs.Relation.Clause.{same_objects, same_links, same_kinds, same_types, same_makers, same_finishes}
use Rattle.laws.specs.Relation.Clause.{same_outputs, same_sources, same_targets, same_slots, task_counts, template_counts}
use Rattle.laws.specs.Relation.Clause.{slots_agree, ended_agree, starts_agree, tasks_destroyed, blocks_destroyed}
use Rattle.laws.specs.Relation.Clause.{fired_has, open_has, satisfied_agree, struck_agree, blank_kinds, blank_times}
use Rattle.laws.specs.Relation.Clause.{blank_satisfied, blank_has, blank_starts, blank_ended, blank_destroyed, blank_struck}
use Rattle.laws.specs.Places.{Places, places, Places.one, Places.two}
use Rattle.laws.specs.Column.{set, at_set, set_here, set_there, was_kind, blank-set, unfired}

-- a column with nothing in it
abbrev nothing : ℕ → ℕ
nothing i = 0

kind_no_template : (i : ℕ) → set (set nothing 1 block) 2 task i ≡ template → ⊥
kind_no_template i e =
    let f = (was_kind (set nothing 1 block) 2 task i template (λ p. omega arith) e).1 in
    let g = (was_kind nothing 1 block i template (λ p. omega arith) f).1 in
    omega arith

low_state : (i : ℕ) → set nothing 2 resolved i ≤ resolved
low_state i = at_set (λ (v : ℕ). v ≤ resolved) nothing 2 resolved i (λ e. omega arith) (λ n. omega arith)

low_block : (i : ℕ) → set nothing 1 fresh i ≤ fresh
low_block i = at_set (λ (v : ℕ). v ≤ fresh) nothing 1 fresh i (λ e. omega arith) (λ n. omega arith)

-- main's slot, and no other
fresh-slot : (i : ℕ) → SlotAgrees (set nothing 32 satisfied i) (set nothing 32 1 i) (set nothing 32 1 i) (set nothing 32 1 i)
fresh-slot i = go (places 32 i)
  where
    go : Places 32 i → SlotAgrees (set nothing 32 satisfied i) (set nothing 32 1 i) (set nothing 32 1 i) (set nothing 32 1 i)
    go (one e) = rw (set_here nothing 32 1 i e) (λ z. absurd (omega arith), λ l. (refl, refl))
    go (two n) = rw (set_there nothing 32 1 i n) (λ z. refl, λ l. absurd (omega arith))

pub related-fresh : Related fresh_session opening
unfolding opening enter test fresh_session first_objects empty_session put
related-fresh same_objects = refl
related-fresh same_links = refl
related-fresh same_kinds = λ i. refl
related-fresh same_types = λ i. refl
related-fresh same_makers = λ i. refl
related-fresh same_finishes = λ i. refl
related-fresh same_outputs = λ i. refl
related-fresh same_sources = λ i. refl
related-fresh same_targets = λ i. refl
related-fresh same_slots = λ i. refl
related-fresh task_counts = λ i e. refl
related-fresh template_counts = λ i e. absurd (kind_no_template i e)
related-fresh slots_agree = λ h l k d j m. fresh-slot (at h j)
related-fresh ended_agree = λ h. (λ e. let l = low_state h in absurd (omega arith), λ n. refl)
related-fresh starts_agree = λ h. (λ e. let l = low_state h in absurd (omega arith), λ n. refl)
related-fresh tasks_destroyed = λ h k. (λ e. let l = low_state h in absurd (omega arith), λ n. refl)
related-fresh blocks_destroyed = λ h k. (λ e. let l = low_block h in absurd (omega arith), λ n. refl)
related-fresh fired_has = λ e f. refl
related-fresh open_has = λ e o. refl
related-fresh satisfied_agree = λ e l. (λ o. refl, λ f. absurd (unfired 0 (omega arith) (omega arith) f))
related-fresh struck_agree = λ l a c. (λ e. absurd (omega arith), λ n. refl)
related-fresh blank_kinds = blank-set 2 task (omega arith) (blank-set 1 block (omega arith) (λ i l. refl))
related-fresh blank_times = blank-set 32 1 (omega arith) (λ i l. refl)
related-fresh blank_satisfied = λ i l. refl
related-fresh blank_has = λ i l. refl
related-fresh blank_starts = λ i l. refl
related-fresh blank_ended = λ i l. refl
related-fresh blank_destroyed = λ i l. refl
related-fresh blank_struck = λ i l. refl
