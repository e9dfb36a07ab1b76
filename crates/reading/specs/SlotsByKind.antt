-- Whether an object has a slot, by its kind.
use Rattle.std.specs.Prelude.{ℕ, suc, ◌≤◌, ◌≡◌}
use Rattle.std.proofs.Common.{inl, inr, arith}
use Rattle.session.specs.Table.{Session}
use Rattle.session.specs.declared.Field.TheVariants.{Kind, TaskSlots, EventType}
use Rattle.session.specs.Names.{task, event}
use Rattle.rules.specs.EventTypes.{has_type_slot}
use Rattle.rules.specs.Formula.{Holds, test, Formula.◌≼◌}
use Rattle.rules.specs.FormulaLaws.{test-same}
use Rattle.rules.specs.Reading.{has_slot}

module _ (s : Session) (h j : ℕ) where
  pub task-slot : s Kind h ≡ task → test (suc j ≼ s TaskSlots h) ≡ test (has_slot s h j)
  task-slot k = test-same (suc j ≼ s TaskSlots h) (has_slot s h j) (λ x. inl (k, x)) go
    where
      go : Holds (has_slot s h j) → suc j ≤ s TaskSlots h
      go (inl x) = x.1
      go (inr x) = let e = x.0 in absurd (omega arith)

  pub event-slot : s Kind h ≡ event → test (has_type_slot (s EventType h) j) ≡ test (has_slot s h j)
  event-slot k = test-same (has_type_slot (s EventType h) j) (has_slot s h j) (λ x. inr (k, x)) go
    where
      go : Holds (has_slot s h j) → Holds (has_type_slot (s EventType h) j)
      go (inl x) = let t = x.0 in absurd (omega arith)
      go (inr x) = x.1

  pub other-slot : (s Kind h ≡ task → ⊥) → (s Kind h ≡ event → ⊥) → Holds (has_slot s h j) → ⊥
  other-slot t e (inl x) = t x.0
  other-slot t e (inr x) = e x.0
