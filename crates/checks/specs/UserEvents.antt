-- What is asked of the types of events in a sound session: there all types are known, so that fewer tests tell them apart.
use Rattle.std.specs.Prelude.{ℕ, ◌<◌, ◌≡◌, refl, not, ◌&&◌, ◌||◌, List, eqb}
use Rattle.std.proofs.Common.{sym, subst, ◌∙◌, inl, inr, arith}
use Rattle.std.proofs.Math.Decide.{dec_lt}
use Rattle.session.specs.Table.{Session, read}
use Rattle.session.specs.TableLaws.{read_past}
use Rattle.session.specs.declared.Field.TheVariants.{Kind, EventType}
use Rattle.session.specs.Names.{event, latch, output, object_places}
use Rattle.rules.specs.Formula.{Holds, test, Formula.◌≐◌, Formula.◌and◌, Formula.◌or◌}
use Rattle.rules.specs.Formula.{not as none}
use Rattle.rules.specs.FormulaLaws.{test-same}
use Rattle.rules.specs.Bools.{test-both, test_either, test_eq, test-not}
use Rattle.rules.specs.EventTypes.{is_event_type, has_type_slot}
use Rattle.rules.specs.EventTypeLaws.{user_no_output, user_unless_output, user_slot, user_second_slot}
use Rattle.rules.specs.Reading.{is_kind, is_user_event, has_slot}
use Rattle.rules.specs.Sound.{sound}
use Rattle.laws.specs.Rows.Name.{event_parts}
use Rattle.laws.specs.ByName.{sound_by_name}
use Rattle.laws.specs.Conjuncts.{event_by_name, Event.type_known}

module _ (ws : List ℕ) (h : ℕ) where
  -- the type of an event is one of those there are
  known : Holds (sound (read ws)) → read ws Kind h ≡ event → Holds (is_event_type (read ws EventType h))
  known x k = go (dec_lt h object_places)
    where
      go : Dec (h < object_places) → Holds (is_event_type (read ws EventType h))
      go (yes l) = event_by_name h (read ws) k (sound_by_name (read ws) x event_parts h l) type_known
      go (no n) = let z = read_past ws Kind h (omega arith) in absurd (omega arith)

  -- a call may name an event that is no output
  pub user_tested : Holds (sound (read ws))
      → (eqb (read ws Kind h) event && not (eqb (read ws EventType h) output)) ≡ test (is_user_event (read ws) h)
  user_tested x =
      simp (test-both, test_eq, test-not) refl
      ∙ test-same (is_kind (read ws) event h and none (read ws EventType h ≐ output)) (is_user_event (read ws) h)
      (λ y. (y.0, user_unless_output (read ws EventType h) (known x y.0) y.1))
      (λ y. (y.0, user_no_output (read ws EventType h) y.1))

-- its slots are 0, and 1 of a latch
pub slot_tested : (s : Session) (e j : ℕ) → Holds (is_user_event s e)
    → (eqb j 0 || (eqb j 1 && eqb (s EventType e) latch)) ≡ test (has_slot s e j)
slot_tested s e j u =
    simp (test-both, test_either, test_eq) refl
    ∙ test-same (j ≐ 0 or j ≐ 1 and s EventType e ≐ latch) (has_slot s e j) to from
  where
    to : Holds (j ≐ 0 or j ≐ 1 and s EventType e ≐ latch) → Holds (has_slot s e j)
    to (inl z) = inr (u.0, subst (λ (k : ℕ). Holds (has_type_slot (s EventType e) k)) (sym z) (user_slot (s EventType e) u.1))
    to (inr x) =
        inr (
          u.0,
          subst (λ (k : ℕ). Holds (has_type_slot (s EventType e) k)) (sym x.0) ((user_second_slot (s EventType e) u.1).1 x.1),
        )

    from : Holds (has_slot s e j) → Holds (j ≐ 0 or j ≐ 1 and s EventType e ≐ latch)
    from (inl x) = let k = u.0 in let t = x.0 in absurd (omega arith)
    from (inr (k, inl y)) = inl y.0
    from (inr (k, inr y)) =
        inr (
          y.0,
          (user_second_slot (s EventType e) u.1).0
              (subst (λ (k : ℕ). Holds (has_type_slot (s EventType e) k)) y.0 (inr y)),
        )
