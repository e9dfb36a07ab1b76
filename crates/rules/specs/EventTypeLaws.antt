-- What the rows of the event types have in common, as the proofs need it.
use Rattle.std.specs.Prelude.{ℕ, ◌≡◌, refl, Bool, true, false, List, [], ◌∷◌}
use Rattle.std.proofs.Common.{sym, subst, inl, inr}
use Rattle.session.specs.Table.{pick}
use Rattle.session.specs.Names.{latch, output, counted}
use Rattle.rules.specs.Formula.{Formula, Holds, test, not, ◌iff◌, Formula.◌≐◌, Formula.◌and◌, Formula.◌or◌, Formula.◌then◌}
use Rattle.rules.specs.FormulaLaws.{passed}
use Rattle.rules.specs.EventTypes.{TypeRow, event_types, among, of_type, any, is_offered, is_named, value_at_first, is_left_fired}
use Rattle.rules.specs.EventTypes.{is_event_type, is_offered_type, is_user_type, fires_at_first, gone_when_fired, stays_when_fired}
use Rattle.rules.specs.EventTypes.{has_type_slot}

-- a rule on codes holds at each row that is picked
abbrev rows : List TypeRow → (TypeRow → Bool) → (ℕ → Formula) → Formula
rows [] which f = 0 ≐ 0
rows (r ∷ rs) which f = pick (which r) (f r.code) (0 ≐ 0) and rows rs which f

by_rows : (rs : List TypeRow) (which : TypeRow → Bool) (f : ℕ → Formula) → Holds (rows rs which f) → (ty : ℕ)
    → Holds (among rs which ty) → Holds (f ty)
by_rows [] which f x ty y = absurd y
by_rows (r ∷ rs) which f x ty y = go (which r) x.0 y (by_rows rs which f x.1 ty)
  where
    go : (b : Bool) → Holds (pick b (f r.code) (0 ≐ 0)) → Holds (pick b (ty ≐ r.code or among rs which ty) (among rs which ty))
        → (Holds (among rs which ty) → Holds (f ty)) → Holds (f ty)
    go true at (inl e) rest = subst (λ (n : ℕ). Holds (f n)) (sym e) at
    go true at (inr z) rest = rest z
    go false at z rest = rest z

-- what a computation shows of each row that is picked holds of each type that is
of_type_lem : (which : TypeRow → Bool) (f : ℕ → Formula) → test (rows event_types which f) ≡ true → (ty : ℕ) → Holds (of_type which ty) → Holds (f ty)
unfolding of_type
of_type_lem which f e = by_rows event_types which f (passed (rows event_types which f) e)

-- what operations 3 and 13 make, and what a task has, are types
pub offered_known : (ty : ℕ) → Holds (is_offered_type ty) → Holds (is_event_type ty)
unfolding test of_type
offered_known = of_type_lem is_offered is_event_type refl

pub counted_known : Holds (is_event_type counted)
unfolding test of_type
counted_known = passed (is_event_type counted) refl

pub output_known : Holds (is_event_type output)
unfolding test of_type
output_known = passed (is_event_type output) refl

-- no output event is a user's
pub offered_no_output : (ty : ℕ) → Holds (is_offered_type ty) → ty ≡ output → ⊥
unfolding test of_type
offered_no_output = of_type_lem is_offered (λ ty. not (ty ≐ output)) refl

-- operation 3 makes no counted event
pub offered_no_counted : (ty : ℕ) → Holds (is_offered_type ty) → ty ≡ counted → ⊥
unfolding test of_type
offered_no_counted = of_type_lem is_offered (λ ty. not (ty ≐ counted)) refl

pub user_no_output : (ty : ℕ) → Holds (is_user_type ty) → ty ≡ output → ⊥
unfolding test of_type
user_no_output = of_type_lem is_named (λ ty. not (ty ≐ output)) refl

-- and of the types there are all others are
pub user_unless_output : (ty : ℕ) → Holds (is_event_type ty) → (ty ≡ output → ⊥) → Holds (is_user_type ty)
unfolding test of_type
user_unless_output = of_type_lem any (λ ty. not (ty ≐ output) then is_user_type ty) refl

-- a user's event has slot 0, and slot 1 if it is a latch
pub user_slot : (ty : ℕ) → Holds (is_user_type ty) → Holds (has_type_slot ty 0)
unfolding test of_type
user_slot = of_type_lem is_named (λ ty. has_type_slot ty 0) refl

pub user_second_slot : (ty : ℕ) → Holds (is_user_type ty) → Holds (has_type_slot ty 1 iff ty ≐ latch)
unfolding test of_type
user_second_slot = of_type_lem is_named (λ ty. has_type_slot ty 1 iff ty ≐ latch) refl

-- a user's event fires at first or is a latch; a latch and an output event do not
pub user_fires : (ty : ℕ) → Holds (is_user_type ty) → (ty ≡ latch → ⊥) → Holds (fires_at_first ty)
unfolding test of_type
user_fires = of_type_lem is_named (λ ty. not (ty ≐ latch) then fires_at_first ty) refl

pub fires_no_latch : (ty : ℕ) → Holds (fires_at_first ty) → ty ≡ latch → ⊥
unfolding test of_type
fires_no_latch = of_type_lem value_at_first (λ ty. not (ty ≐ latch)) refl

pub fires_no_output : (ty : ℕ) → Holds (fires_at_first ty) → ty ≡ output → ⊥
unfolding test of_type
fires_no_output = of_type_lem value_at_first (λ ty. not (ty ≐ output)) refl

-- a fired latch is gone
pub latch-gone : Holds (gone_when_fired latch)
unfolding test of_type
latch-gone = passed (gone_when_fired latch) refl

-- what is not gone when fired stays; what stays fires at first
pub gone_or_stays : (ty : ℕ) → Holds (is_event_type ty) → (Holds (gone_when_fired ty) → ⊥) → Holds (stays_when_fired ty)
unfolding test of_type
gone_or_stays = of_type_lem any (λ ty. not (gone_when_fired ty) then stays_when_fired ty) refl

pub stays_fires : (ty : ℕ) → Holds (stays_when_fired ty) → Holds (fires_at_first ty)
unfolding test of_type
stays_fires = of_type_lem is_left_fired fires_at_first refl
