-- A claim of demand 3: the output event of a finish task fires in exactly the call that first leaves the task done.
use Rattle.std.specs.Prelude.{ℕ, ◌+◌, ◌≡◌, refl, List, [], ◌∷◌, ◌++◌, ◌↔◌}
use Rattle.std.proofs.Common.{ap, sym, subst, ◌∙◌}
use Rattle.session.specs.declared.Field.TheVariants.{EventState}
use Rattle.session.specs.Names.{task, fired}
use Rattle.rules.specs.declared.Operation.{Operation}
use Rattle.rules.specs.Formula.{Holds}
use Rattle.rules.specs.Book.{Column, done}
use Rattle.rules.specs.Demand.{session_after, book_after}
use Rattle.laws.specs.Runs.{always_kept, run_later}
use Rattle.laws.specs.Lasting.{Later}
use Rattle.laws.specs.Relation.Clause.{same_finishes, same_outputs}
use Rattle.laws.specs.RelatedRuns.{always_related}
use Rattle.laws.specs.Living.{task-made}
use Rattle.laws.specs.Prefixes.{session_parts}
use Rattle.laws.specs.FinishFires.{Finish, fired-done, done-fired, done_before, fired_before}

-- a longer list undoes nothing
later_after : (early late : List Operation) → Later (session_after early) (session_after (early ++ late))
later_after early late = rw (session_parts early late) (run_later (session_after early) late)

nothing_more_lem : (os : List Operation) → os ≡ os ++ []
nothing_more_lem [] = refl
nothing_more_lem (o ∷ os) = ap (λ (r : List Operation). o ∷ r) (nothing_more_lem os)

-- the event fires in the call after the list `before`
abbrev Fires : List Operation → List Operation → ℕ → Type 0
Fires before now t = (session_after now EventState (t + 1) ≡ fired) × (session_after before EventState (t + 1) ≡ fired → ⊥)

-- the task is done after that call and after none before
abbrev First : List Operation → List Operation → ℕ → Type 0
First before now t =
    Holds (done (book_after now) t)
    × ((early late : List Operation) → before ≡ early ++ late → Holds (done (book_after early) t) → ⊥)

-- a finish task of the book is one of the session
finish_task : (os : List Operation) (t : ℕ) → book_after os Column.Kind t ≡ task → book_after os Column.Finish t ≡ 1
    → book_after os Column.Output t ≡ 1 → Finish (session_after os) t
finish_task os t k f p =
    let x = always_related os in
    let m = task-made (session_after os) (book_after os) (always_kept os) x t k in
    record { exists = m.0; kind = m.1; finish = sym (x same_finishes t) ∙ f; output = sym (x same_outputs t) ∙ p }

module _ (before : List Operation) (o : Operation) (t : ℕ) (f : Finish (session_after (before ++ o ∷ [])) t) where
  abbrev now : List Operation
  now = before ++ o ∷ []

  fires_first : Fires before now t → First before now t
  fires_first x = (
    fired-done (session_after now) (always_kept now) t f (book_after now) (always_related now) x.0,
    λ early late e d. x.1 (was early late e d),
  )
    where
      was : (early late : List Operation) → before ≡ early ++ late → Holds (done (book_after early) t)
          → session_after before EventState (t + 1) ≡ fired
      was early late e d =
          done_before (session_after early) (session_after before) (session_after now) (book_after early) t (always_kept early)
          (always_kept before) (always_related early)
          (subst (λ (os : List Operation). Later (session_after early) (session_after os)) (sym e) (later_after early late))
          (later_after before (o ∷ [])) f d

  first_fires : First before now t → Fires before now t
  first_fires x = (
    done-fired (session_after now) (always_kept now) t f (book_after now) (always_related now) x.0,
    λ e. x.1 before [] (nothing_more_lem before) (was e),
  )
    where
      was : session_after before EventState (t + 1) ≡ fired → Holds (done (book_after before) t)
      was e =
          fired_before (session_after before) (session_after now) (book_after before) t (always_kept before) (always_kept now)
          (always_related before) (later_after before (o ∷ [])) f e

-- demand 3's `finish_fires`
pub finish_fires : (before : List Operation) (o : Operation) (t : ℕ)
    → book_after (before ++ o ∷ []) Column.Kind t ≡ task → book_after (before ++ o ∷ []) Column.Finish t ≡ 1
    → book_after (before ++ o ∷ []) Column.Output t ≡ 1
    → Fires before (before ++ o ∷ []) t ↔ First before (before ++ o ∷ []) t
finish_fires before o t k f p =
    let y = finish_task (before ++ o ∷ []) t k f p in (fires_first before o t y, first_fires before o t y)
