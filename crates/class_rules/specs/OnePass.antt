-- One pass over the entries with a pending one gives those that count, because learners do not fall (23).
use Rattle.std.specs.Prelude.{ℕ, List, [], ◌∷◌, ◌++◌, ◌≡◌, refl}
use Rattle.rules.specs.Formula.{choose, Formula.◌≐◌, Formula.◌≼◌}
use Rattle.rules.specs.FormulaLaws.{choose_case}
use Rattle.class_rules.specs.Report.{Entry}

-- The pending entry is a list of one, or of none; its learner is 0 if there is none.
unfoldable pub learner_of : List Entry → ℕ
learner_of [] = 0
learner_of (p ∷ more) = p.learner

-- Of a learner's two entries, in the order of the file, the one that supersedes.
unfoldable pub superseding : Entry → Entry → Entry
superseding p e = choose (p.turn ≼ e.turn) e p

-- When an entry comes: what is printed of the pending one, and which is pending then.
unfoldable pub printed : List Entry → Entry → List Entry
printed [] e = []
printed (p ∷ more) e = choose (p.learner ≐ e.learner) [] (p ∷ [])

unfoldable pub kept : List Entry → Entry → Entry
kept [] e = e
kept (p ∷ more) e = choose (p.learner ≐ e.learner) (superseding p e) e

-- The one pass, from a pending entry on; at the end it is printed.
unfoldable pub one_pass : List Entry → List Entry → List Entry
one_pass pending [] = pending
one_pass pending (e ∷ more) = printed pending e ++ one_pass (kept pending e ∷ []) more

-- The pending entry's learner is that of the last entry.
pub kept_learner : (pending : List Entry) (e : Entry) → (kept pending e).learner ≡ e.learner
unfolding kept superseding
kept_learner [] e = refl
kept_learner (p ∷ more) e =
    choose_case (λ k. k.learner ≡ e.learner) (p.learner ≐ e.learner) _ e
    (λ same. choose_case (λ k. k.learner ≡ e.learner) (p.turn ≼ e.turn) e p (λ _. refl) (λ _. same)) (λ _. refl)
