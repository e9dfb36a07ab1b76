-- A case of `rules` as single calls from a fresh session: each call with check 2, one working on what the last one left.
use Rattle.std.specs.Prelude.{List, [], ◌∷◌, ◌≡◌}
use Rattle.std.proofs.Common.{ap, ◌∙◌}
use Rattle.session.specs.Table.{Session}
use Rattle.rules.specs.declared.Operation.{Operation}
use Rattle.rules.specs.Formula.{Formula, Holds}
use Rattle.rules.specs.Sound.{kept}
use Rattle.rules.specs.Step.{Reply, fresh_session, step, after}
use Rattle.rules.specs.Demand.{next, run, session_after}
use Rattle.rules.specs.Edges.{Expected, Edge, plays, is_met}
use Rattle.laws.specs.FreshKept.{fresh_kept}
use Rattle.laws.specs.StepKeeps.{step_keeps, kept_step}

unfoldable pub operations : List Expected → List Operation
operations [] = []
operations (e ∷ es) = e.operation ∷ operations es

-- each call gives the refusal expected, and the handle or link
unfoldable pub AsExpected : Session → List Expected → Type 0
AsExpected s [] = Unit {0}
AsExpected s (e ∷ es) =
    ((step s e.operation).refused ≡ e.refused) × ((step s e.operation).made ≡ e.made)
    × AsExpected (next s e.operation) es

-- and after the list the session shows what it must
pub record Met (e : Edge) : Type 0 where
  pub answered : AsExpected fresh_session e.calls
  pub shown : Holds (e.shows (session_after (operations e.calls)))

-- From a kept session no call meets check 2, so that the checks from 6 on say it all.
singly : (s : Session) (es : List Expected) (shows : Session → Formula) → Holds (kept s) → Holds (plays s es shows)
    → AsExpected s es × Holds (shows (run s (operations es)))
unfolding plays operations AsExpected run next
singly s [] shows k p = (tt, p)
singly s (e ∷ es) shows k p =
    let o = e.operation in
    let q = kept_step s o k in
    let left : (step s o).leaves ≡ after s o = ap (λ (r : Reply). r.leaves) q in
    let x = singly (step s o).leaves es shows (step_keeps s o k) (rw left p.1.1) in
    ((ap (λ (r : Reply). r.refused) q ∙ p.0, ap (λ (r : Reply). r.made) q ∙ p.1.0, x.0), x.1)

pub met : (e : Edge) → Holds (is_met e) → Met e
met e p = let x = singly fresh_session e.calls e.shows fresh_kept p in record { answered = x.0; shown = x.1 }
