-- The relation holds after any list of calls from a fresh session.
use Rattle.std.specs.Prelude.{List, [], ◌∷◌}
use Rattle.session.specs.Table.{Session}
use Rattle.rules.specs.declared.Operation.{Operation}
use Rattle.rules.specs.Formula.{Holds, choose}
use Rattle.rules.specs.FormulaLaws.{Case, decide, choose_yes, choose_no, Case.it_does, Case.it_does_not}
use Rattle.rules.specs.Sound.{kept}
use Rattle.rules.specs.Step.{fresh_session, step, entered}
use Rattle.rules.specs.Book.{Book, opening}
use Rattle.rules.specs.Demand.{accepted, next, run, calls, session_after, book_after, book}
use Rattle.laws.specs.FreshKept.{fresh_kept}
use Rattle.laws.specs.StepKeeps.{step_keeps}
use Rattle.laws.specs.OneCall.{refusal_stays}
use Rattle.laws.specs.Relation.{Related}
use Rattle.laws.specs.RelatedFresh.{related-fresh}
use Rattle.laws.specs.RelatedStep.{related-step}

-- one call: entered if it was accepted
pub related-next : (s : Session) (b : Book) (o : Operation) → Holds (kept s) → Related s b
    → Related (next s o) (choose (accepted s o) (entered b o) b)
unfolding next accepted
related-next s b o k r = go (decide (accepted s o))
  where
    go : Case (accepted s o) → Related (step s o).leaves (choose (accepted s o) (entered b o) b)
    go (it_does a) = rw (choose_yes (accepted s o) (entered b o) b a) (related-step s b o k r a)
    go (it_does_not n) = rw (choose_no (accepted s o) (entered b o) b n, refusal_stays s o n) r

pub related-run : (s : Session) (b : Book) (os : List Operation) → Holds (kept s) → Related s b
    → Related (run s os) (book b (calls s os))
unfolding run calls book next
related-run s b [] k r = r
related-run s b (o ∷ os) k r =
    related-run (next s o) (choose (accepted s o) (entered b o) b) os (step_keeps s o k) (related-next s b o k r)

pub always_related : (os : List Operation) → Related (session_after os) (book_after os)
always_related os = related-run fresh_session opening os fresh_kept related-fresh
