-- Every accepted call keeps the relation between the session and the book; a refused one leaves both.
use Rattle.std.specs.Prelude.{◌≡◌}
use Rattle.session.specs.Table.{Session}
use Rattle.rules.specs.declared.Operation.{Operation}
use Rattle.rules.specs.Formula.{Holds}
use Rattle.rules.specs.Sound.{kept}
use Rattle.rules.specs.Step.{step, entered}
use Rattle.rules.specs.Book.{Book}
use Rattle.laws.specs.Accepted.{Called, called, Called.refused, Called.accepted}
use Rattle.laws.specs.Operations.{accepted-related}
use Rattle.laws.specs.Relation.{Related}

pub related-step : (s : Session) (b : Book) (o : Operation) → Holds (kept s) → Related s b → (step s o).refused ≡ 0
    → Related (step s o).leaves (entered b o)
related-step s b o k r taken = go (called s o)
  where
    go : Called s o → Related (step s o).leaves (entered b o)
    go (refused n w e) = absurd (n taken)
    go (accepted h n w e a) = rw e (accepted-related s o a b k r)
