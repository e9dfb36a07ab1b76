-- Demand 3: the claim about any list of single operations from a fresh session holds of every one.
use Rattle.std.specs.Prelude.{List}
use Rattle.rules.specs.declared.Operation.{Operation}
use Rattle.rules.specs.Demand.{Demand3, session_after, book_after}
use Rattle.laws.specs.Runs.{always_kept}
use Rattle.laws.specs.RelatedRuns.{always_related}
use Rattle.laws.specs.StartsOnce.{starts_once, starts_ready}
use Rattle.laws.specs.FiresFirst.{finish_fires}
use Rattle.laws.specs.Bounded.{moves_bounded}
use Rattle.laws.specs.Stuck.{live-lacks}

pub demand_3 : (ops : List Operation) → Demand3 ops
demand_3 ops =
    record {
      starts_once = starts_once ops;
      starts_ready = λ before rest o e. starts_ready before o;
      finish_fires = λ before rest o e. finish_fires before o;
      bounded = moves_bounded (session_after ops) (book_after ops) (always_kept ops) (always_related ops);
      stuck = λ none. live-lacks (session_after ops) (always_kept ops) none (book_after ops) (always_related ops);
    }
