-- The table of document 01's edges holds.
use Rattle.std.specs.Prelude.{[], ◌∷◌, ◌≡◌, Ok}
use Rattle.std.proofs.Common.{ap}
use Rattle.number.specs.Number.{limit32, read_at, refusal_of}
use Rattle.number.specs.Edges.{P6 as number-edge}
use Rattle.rules.specs.Formula.{Holds}
use Rattle.rules.specs.Edges.{p1, p2, p3, p4, p8, p8_then, p9, p10, ready_stays, grant_whole, first_claim}
use Rattle.rules.specs.Edges.{counted_goes, counted_stays, counted_stays_then, climbs_none, climbs_on, climbs_to_main}
use Rattle.rules.specs.Edges.{all_met, edges, edges-met}
use Rattle.edges.specs.Single.{met}
use Rattle.edges.specs.Filled.{p5}
use Rattle.edges.proofs.Filled.{filled}
use Rattle.edges.specs.Empty.{empty_sheet}
use Rattle.edges.specs.Edges.{Edges}

number_read : (refusal_of (read_at limit32 (128 ∷ 0 ∷ []) 0) ≡ 4) × (read_at limit32 (128 ∷ 1 ∷ []) 0 ≡ Ok (128, 2))
unfolding refusal_of
number_read = (ap refusal_of number-edge.0, number-edge.1)

pub edges_hold : Edges
edges_hold = go edges-met
  where
    go : Holds (all_met edges) → Edges
    go (m1, (m2, (m3, (m4, (m8, (m8-then, (m9, (m10, (stays, (whole, (claim, (goes, (kept, (Kept-then, (none, (on, (main, _))))))))))))))))) = record {
      P1 = met p1 m1;
      P2 = met p2 m2;
      P3 = met p3 m3;
      P4 = met p4 m4;
      P5 = met p5 filled;
      P6 = number_read;
      P7 = empty_sheet;
      P8 = met p8 m8;
      p8_then_met = met p8_then m8-then;
      P9 = met p9 m9;
      P10 = met p10 m10;
      ready_stays_met = met ready_stays stays;
      grant_whole_met = met grant_whole whole;
      first_claim_met = met first_claim claim;
      counted_goes_met = met counted_goes goes;
      counted_stays_met = met counted_stays kept;
      counted_stays_then_met = met counted_stays_then Kept-then;
      climbs_none_met = met climbs_none none;
      climbs_on_met = met climbs_on on;
      climbs_to_main_met = met climbs_to_main main;
    }
