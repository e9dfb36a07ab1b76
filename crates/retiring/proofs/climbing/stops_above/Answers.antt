-- `retiring::climbing::stops_above` meets its contract: no creator that is done stops the climb (`live_stops`), and so does a busy one
-- (`busy_stops`); any other is over (`creator_told`).
use mathlib.Core.Path.{sym, subst, ◌∙◌}
use mathlib.Core.Bool.{Bool}
use native.Mathlib.Omega.{arith}
use lib.Dec.{T}
use Rattle.session.specs.Table.{read}
use Rattle.rules.specs.FormulaLaws.{passed, failed}
use Rattle.retiring.specs.Climb.{done_low, none_handle}
use Rattle.retiring.specs.Steps.{creator_told, live_stops, busy_stops}
use Rattle.retiring.proofs.climbing.stops_above.Goals as goal

pub returns-in-None : goal.returns-in-None
returns-in-None c =
    let none = none_handle _ (sym c.in-None.ensures) in
    record {
      stops = λ _. live_stops (read c.args.s.now) c.requires.0 c.args.h c.requires.1 none;
      goes_on = λ q. absurd (subst (λ (b : Bool). T b) q tt);
    }

pub is_busy_above-requires : goal.is_busy_above-requires
is_busy_above-requires c =
    let p = c.requires in
    let e = creator_told (read c.args.s.now) p.0 c.args.h p.1 _ c.in-Some.ensures in
    let l = done_low (read c.args.s.now) p.0 c.args.h p.1 in
    (p.0, e.2, omega (arith, e.0, l))

pub returns-in-Some : goal.returns-in-Some
returns-in-Some c =
    let s = read c.args.s.now in
    let p = c.requires in
    let e = creator_told s p.0 c.args.h p.1 _ c.in-Some.ensures in
    let told = c.is_busy_above.ensures in
    record {
      stops = λ q. busy_stops s p.0 c.args.h p.1 (rw e.0 at (passed _ (sym told ∙ q))) (λ z. omega (arith, e.0, e.2, z));
      goes_on = λ q. (omega (arith, e.1, e.2), ((λ live. e.3 live.1), rw e.1 at (failed _ (sym told ∙ q))));
    }
