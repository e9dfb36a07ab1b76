-- What a dependence asks of a session, and what a claim leaves alone.
use Rattle.std.specs.Prelude.{ℕ, ◌≤◌, ◌<◌, ◌≡◌}
use Rattle.session.specs.Table.{Session, put, at}
use Rattle.session.specs.declared.Field.TheVariants.{Links, Kind, SlotMode}
use Rattle.session.specs.Names.{most_objects, most_links, task, event, fired, ready, link_open}
use Rattle.rules.specs.Formula.{choose, Formula.◌≐◌}
use Rattle.rules.specs.FormulaLaws.{Case, decide, choose_yes, choose_no, Case.it_does, Case.it_does_not}
use Rattle.rules.specs.Reading.{is_kind}
use Rattle.rules.specs.Effects.{claim}
use Rattle.effects.specs.Satisfying.{Satisfiable}

-- the state of a link as it is made, by that of its source
unfoldable pub first_link : ℕ → ℕ
first_link state = choose (state ≐ fired) ready link_open

-- slot j of d can depend on a source
pub record Dependable (s : Session) (source d j : ℕ) : Type 0 where
  pub from : source ≤ most_objects
  pub handle : d ≤ most_objects
  pub slot : s Kind d ≡ task → j < 16
  pub room : s Kind source ≡ event → s Links 0 < most_links
  pub satisfies : (s Kind source ≡ event → ⊥) → Satisfiable s d j

-- a claim adds no link
pub claim-links : (s : Session) (d j mode : ℕ) → claim s d j mode Links 0 ≡ s Links 0
unfolding claim put
claim-links s d j mode = go (decide (is_kind s task d))
  where
    go : Case (is_kind s task d) → choose (is_kind s task d) (put s SlotMode (at d j) mode) s Links 0 ≡ s Links 0
    go (it_does h) = rw (choose_yes (is_kind s task d) (put s SlotMode (at d j) mode) s h)
    go (it_does_not n) = rw (choose_no (is_kind s task d) (put s SlotMode (at d j) mode) s n)

-- what can be satisfied can be once a slot was claimed
put_satisfiable : (s : Session) (i mode d j : ℕ) → Satisfiable s d j → Satisfiable (put s SlotMode i mode) d j
unfolding put
put_satisfiable s i mode d j x =
    record {
      fires = record { handle = x.fires.handle; links = x.fires.links; no_more = x.fires.no_more };
      fills = λ k. record { slot = (x.fills k).slot; count = (x.fills k).count };
      counts = λ n k. record { top = (x.counts n k).top; low = (x.counts n k).low };
    }

pub claim_satisfiable : (s : Session) (d j mode : ℕ) → Satisfiable s d j → Satisfiable (claim s d j mode) d j
unfolding claim
claim_satisfiable s d j mode x = go (decide (is_kind s task d))
  where
    go : Case (is_kind s task d) → Satisfiable (choose (is_kind s task d) (put s SlotMode (at d j) mode) s) d j
    go (it_does h) = rw (choose_yes (is_kind s task d) (put s SlotMode (at d j) mode) s h) (put_satisfiable s (at d j) mode d j x)
    go (it_does_not n) = rw (choose_no (is_kind s task d) (put s SlotMode (at d j) mode) s n) x
