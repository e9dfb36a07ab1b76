-- `effects::linking::dependence` meets its contract: the slot is claimed, which leaves the count of links (`claim-links`) and
-- what is satisfiable (`claim_satisfiable`); then by the source's kind a link is made, or the slot satisfied (`wrote_next`).
use Rattle.rules.specs.FormulaLaws.{choose_yes, choose_no}
use Rattle.rules.specs.Effects.{new_link, satisfy, depend}
use mathlib.Core.Path.{sym, ◌∙◌}
use native.Mathlib.Omega.{arith}
use Rattle.effects.specs.Made.{link_made}
use Rattle.effects.specs.Ready.{dependence-ready}
use Rattle.effects.specs.Linking.{claim-links, claim_satisfiable}
use Rattle.laws.specs.Puts.{wrote_next}
use Rattle.effects.proofs.linking.dependence.Goals as goal

pub get-kind-requires : goal.get-kind-requires
get-kind-requires c =
    omega (arith, (dependence-ready _ _ _ _ _ _ c.requires.0 c.requires.1).from)

pub claim-requires : goal.claim-requires
claim-requires c =
    let p = dependence-ready _ _ _ _ _ _ c.requires.0 c.requires.1 in
    (p.handle, p.slot)

pub new_link-requires : goal.new_link-requires
new_link-requires c =
    let q = c.requires in
    let p = dependence-ready _ _ _ _ _ _ q.0 q.1 in (
      p.from,
      rw (c.claim.ensures.reading, claim-links)
          (p.room (rw c.get-kind.ensures at c.if-kind-eq-EVENT.true)),
    )

pub returns-then-kind-eq-EVENT : goal.returns-then-kind-eq-EVENT
unfolding depend link_made
returns-then-kind-eq-EVENT c =
    let a = c.args in
    let claimed = c.claim in
    let made = c.new_link in
    let kind = rw c.get-kind.ensures at c.if-kind-eq-EVENT.true in
    record {
      wrote = rw (choose_yes _ _ _ kind)
          (wrote_next (λ r. new_link r a.source a.d a.j) claimed.ensures made.ensures.wrote);
      answer = (rw (claimed.ensures.reading, claim-links) at made.ensures.answer) ∙ sym (choose_yes _ _ _ kind);
    }

pub satisfy_either-requires : goal.satisfy_either-requires
satisfy_either-requires c =
    let q = c.requires in
    let p = dependence-ready _ _ _ _ _ _ q.0 q.1 in
    rw c.claim.ensures.reading
    (claim_satisfiable _ _ _ _ (p.satisfies (rw c.get-kind.ensures at c.if-kind-eq-EVENT.false)))

pub returns-else-kind-eq-EVENT : goal.returns-else-kind-eq-EVENT
unfolding depend link_made
returns-else-kind-eq-EVENT c =
    let a = c.args in
    let claimed = c.claim in
    let kind = rw c.get-kind.ensures at c.if-kind-eq-EVENT.false in
    record {
      wrote = rw (choose_no _ _ _ kind)
          (wrote_next (λ r. satisfy r a.d a.j a.source) claimed.ensures c.satisfy_either.ensures);
      answer = sym (choose_no _ _ _ kind);
    }
