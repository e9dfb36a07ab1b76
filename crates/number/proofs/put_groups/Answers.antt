-- `number::put_groups` meets its contract: the bytes of the rest, put from the place on, give what the value's bytes give.
use mathlib.Core.Path.{sym, ◌∙◌, ap}
use native.Mathlib.Omega.{arith}
use lib.ListN.{length, length-set}
use Rattle.number.specs.Encode.{encode_one, encode_several}
use Rattle.number.specs.NumberRoundTrip.{length_some}
use Rattle.number.specs.Splice.{splice-step, splice-one}
use Rattle.number.proofs.put_groups.Goals as goal

pub bounds-out-last : goal.bounds-out-last
bounds-out-last c = omega (arith, length_some c.loop-rest.rest)

pub loop-rest-preserved : goal.loop-rest-preserved
loop-rest-preserved c =
    let l = c.loop-rest in
    let e = encode_several l.rest c.loop-rest-test.true in (
      simp length-set l.invariant.0,
      omega (arith, ap length e),
      sym (splice-step l.out l.last _ _ (omega (arith, length_some l.rest))) ∙ (rw e at l.invariant.2),
    )

pub bounds-out-last-2 : goal.bounds-out-last-2
bounds-out-last-2 c = omega (arith, length_some c.loop-rest.rest)

pub returns : goal.returns
returns c =
    let l = c.loop-rest in
    let e = encode_one l.rest c.loop-rest-test.false in record {
      answer = omega (arith, ap length e);
      bytes = sym (splice-one l.out l.last l.rest (omega (arith, ap length e))) ∙ (rw e at l.invariant.2);
    }
