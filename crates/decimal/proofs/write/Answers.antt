-- `decimal::write` meets its contract: the digits of the rest, put at the place, give what the number's digits give.
use Prim.Native.Nat.{◌+◌, ◌-◌, ◌/◌, ◌%◌}
use mathlib.Core.Path.{◌≡◌, refl, sym, ◌∙◌, ap}
use native.Mathlib.Omega.{arith}
use lib.ListN.{length, length-set}
use Rattle.number.specs.Splice.{splice-one}
use Rattle.decimal.specs.Decimal.{decimal}
use Rattle.decimal.specs.DecimalLaws.{decimal-one, decimal_several, digits_some, digits_several, splice_behind_first}
use Rattle.decimal.proofs.write.Goals as goal

pub loop-rest-init : goal.loop-rest-init
loop-rest-init c = (refl, c.requires, omega arith, omega arith, omega arith, refl)

pub overflow_sub-last : goal.overflow_sub-last
overflow_sub-last c = omega (arith, digits_several c.loop-rest.rest c.loop-rest-test.true)

pub bounds-out-last : goal.bounds-out-last
bounds-out-last c = omega (arith, digits_several c.loop-rest.rest c.loop-rest-test.true)

pub loop-rest-preserved : goal.loop-rest-preserved
loop-rest-preserved c =
    let l = c.loop-rest in
    let big = c.loop-rest-test.true in
    let shorter = digits_several l.rest big in
    let at = c.args.at in
    let place : l.last - 1 ≡ at + length (decimal (l.rest / 10)) = omega arith in (
      simp length-set l.invariant.0,
      l.invariant.1,
      l.invariant.2,
      place,
      omega arith,
      rw (
        place,
        splice_behind_first l.out at (l.rest % 10 + 48) (decimal (l.rest / 10)) (omega arith),
        ← decimal_several l.rest big,
      ) l.invariant.5,
    )

pub bounds-out-at : goal.bounds-out-at
bounds-out-at c = omega (arith, digits_some c.loop-rest.rest)

pub shape_of-out : goal.shape_of-out
shape_of-out c = simp length-set c.loop-rest.invariant.0

pub returns : goal.returns
returns c =
    let l = c.loop-rest in
    let e = decimal-one l.rest c.loop-rest-test.false in
    record { answer = l.invariant.2; bytes = sym (splice-one l.out _ _ (omega (arith, ap length e))) ∙ (rw e at l.invariant.5) }
