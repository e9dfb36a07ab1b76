-- `decimal::digits` meets its contract: the digits counted and those of the rest are one more than the number's, the last digit
-- being counted from the start.
use native.Mathlib.Omega.{arith}
use Rattle.decimal.specs.DecimalLaws.{digits_one, digits_several}
use Rattle.decimal.proofs.digits.Goals as goal

pub loop-rest-preserved : goal.loop-rest-preserved
loop-rest-preserved c = omega (arith, (digits_several c.loop-rest.rest c.loop-rest-test.true))

pub returns : goal.returns
returns c = omega (arith, (digits_one c.loop-rest.rest c.loop-rest-test.false))
