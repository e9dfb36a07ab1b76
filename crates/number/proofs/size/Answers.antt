-- `number::size` meets its contract: the bytes counted and those of the rest are one more than the value's, the last byte
-- being counted from the start.
use mathlib.Core.Path.{ap}
use native.Mathlib.Omega.{arith}
use lib.ListN.{length}
use Rattle.number.specs.Encode.{encode_one, encode_several}
use Rattle.number.proofs.size.Goals as goal

pub loop-rest-preserved : goal.loop-rest-preserved
loop-rest-preserved c = omega (arith, ap length (encode_several c.loop-rest.rest c.loop-rest-test.true))

pub returns : goal.returns
returns c = omega (arith, ap length (encode_one c.loop-rest.rest c.loop-rest-test.false))
