-- `number::judge` meets its contract: the sum is the value of the groups behind the bytes that are left.
use Rattle.number.proofs.Steps.{Summed}
use Rattle.number.proofs.judge.Given as goal

abbrev pub invariant-loop-byte : goal.invariant-loop-byte
invariant-loop-byte l = Summed l.number l.byte-iterator.iter.rest.now l.v
