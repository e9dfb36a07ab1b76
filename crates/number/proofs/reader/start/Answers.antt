-- `number::reader::start` meets its contract, by the definition of `start`.
use mathlib.Core.Path.{refl}
use Rattle.number.specs.Fed.{start}
use Rattle.number.proofs.reader.start.Goals as goal

pub returns : goal.returns
unfolding start
returns c = refl
