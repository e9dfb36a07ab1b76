-- `Holders::place_at` meets its contract: the value computed is the definition of `place_of`.
use Rattle.checks.specs.HolderList.{place_of}
use mathlib.Core.Path.{refl}
use Rattle.checks.proofs.holders.Holders.place_at.Goals as goal

pub returns : goal.returns
unfolding place_of
returns c = refl
