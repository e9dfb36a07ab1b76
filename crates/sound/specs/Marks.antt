-- Marks show a formula in one way only: so a struct can carry that they do.
use Rattle.std.specs.Prelude.{ℕ, List}
use Rattle.std.proofs.Props.{props}
use Rattle.rules.specs.Formula.{Formula}
use Rattle.ancestors.specs.Above.{Shows}

pub Shows-prop : (m : List ℕ) (f : ℕ → Formula) → IsProp (Shows m f)
unfolding Shows
Shows-prop m f = hlevel props
