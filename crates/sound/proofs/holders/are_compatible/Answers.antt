-- `sound::holders::are_compatible` meets its contract: from a row of zeros (`row_zero`), as `are_compatible_by` answers.
use mathlib.Core.Path.{refl}
use Rattle.sound.specs.Row.{row_zero}
use Rattle.sound.specs.HolderTable.{cells}
use Rattle.sound.proofs.holders.are_compatible.Goals as goal

pub are_compatible_by-requires : goal.are_compatible_by-requires
are_compatible_by-requires c = record { held = c.requires; none = row_zero cells (λ b. 0) (λ b q. refl) }
