-- `sound::blocks::held_marks` meets its contract: from a row of zeros (`row_zero`), the marks of `mark_all_held`.
use mathlib.Core.Path.{refl}
use Rattle.session.specs.Names.{object_places}
use Rattle.sound.specs.Row.{row_zero}
use Rattle.sound.proofs.blocks.held_marks.Goals as goal

pub mark_all_held-requires : goal.mark_all_held-requires
mark_all_held-requires c = row_zero object_places (λ b. 0) (λ b q. refl)
