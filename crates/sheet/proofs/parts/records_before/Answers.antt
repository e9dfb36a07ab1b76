-- `sheet::parts::records_before` meets its contract: the least of the two (`least`).
use mathlib.Core.Path.{◌∙◌}
use Rattle.sheet.specs.Closing.{least}
use Rattle.sheet.proofs.parts.records_before.Goals as goal

pub returns : goal.returns
returns c = c.min.ensures ∙ least _ _
