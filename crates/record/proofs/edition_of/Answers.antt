-- `record::edition_of` meets its contract, by the cases of the sheet's first number.
use mathlib.Core.Path.{ap, sym, ◌∙◌}
use Rattle.number.specs.Number.{value_of}
use Rattle.record.proofs.edition_of.Goals as goal

pub returns-in-Ok : goal.returns-in-Ok
unfolding value_of
returns-in-Ok c = sym (ap value_of (sym c.read.ensures ∙ c.in-Ok.is))

pub returns-in-Err : goal.returns-in-Err
unfolding value_of
returns-in-Err c = sym (ap value_of (sym c.read.ensures ∙ c.in-Err.is))
