-- `class::steps::asks` meets its contract: a byte of a number, nothing, or of a sheet by `asks_sheet`.
use mathlib.Core.Path.{ap, sym, ◌∙◌}
use native.Mathlib.Omega.{arith}
use Rattle.class.specs.Steps.{asks_at}
use Rattle.class.specs.Stepped.{asks_byte, asks_nothing}
use Rattle.class.proofs.steps.asks.Goals as goal

pub returns-in-Count : goal.returns-in-Count
returns-in-Count c = record { told = asks_byte c.args.report _ c.in-Count.is; most = omega arith }

pub returns-in-Sheet : goal.returns-in-Sheet
unfolding asks_at
returns-in-Sheet c =
    let e = c.asks_sheet.ensures in
    record { told = e.told ∙ ap (asks_at c.args.report) (sym c.in-Sheet.is); most = e.most }

pub returns-in-Head : goal.returns-in-Head
returns-in-Head c = record { told = asks_nothing c.args.report _ c.in-Head.is; most = omega arith }
