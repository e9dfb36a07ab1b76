-- `class::steps::entry_or_line` meets its contract, by whether no entry is left (`line-next`, `entry_next`).
use Rattle.class.specs.Steps.{line-next, entry_next}
use Rattle.class.proofs.steps.entry_or_line.Goals as goal

pub returns-then-left-eq0 : goal.returns-then-left-eq0
returns-then-left-eq0 c = line-next _ c.if-left-eq0.true

pub returns : goal.returns
returns c = entry_next _ c.if-left-eq0.false
