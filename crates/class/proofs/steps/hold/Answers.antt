-- `class::steps::hold` meets its contract: what `go_on` gives, with one entry less and the sheet turned in.
use Rattle.class.proofs.steps.hold.Goals as goal

pub returns : goal.returns
returns c = rw (c.saturating_sub.ensures, c.turned_in.ensures) at c.go_on.ensures
