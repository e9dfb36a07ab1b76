-- `class::steps::hold_later` meets its contract: what `go_on` gives, with the sheet that supersedes.
use Rattle.class.proofs.steps.hold_later.Goals as goal

pub supersede-later-requires : goal.supersede-later-requires
supersede-later-requires c = rw c.turned_in.ensures c.requires

pub returns : goal.returns
returns c =
    rw (
      c.saturating_sub.ensures,
      rw c.turned_in.ensures at c.supersede-later.ensures,
    ) at c.go_on.ensures
