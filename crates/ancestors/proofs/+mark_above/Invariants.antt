-- `ancestors::mark_above` ends, since creators are lower.
use Rattle.ancestors.proofs.+mark_above.Given as goal

abbrev pub decreases-mark_above : goal.decreases-mark_above
decreases-mark_above l = l.h
