-- `retiring::children::is_below` ends: each call goes to a lower handle.
use Rattle.retiring.proofs.children.+is_below.Given as goal

abbrev pub decreases-is_below : goal.decreases-is_below
decreases-is_below l = l.d
