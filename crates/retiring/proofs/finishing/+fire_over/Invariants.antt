-- `retiring::finishing::fire_over` ends: each call goes to a lower handle.
use Rattle.retiring.proofs.finishing.+fire_over.Given as goal

abbrev pub decreases-fire_over : goal.decreases-fire_over
decreases-fire_over l = l.t
