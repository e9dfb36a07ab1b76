-- `retiring::climbing::climb` ends: each call goes to a lower handle.
use Rattle.retiring.proofs.climbing.+climb.Given as goal

abbrev pub decreases-climb : goal.decreases-climb
decreases-climb l = l.h
