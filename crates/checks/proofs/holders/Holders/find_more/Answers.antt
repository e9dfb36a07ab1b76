-- `Holders::find_more` meets its contract: at its two early returns the list is as it was; else the next holder comes behind it
-- (`more-listed`).
use Rattle.checks.specs.HolderList.{more-listed}
use Rattle.reading.specs.Eights.{or_end}
use native.Mathlib.Omega.{arith}
use Rattle.checks.proofs.holders.Holders.find_more.Goals as goal

pub overflow_cast-self : goal.overflow_cast-self
overflow_cast-self c = omega (arith, (or_end _ _ _ c.next_holder.ensures).within, c.unwrap_or.ensures)

pub returns : goal.returns
returns c =
    let f = or_end _ _ _ c.next_holder.ensures in
    rw c.unwrap_or.ensures (more-listed _ _ _ c.requires.1 _ _ c.requires.2 (omega (arith, f.within)) f.passed)
