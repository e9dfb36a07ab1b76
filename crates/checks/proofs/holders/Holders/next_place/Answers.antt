-- `Holders::next_place` meets its contract: past a holder's last slot the places up to the next holder's are no holds (`pass_unused`).
use Rattle.checks.specs.HolderList.{pass_unused}
use native.Mathlib.Omega.{arith}
use Rattle.checks.proofs.holders.Holders.next_place.Goals as goal

pub returns : goal.returns
returns c = (omega arith, pass_unused _ _ _ c.requires.1 c.requires.0 c.args.q c.requires.2 (omega arith))
