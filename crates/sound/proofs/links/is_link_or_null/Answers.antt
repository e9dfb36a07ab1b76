-- `sound::links::is_link_or_null` meets its contract: l is 0, or what `is_link` answers (`simp` with Bools).
use Rattle.sound.proofs.Bools.{bools}
use Rattle.sound.proofs.links.is_link_or_null.Goals as goal

pub returns : goal.returns
returns c = simp (c.is_link.ensures, bools)
