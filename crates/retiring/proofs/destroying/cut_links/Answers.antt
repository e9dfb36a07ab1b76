-- `retiring::destroying::cut_links` meets its contract: setting the open links to cut is `links_cut` (`cut-set`).
use Rattle.retiring.specs.Cutting.{cut-set}
use Rattle.retiring.proofs.destroying.cut_links.Goals as goal

pub returns : goal.returns
returns c = rw (← cut-set _ _) c.set_open_links.ensures
