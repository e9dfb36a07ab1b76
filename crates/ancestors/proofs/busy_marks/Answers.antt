-- `ancestors::busy_marks` meets its contract: by `mark_all` over marks that are all 0.
use Rattle.ancestors.specs.Above.{shows_zeros}
use Rattle.ancestors.proofs.busy_marks.Goals as goal

pub mark_all-requires : goal.mark_all-requires
mark_all-requires c =
    let p = c.requires in
    (p.0, p.1, shows_zeros)
