-- `retiring::finishing::fire_by_marks` meets its contract: what `fire_all_marked` wrote leaves a tidy session (`tidy_fired`), and
-- what `ready_all_marked` wrote comes behind it (`wrote_next`).
use Rattle.session.specs.Table.{read}
use Rattle.laws.specs.Puts.{wrote_next}
use Rattle.retiring.specs.Finish.{links_ready, tidy_fired}
use Rattle.retiring.proofs.finishing.fire_by_marks.Goals as goal

pub ready_all_marked-requires : goal.ready_all_marked-requires
ready_all_marked-requires c =
    let p = c.requires in
    rw (← c.fire_all_marked.ensures.reading) at (tidy_fired (read c.args.s.now) c.args.fires.now p.0)

pub returns : goal.returns
returns c =
    wrote_next (λ r. links_ready r c.args.fires.now) c.fire_all_marked.ensures c.ready_all_marked.ensures
