-- `holding::letting::release` meets its contract: what `let_go_block` requires follows from the sound session (`doomed-held`,
-- `active`) and the checks (`handle_made`), and the rest is its own.
use Rattle.laws.specs.Standing.{handle_made}
use Rattle.holding.specs.SoundHolds.{doomed-held, active}
use Rattle.laws.specs.Rows.Name.{counts}
use Rattle.laws.specs.ByName.{sound_by_name}
use Rattle.session.specs.Table.{read}
use Rattle.holding.proofs.letting.release.Goals as goal

pub let_go_block-requires : goal.let_go_block-requires
let_go_block-requires c =
    let ws = c.args.s.now in
    let sound = c.requires.0 in
    let m = c.requires.1 in (
      (sound_by_name (read ws) sound counts).1.0,
      handle_made (read ws) c.args.caller (sound_by_name (read ws) sound)
          m.0.0,
      m.1.0.0,
      handle_made (read ws) c.args.b (sound_by_name (read ws) sound)
          m.1.0,
      doomed-held ws sound,
      active ws sound,
    )
