-- `holding::granting::start` meets its contract: one word put is `start`, and that the task is made bounds its handle.
use native.Mathlib.Omega.{arith}
use Rattle.session.specs.Table.{read}
use Rattle.rules.specs.Effects.{start}
use Rattle.laws.specs.ByName.{sound_by_name}
use Rattle.laws.specs.Standing.{handle_made}
use Rattle.holding.proofs.granting.start.Goals as goal

pub set-requires : goal.set-requires
set-requires c =
    let s = read c.args.s.now in
    let l = handle_made s c.args.t (sound_by_name s c.requires.0) c.requires.1.0 in
    omega (arith, l)

pub returns : goal.returns
unfolding start
returns c = c.set.ensures
