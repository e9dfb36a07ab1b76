-- `sound::tasks::Busy::is_busy` meets its contract: the mark at t is 1 exactly where the formula holds (`Shows`, `chosen`).
use native.Mathlib.Omega.{arith}
use Rattle.session.specs.Table.{read}
use Rattle.ancestors.specs.Above.{Shows}
use Rattle.rules.specs.Bools.{chosen}
use Rattle.rules.specs.Descendants.{busy}
use Rattle.sound.proofs.tasks.Busy.is_busy.Goals as goal

pub returns : goal.returns
unfolding Shows
returns c =
    let a = c.args in
    chosen _ (busy (read a.self.now.s.now) a.t) (a.self.now.shown a.t (omega arith))
