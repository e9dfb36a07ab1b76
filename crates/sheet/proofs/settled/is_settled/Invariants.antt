-- `sheet::settled::is_settled` meets its contract: each link before the one that is looked at is settled.
use Prim.Native.Nat.{ℕ, ◌<◌}
use Rattle.session.specs.Table.{read}
use Rattle.rules.specs.Formula.{Holds}
use Rattle.sheet.specs.Settled.{link_settled}
use Rattle.sheet.proofs.settled.is_settled.Given as goal

abbrev pub invariant-loop-l : goal.invariant-loop-l
invariant-loop-l l = (i : ℕ) → i < l.l → Holds (link_settled (read l.s) i)
