-- `sound::links::count_delivered` meets its contract: from l to l + 1, by what l is (`count_next_yes`, `count_next_no`).
use Rattle.std.specs.Prelude.{◌≡◌, ◌≤◌}
use Rattle.session.specs.Table.{read}
use Rattle.rules.specs.Formula.{count as count_of}
use Rattle.rules.specs.Sound.{is_delivered}
use Rattle.sound.proofs.links.count_delivered.Given as goal

abbrev pub invariant-loop-l : goal.invariant-loop-l
invariant-loop-l l = (l.count ≡ count_of l.l (is_delivered (read l.s))) × (l.count ≤ l.l)
