-- `sound::holders::are_compatible_by` meets its contract: from i to i + 1, the answer by `each_more`, the row by `note_holder`.
use Rattle.std.specs.Prelude.{◌≡◌}
use Rattle.session.specs.Table.{read}
use Rattle.rules.specs.Formula.{test, Formula.each}
use Rattle.rules.specs.Sound.{compatible_at}
use Rattle.sound.specs.HolderTable.{Holders}
use Rattle.sound.proofs.holders.are_compatible_by.Given as goal

abbrev pub invariant-loop-i : goal.invariant-loop-i
invariant-loop-i l = (l.ok ≡ test (each l.i (compatible_at (read l.s)))) × Holders (read l.s) l.row l.i
