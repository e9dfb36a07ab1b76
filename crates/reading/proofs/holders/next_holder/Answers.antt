-- `reading::holders::next_holder` meets its contract: the next place by the test is the first holder (`first_by`).
use native.Mathlib.Omega.{arith}
use borrow.Author.Rules.{rules}
use Rattle.session.specs.Table.{read}
use Rattle.reading.specs.Holders.{first_by, is_holder}
use Rattle.reading.proofs.holders.next_holder.Goals as goal

pub returns : goal.returns
returns c = first_by _ (is_holder (read c.args.s.now)) c.args.from c.args.n _ (omega arith) c.next_where.ensures (λ i r e. search rules)
