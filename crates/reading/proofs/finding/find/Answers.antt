-- `reading::finding::find` meets its contract: the next place by the test is the first that has v (`first_by`, `found_by`), and none is
-- told by the end (`or_end`).
use native.Mathlib.Omega.{arith}
use borrow.Author.Rules.{rules}
use Rattle.rules.specs.Formula.{Formula.◌≐◌}
use Rattle.reading.specs.TestLaws.{equals}
use Rattle.session.specs.Table.{read}
use Rattle.reading.specs.Eights.{or_end}
use Rattle.reading.specs.Holders.{first_by}
use Rattle.reading.specs.Finding.{Found, found_by}
use Rattle.reading.proofs.finding.find.Goals as goal

pub returns : goal.returns
returns c =
    let a = c.args in
    rw c.unwrap_or.ensures (or_end (Found (read a.s.now) a.f a.v a.from a.end) a.end c.next_where.result
    (found_by (read a.s.now) a.f a.v a.from a.end c.next_where.result
    (first_by _ (λ i. read a.s.now a.f i ≐ a.v) a.from a.end c.next_where.result (omega arith) c.next_where.ensures (λ i r e. rw (← equals (read a.s.now a.f i) a.v) (search rules)))))
