-- `reading::finding::next_with` meets its contract: `find` tells a place before the end, or the end (`none_at_end`).
use Rattle.session.specs.Table.{read}
use Rattle.reading.specs.Eights.{OrEnd, none_at_end}
use Rattle.reading.specs.Finding.{Found}
use Rattle.reading.proofs.finding.next_with.Goals as goal

pub returns-then-place-end : goal.returns-then-place-end
unfolding OrEnd
returns-then-place-end c = (c.find-place.ensures, c.if-place-end.true)

pub returns-else-place-end : goal.returns-else-place-end
returns-else-place-end c =
    let a = c.args in
    none_at_end (Found (read a.s.now) a.f a.v a.from a.end) a.end c.find-place.result c.find-place.ensures.within c.if-place-end.false c.find-place.ensures
