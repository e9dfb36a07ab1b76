-- `session::set` meets its contract: the word is within the layout (`inside`), and writing it is a `put` (`wrote_word`).
use native.Mathlib.Omega.{arith}
use Rattle.session.specs.TableLaws.{inside, wrote_word}
use Rattle.session.proofs.set.Goals as goal

pub overflow_add-at : goal.overflow_add-at
overflow_add-at c = omega (arith, inside c.args.f)

pub offset_bounds-s-at : goal.offset_bounds-s-at
offset_bounds-s-at c = omega (arith, inside c.args.f)

pub bounds-s-at : goal.bounds-s-at
bounds-s-at c = omega (arith, inside c.args.f)

pub returns : goal.returns
returns c =
    let a = c.args in
    rw c.base_of.ensures (wrote_word a.s.now a.f a.i a.v c.requires.1 c.requires.0)
