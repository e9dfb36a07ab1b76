-- `session::get` meets its contract: the word is within the layout (`inside`), and is what `read` says, by its definition.
use borrow.Author.Tests.{lt-ltb}
use native.Mathlib.Omega.{arith}
use Rattle.session.specs.Table.{read}
use Rattle.session.specs.TableLaws.{inside}
use Rattle.session.proofs.get.Goals as goal

pub overflow_add-at : goal.overflow_add-at
overflow_add-at c = omega (arith, inside c.args.f)

pub offset_bounds-s-at : goal.offset_bounds-s-at
offset_bounds-s-at c = omega (arith, inside c.args.f)

pub bounds-s-at : goal.bounds-s-at
bounds-s-at c = omega (arith, inside c.args.f)

pub returns : goal.returns
unfolding read
returns c =
    let a = c.args in
    rw (c.base_of.ensures, lt-ltb _ _ c.requires.1)
