-- `sound::holders::join` meets its contract: nobody noted, the same task, or another, each by the definition of `joined`.
use borrow.Author.Tests.{eq-eqb, ne_eqb}
use Rattle.sound.specs.HolderTable.{joined}
use Rattle.sound.proofs.holders.join.Goals as goal

pub returns-then-w-eq0 : goal.returns-then-w-eq0
unfolding joined
returns-then-w-eq0 c = rw (eq-eqb _ _ c.if-w-eq0.true)

pub returns-then-w-u : goal.returns-then-w-u
unfolding joined
returns-then-w-u c = rw (ne_eqb _ _ c.if-w-eq0.false, eq-eqb _ _ c.if-w-u.true)

pub returns : goal.returns
unfolding joined
returns c = rw (ne_eqb _ _ c.if-w-eq0.false, ne_eqb _ _ c.if-w-u.false)
