-- `session::clear_used` meets its contract: each round clears the used places of one field more.
use mathlib.Core.Path.{◌≡◌, refl}
use native.Mathlib.Omega.{arith}
use lib.ListN.{length}
use Rattle.session.specs.Names.{object_places, link_places}
use Rattle.session.specs.Table.{fields}
use Rattle.session.specs.RenewLaws.{wrote_uncleared, wrote_cleared, clears_inside, next_begins}
use Rattle.session.proofs.clear_used.Goals as goal

pub loop-k-init : goal.loop-k-init
loop-k-init c =
    let a = c.args in
    (c.requires.0, c.requires.1, c.places-used.ensures, c.places-sizes.ensures, refl, wrote_uncleared a.s.now a.handles a.links)

pub clear_words-requires : goal.clear_words-requires
clear_words-requires c =
    let l = c.loop-k in
    let i = l.invariant in
    rw i.2 (clears_inside _ _ l.k l.start i.0 i.1 (omega arith) i.4)

pub overflow_add-start : goal.overflow_add-start
overflow_add-start c =
    let l = c.loop-k in
    let i = l.invariant in
    rw i.3 (omega (arith, clears_inside object_places link_places l.k l.start (omega arith) (omega arith) (omega arith) i.4))

pub loop-k-preserved : goal.loop-k-preserved
loop-k-preserved c =
    let l = c.loop-k in
    let i = l.invariant in
    let a = c.args in (
      i.0,
      i.1,
      i.2,
      i.3,
      rw i.3 (next_begins l.k l.start (omega arith) i.4),
      wrote_cleared a.handles a.links l.k l.start i.0 i.1 (omega arith) i.4 i.5 (rw i.2 at c.clear_words.ensures),
    )

pub returns : goal.returns
returns c =
    let l = c.loop-k in
    let n : l.k ≡ length fields = omega arith in
    rw n at l.invariant.5
