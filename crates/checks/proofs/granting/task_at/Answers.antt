-- `checks::granting::task_at` meets its contract: the array's first j slots are the table's (`up_to-more`), at 16 all of them; the
-- other fields as they are read, by the definition of `task_at`.
use Rattle.checks.specs.GrantChecks.{slot_at, task_at, up_to, up_to-more}
use Rattle.session.specs.Table.{at, read}
use lib.ListN.{length-set}
use lib.Seq.{take_all}
use mathlib.Core.Path.{◌∙◌, ◌≡◌, refl, sym}
use native.Mathlib.Omega.{arith}
use Rattle.checks.proofs.granting.task_at.Goals as goal

pub loop-j-init : goal.loop-j-init
unfolding up_to
loop-j-init c = (refl, refl)

pub loop-j-preserved : goal.loop-j-preserved
loop-j-preserved c =
    let i = c.loop-j.invariant in
    (simp length-set i.0, rw c.slot_of.ensures (up_to-more _ _ (λ j. slot_at _ (at _ j)) (omega (arith, i.0)) i.1))

pub returns : goal.returns
unfolding task_at
returns c =
    let l = c.loop-j in
    let d : l.j ≡ 16 = omega arith in
    let e : l.slots ≡ up_to 16 (λ j. slot_at (read c.args.s.now) (at c.args.t j)) =
    sym (take_all 16 l.slots (omega (arith, l.invariant.0))) ∙ rw d at l.invariant.1 in
    rw (c.get.ensures, c.get-2.ensures, c.get-3.ensures, c.get-4.ensures, c.get-5.ensures, e)
