-- `reading::objects::is_full` meets its contract: what the marks of the slots below j say, from j to j + 1 (`each_next`).
use mathlib.Core.Path.{refl, sym}
use native.Mathlib.Omega.{arith}
use Rattle.rules.specs.Bools.{test_le}
use Rattle.reading.specs.Loops.{each_none, each_next}
use Rattle.reading.proofs.objects.is_full.Goals as goal

pub loop-j-init : goal.loop-j-init
loop-j-init c = (c.get-n.ensures, omega arith, refl, sym (each_none _))

pub loop-j-preserved : goal.loop-j-preserved
loop-j-preserved c =
    let i = c.loop-j.invariant in
    (i.0, i.1, i.2, rw (c.get.ensures, i.3, each_next c.loop-j.j _, test_le) refl)
