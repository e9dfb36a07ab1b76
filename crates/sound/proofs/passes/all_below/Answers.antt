-- `sound::passes::all_below` meets its contract: the answer so far is that of `each` below i, for every formula that the calls answer.
use Rattle.std.proofs.Common.{sym}
use Rattle.reading.specs.Loops.{each_none, each_more}
use Rattle.sound.proofs.passes.all_below.Goals as goal

pub loop-i-init : goal.loop-i-init
loop-i-init g c = λ f h. sym (each_none f)

pub loop-i-preserved : goal.loop-i-preserved
loop-i-preserved g c =
    λ f h. rw (h _ _ c.loop-i-test.true c.holds-ok.ensures, c.loop-i.invariant f h)
    (sym (each_more c.loop-i.i f))
