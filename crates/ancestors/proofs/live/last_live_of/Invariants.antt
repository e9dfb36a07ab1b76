-- `ancestors::live::last_live_of` meets its contract: both loops keep that no live task was passed, eight at a time (`dead_eight`) and
-- then one by one (`dead_one`); it ends at one, or at 0.
use Prim.Native.Nat.{◌≤◌}
use Rattle.session.specs.Table.{read}
use Rattle.session.specs.declared.Field.TheVariants.{Objects}
use Rattle.ancestors.specs.Live.{Stated, Dead}
use Rattle.ancestors.proofs.live.last_live_of.Given as goal

abbrev pub invariant-loop-top : goal.invariant-loop-top
invariant-loop-top l = Dead (read l.s) l.high l.top × (l.high ≤ read l.s Objects 0) × Stated (read l.s)

abbrev pub decreases-loop-top : goal.decreases-loop-top
decreases-loop-top l = l.top

abbrev pub invariant-loop-h : goal.invariant-loop-h
invariant-loop-h l = Dead (read l.s) l.high l.h
