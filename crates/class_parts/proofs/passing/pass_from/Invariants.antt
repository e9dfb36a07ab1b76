-- `class_parts::passing::pass_from` meets its contract: each turn passed leads on.
use Prim.Native.Nat.{◌≤◌}
use Rattle.std.specs.Prelude.{Some}
use Rattle.class.specs.Steps.{going}
use Rattle.class_parts.specs.Passing.{Passed}
use Rattle.class_parts.proofs.passing.pass_from.Given as goal

abbrev pub invariant-loop-more : goal.invariant-loop-more
invariant-loop-more l =
    Passed l.file l.place (going l.left (Some l.initial.held) l.tally) l.at (going l.more (Some l.held) l.tally) × (1 ≤ l.more)

abbrev pub decreases-loop-more : goal.decreases-loop-more
decreases-loop-more l = l.more
