-- `retiring::children::has_child` meets its contract: the loop keeps that there is none before `from`: none lower (`none_lower`), then none
-- up to the next that h made and past it (`none_past`). A child decides (`passes`), and with no more there is none (`none_child`).
use Prim.Native.Nat.{◌+◌, ◌-◌, ◌≤◌}
use mathlib.Core.Path.{◌≡◌}
use Rattle.session.specs.Names.{most_objects}
use Rattle.session.specs.Table.{read}
use Rattle.session.specs.declared.Field.TheVariants.{Objects}
use Rattle.retiring.specs.Children.{NoneBefore}
use Rattle.retiring.proofs.children.has_child.Given as goal

abbrev pub invariant-loop-d : goal.invariant-loop-d
invariant-loop-d l =
    (l.end ≡ read l.s Objects 0 + 1) × (l.end ≤ most_objects + 1) × (l.from ≤ l.end) × NoneBefore (read l.s) l.h l.last l.from

abbrev pub decreases-loop-d : goal.decreases-loop-d
decreases-loop-d l = l.end - l.from
