-- `retiring::children::has_live_below` meets its contract: none before d is a live descendant, as none lower than a is one
-- (`none_below`); one that is decides (`passes`), and past the count there is none (`fails`).
use Prim.Native.Nat.{ℕ, ◌≤◌, ◌<◌}
use mathlib.Core.Path.{◌≡◌}
use Rattle.session.specs.Table.{read}
use Rattle.session.specs.declared.Field.TheVariants.{Objects, TaskCreator}
use Rattle.rules.specs.Formula.{Holds, Formula.◌and◌}
use Rattle.rules.specs.Reading.{is_live}
use Rattle.rules.specs.Descendants.{under}
use Rattle.retiring.specs.TidyUnderWay.{Tidy}
use Rattle.retiring.proofs.children.has_live_below.Given as goal

abbrev pub invariant-loop-d : goal.invariant-loop-d
invariant-loop-d l =
    Tidy (read l.s) × (1 ≤ l.a) × (l.n ≡ read l.s Objects 0)
    × ((i : ℕ) → i < l.d → Holds (is_live (read l.s) i and under (read l.s TaskCreator) i i l.a) → ⊥)
