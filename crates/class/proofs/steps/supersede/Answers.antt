-- `class::steps::supersede` meets its contract: the place is that
-- of the one with the higher turn, and of equal turns of the later.
use mathlib.Core.Path.{refl}
use native.Mathlib.Omega.{arith}
use Rattle.rules.specs.Formula.{Formula.◌≼◌}
use Rattle.rules.specs.FormulaLaws.{passes, fails}
use Rattle.class.specs.Steps.{superseded}
use Rattle.class.proofs.steps.supersede.Goals as goal

pub returns-then-sheet-later : goal.returns-then-sheet-later
unfolding superseded
returns-then-sheet-later c =
    let a = c.args in
    rw (c.superseding_place-place.ensures, passes (a.sheet.turn ≼ a.later.turn) (omega arith)) refl

pub returns : goal.returns
unfolding superseded
returns c =
    let a = c.args in
    rw (c.superseding_place-place.ensures, fails (a.sheet.turn ≼ a.later.turn) (λ h. omega arith)) refl
