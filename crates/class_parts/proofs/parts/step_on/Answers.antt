-- `class_parts::parts::step_on` meets its contract: the step on the file's next bytes, its line in the free tail.
use Prim.Native.Nat.{ℕ, ◌-◌}
use mathlib.Core.Path.{refl, ap, ◌∙◌}
use lib.ListN.{length}
use native.Mathlib.Omega.{arith}
use borrow.Author.Rules.{rules}
use Rattle.turns.specs.MemoryPlaces.{least}
use Rattle.class_parts.specs.ReportParts.{min-least, handed-bytes, stepped_on}
use Rattle.class_parts.proofs.parts.step_on.Goals as goal

pub take-step-requires : goal.take-step-requires
take-step-requires c = record { lent = search rules; place_le_end = (omega arith, omega (arith, c.min.ensures)) }

pub overflow_add-result : goal.overflow_add-result
overflow_add-result c =
    omega (arith, c.take-step.ensures.moved.told.short, c.requires.place_in_bounds.1)

pub returns : goal.returns
returns c =
    let a = c.args in
    let asked = c.asks.ensures.told in
    let b =
    handed-bytes a.file.now a.place a.report _
    (c.min.ensures ∙ min-least _ _ ∙ ap (λ (k : ℕ). least k (length a.file.now - a.place)) asked)
    (omega (arith, c.min.ensures)) c.requires.place_in_bounds.0 in
    stepped_on a.file.now a.place a.report _ _ _ a.lines.now _ a.used _ _ _ (omega (arith, c.requires.place_in_bounds.1)) refl
    b.0 b.1
    c.take-step.ensures
