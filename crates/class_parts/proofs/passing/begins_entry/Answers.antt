-- `class_parts::passing::begins_entry` meets its contract: every field is as where an entry begins.
use mathlib.Core.Path.{sym, ◌∙◌}
use native.Mathlib.Omega.{arith}
use Rattle.std.proofs.Common.{eqb-true}
use Rattle.std.proofs.lemmas.Bool.{and_parts}
use Rattle.class_parts.specs.Passing.{begins, not_so}
use Rattle.class_parts.proofs.passing.begins_entry.Goals as goal

pub returns-in_default : goal.returns-in_default
returns-in_default c = λ e. not_so e

pub returns-then-report-ne0 : goal.returns-then-report-ne0
returns-then-report-ne0 c = λ e.
    let value = and_parts _ _ (sym c.eq.ensures ∙ e) in
    let weight = and_parts _ _ value.1 in
    let learner = and_parts _ _ weight.1 in
    let turn = and_parts _ _ learner.1 in
    let length = and_parts _ _ turn.1 in
    let stop = and_parts _ _ length.1 in (
      begins _ c.in-Learner.is (eqb-true _ _ value.0) (eqb-true _ _ weight.0) c.if-report-ne0.true (eqb-true _ _ learner.0)
          (eqb-true _ _ turn.0) (eqb-true _ _ length.0) (eqb-true _ _ stop.0),
      omega arith,
    )

pub returns-else-report-ne0 : goal.returns-else-report-ne0
returns-else-report-ne0 c = λ e. not_so (rw c.if-report-ne0.false at e)
