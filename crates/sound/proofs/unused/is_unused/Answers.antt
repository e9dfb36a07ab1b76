-- `sound::unused::is_unused` meets its contract: up to the count it passes (`passes`); past it by `is_empty` (`test_then`).
use Prim.Native.Nat.{suc, ◌≤◌}
use mathlib.Core.Path.{sym, ◌∙◌}
use native.Mathlib.Omega.{arith}
use Rattle.session.specs.Table.{read}
use Rattle.session.specs.declared.Field.TheVariants.{Objects}
use Rattle.rules.specs.Formula.{Formula.◌≼◌}
use Rattle.rules.specs.FormulaLaws.{passes, test_then}
use Rattle.rules.specs.Sound.{empty_object}
use Rattle.sound.proofs.unused.is_unused.Goals as goal

pub returns-then-h-get : goal.returns-then-h-get
returns-then-h-get c = let e = c.get.ensures in sym (passes _ (λ x. absurd (omega (arith, e, c.if-h-get.true))))

pub returns : goal.returns
returns c =
    let a = c.args in
    let e = c.get.ensures in
    let l : suc (read a.s.now Objects 0) ≤ a.h = omega (arith, e, c.if-h-get.false) in
    c.is_empty.ensures ∙ sym (test_then (suc (read a.s.now Objects 0) ≼ a.h) (empty_object (read a.s.now) a.h) l)
