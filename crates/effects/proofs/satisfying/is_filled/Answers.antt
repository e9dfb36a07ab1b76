-- `effects::satisfying::is_filled` meets its contract: a last slot that is empty shows that not all are satisfied (`wrong`); else
-- `is_full` answers.
use Prim.Native.Nat.{ℕ, ◌+◌, ◌*◌, ◌-◌, ◌≤◌}
use mathlib.Core.Path.{◌≡◌, subst}
use native.Mathlib.Omega.{arith}
use Rattle.session.specs.Table.{read, at}
use Rattle.session.specs.declared.Field.TheVariants.{SlotMark}
use Rattle.reading.specs.TestLaws.{wrong}
use Rattle.effects.proofs.satisfying.is_filled.Goals as goal

pub returns-then-get-eq0 : goal.returns-then-get-eq0
returns-then-get-eq0 c =
    let count = c.get-n in
    let a = c.args in
    let n = count.result in
    let e : at a.t (n - 1) ≡ a.t * 16 + n - 1 = omega (arith, c.if-n-gt0.true) in
    wrong _ (λ f. let h : 1 ≤ read a.s.now SlotMark (a.t * 16 + n - 1) = subst (λ (k : ℕ). 1 ≤ read a.s.now SlotMark k) e
    (f (n - 1) (omega (arith, count.ensures, c.if-n-gt0.true))) in omega (arith, h, c.get.ensures, c.if-get-eq0.true))
