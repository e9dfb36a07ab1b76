-- `operations::call` meets its contract: each arm is the operation of its code, and what is left is code 8.
use mathlib.Core.Path.{◌≡◌}
use native.Mathlib.Omega.{arith}
use Rattle.rules.specs.Step.{rules}
use Rattle.engine.specs.Played.{reply_by}
use Rattle.engine.proofs.operations.call.Goals as goal

pub returns-in-5 : goal.returns-in-5
unfolding rules reply_by
returns-in-5 c =
    rw c.in-5.is c.dependence.ensures

pub returns-in-6 : goal.returns-in-6
unfolding rules reply_by
returns-in-6 c =
    rw c.in-6.is c.satisfy.ensures

pub returns-in-7 : goal.returns-in-7
unfolding rules reply_by
returns-in-7 c =
    rw c.in-7.is c.release.ensures

pub returns-in_default : goal.returns-in_default
unfolding rules reply_by
returns-in_default c =
    let a = c.args in
    let e : a.code ≡ 8 = omega arith in
    rw e c.destroy.ensures
