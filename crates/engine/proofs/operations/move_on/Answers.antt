-- `operations::move_on` meets its contract: each arm is the operation of its code, and what is left is past the last code.
use Prim.Native.Nat.{◌<◌}
use native.Mathlib.Omega.{arith}
use Rattle.rules.specs.Step.{rules, last_code}
use Rattle.engine.specs.Played.{reply_by, played_unknown}
use Rattle.engine.proofs.operations.move_on.Goals as goal

pub returns-in-9 : goal.returns-in-9
unfolding rules reply_by
returns-in-9 c =
    rw c.in-9.is c.deliver.ensures

pub returns-in-10 : goal.returns-in-10
unfolding rules reply_by
returns-in-10 c =
    rw c.in-10.is c.grant.ensures

pub returns-in-11 : goal.returns-in-11
unfolding rules reply_by
returns-in-11 c =
    rw c.in-11.is c.start.ensures

pub returns-in-12 : goal.returns-in-12
unfolding rules reply_by
returns-in-12 c =
    rw c.in-12.is c.end.ensures

pub returns-in-13 : goal.returns-in-13
unfolding rules reply_by
returns-in-13 c =
    rw c.in-13.is c.counted.ensures

pub returns-in_default : goal.returns-in_default
returns-in_default c =
    let a = c.args in
    let past : last_code < a.code = omega arith in
    played_unknown a.s.now a.code a.f past
