-- `operations::make` meets its contract: each arm is the operation of its code, and what is left is code 0.
use mathlib.Core.Path.{◌≡◌}
use native.Mathlib.Omega.{arith}
use Rattle.rules.specs.Step.{rules}
use Rattle.engine.specs.Played.{reply_by, played_none}
use Rattle.engine.proofs.operations.make.Goals as goal

pub returns-in-1 : goal.returns-in-1
unfolding rules reply_by
returns-in-1 c =
    rw c.in-1.is c.template.ensures

pub returns-in-2 : goal.returns-in-2
unfolding rules reply_by
returns-in-2 c =
    rw c.in-2.is c.task.ensures

pub returns-in-3 : goal.returns-in-3
unfolding rules reply_by
returns-in-3 c =
    rw c.in-3.is c.event.ensures

pub returns-in-4 : goal.returns-in-4
unfolding rules reply_by
returns-in-4 c =
    rw c.in-4.is c.block.ensures

pub returns-in_default : goal.returns-in_default
returns-in_default c =
    let a = c.args in
    let none : a.code ≡ 0 = omega arith in
    played_none a.s.now a.code a.f none
