-- `class_input::fill` meets its contract: a window that was empty holds what came.
use Rattle.std.proofs.Common.{◌+◌, ◌≤◌, arith, length-take-le}
use Rattle.class_input.specs.Ahead.{behind}
use Rattle.class_input.specs.WindowLaws.{least-both, filled_unread, filled_read}
use Rattle.class_input.proofs.fill.Goals as goal

pub returns-then-window-clause-filled : goal.returns-then-window-clause-filled
returns-then-window-clause-filled g c = filled_unread c.args.window c.args.left c.args.input.now _ c.requires

pub returns-clause-filled : goal.returns-clause-filled
returns-clause-filled g c =
    let most = c.may_read-most.ensures in
    let got = c.in_ok-got.ensures in
    let long = length-take-le c.may_read-most.result c.args.input.now (omega (arith, most.most)) in
    let few : c.in_ok-got.got ≤ c.may_read-most.result = omega (arith, got.bound.0, c.read.auto.buf, long) in
    filled_read c.args.window c.args.left c.args.input.now _ _ c.read.new.buf _ c.in_ok-got.got
    (λ h. omega (arith, h, c.if-window.false)) got.bound.0
    (omega (arith, few, most.told, (least-both (1 + behind c.args.left) 16384).0))
    got.bytes.0
