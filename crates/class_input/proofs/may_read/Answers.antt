-- `class_input::may_read` meets its contract: what is counted, no more than the width's largest, is the least of the two bounds (`is-least`).
use Prim.Native.Nat.{◌+◌}
use native.Mathlib.Omega.{arith}
use Rattle.class_input.specs.Ahead.{behind}
use Rattle.class_input.specs.WindowLaws.{is-least}
use Rattle.class_input.proofs.may_read.Goals as goal

pub returns : goal.returns
returns c =
    let left = c.args.left in
    record { told = is-least (1 + behind left) 16384 _ (λ h. omega arith) (λ h. omega arith); most = omega arith }
