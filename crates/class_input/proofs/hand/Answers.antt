-- `class_input::hand` meets its contract: the window's first bytes, as many as are asked or there (`is-least`).
use Prim.Native.Nat.{◌+◌, ◌-◌}
use native.Mathlib.Omega.{arith}
use borrow.Rule.Slice.PartMut.{mid_len}
use Rattle.class_input.specs.WindowLaws.{is-least}
use Rattle.class_input.proofs.hand.Goals as goal

pub write_bytes-requires : goal.write_bytes-requires
write_bytes-requires c =
    let w = c.args.window in
    let k = c.min-k in
    omega (arith, mid_len w.from (w.from + k.result) c.args.input.now (omega (arith, k.ensures, c.requires.0)), k.ensures, c.requires.1)

pub returns : goal.returns
returns c =
    let w = c.args.window in
    record {
      told = is-least c.args.n (w.to - w.from) _ (λ h. omega (arith, c.min-k.ensures)) (λ h. omega (arith, c.min-k.ensures));
      put = c.write_bytes.ensures.written;
    }
