-- `number::write` meets its contract: a value is written where there is room for its bytes.
use mathlib.Core.Path.{sym, ◌∙◌, ap}
use Prim.Native.Nat.{◌<◌, ◌≤◌, ◌+◌}
use native.Mathlib.Omega.{arith}
use lib.ListN.{length}
use Rattle.std.specs.Prelude.{Some}
use Rattle.number.specs.Number.{encode}
use Rattle.number.specs.NumberRoundTrip.{length_some}
use Rattle.number.specs.Splice.{written-fits, written-not, memory-fits, memory-not}
use Rattle.number.proofs.write.Goals as goal

pub returns-then-not-has_room : goal.returns-then-not-has_room
returns-then-not-has_room c =
    let a = c.args in
    let few = c.has_room.ensures.no c.if-not-has_room.true in
    let h : length a.out.now < a.used + length (encode a.v) = omega (arith, length_some a.v) in
    record { answer = sym (written-not a.v a.out.now a.used h); bytes = sym (memory-not a.v a.out.now a.used h) }

pub put_groups-requires : goal.put_groups-requires
put_groups-requires c =
    let enough = c.has_room.ensures.yes c.if-not-has_room.false in
    omega (arith, length_some c.args.v)

pub returns : goal.returns
returns c =
    let a = c.args in
    let w = c.put_groups in
    let enough = c.has_room.ensures.yes c.if-not-has_room.false in
    let h : a.used + length (encode a.v) ≤ length a.out.now = omega (arith, length_some a.v) in
    record {
      answer = ap Some w.ensures.answer ∙ sym (written-fits a.v a.out.now a.used h);
      bytes = w.ensures.bytes ∙ sym (memory-fits a.v a.out.now a.used h);
    }
