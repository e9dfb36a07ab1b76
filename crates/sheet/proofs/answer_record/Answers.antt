-- `sheet::answer_record` meets its contract: the reply's numbers are small, and its line is written.
use Prim.Native.Nat.{◌<◌}
use native.Mathlib.Omega.{arith}
use Rattle.session.specs.Table.{read}
use Rattle.sheet.specs.Replies.{reply_small}
use Rattle.rules.specs.Refusals.{number}
use Rattle.rules.specs.Answer.{refused_of, made_of}
use Rattle.engine.specs.Played.{numbers}
use Rattle.sheet.proofs.answer_record.Goals as goal

pub put_answer-requires : goal.put_answer-requires
unfolding refused_of made_of
put_answer-requires c =
    let small = reply_small (read c.args.memory.now) c.args.op c.requires.0 in
    let k = rw c.in-Ok.is at (numbers _ _ c.apply_sound.ensures) in
    let b : c.in-Ok.made < 10000 = rw k.1 small.1 in
    (c.requires.1, omega (arith, b), omega (arith, b))

pub put_answer-requires-in-Err : goal.put_answer-requires-in-Err
unfolding refused_of made_of
put_answer-requires-in-Err c =
    let small = reply_small (read c.args.memory.now) c.args.op c.requires.0 in
    let k = rw c.in-Err.is at (numbers _ _ c.apply_sound.ensures) in
    let b : number c.in-Err.refusal < 100 = rw k.0 small.0 in
    (c.requires.1, omega (arith, b, c.from.ensures), omega (arith, b))

pub returns-in-Ok : goal.returns-in-Ok
unfolding refused_of made_of
returns-in-Ok c =
    let r = c.apply_sound.ensures in
    let k = rw c.in-Ok.is at (numbers _ _ r) in
    record { session = r.leaves; line = rw (← k.0, ← k.1) c.put_answer.ensures }

pub returns-in-Err : goal.returns-in-Err
unfolding refused_of made_of
returns-in-Err c =
    let r = c.apply_sound.ensures in
    let k = rw c.in-Err.is at (numbers _ _ r) in
    record { session = r.leaves; line = rw (← k.0, ← k.1) (rw c.from.ensures at c.put_answer-in-Err.ensures) }
