-- `record::write_numbers` meets its contract: the first fields are written behind the code.
use native.Mathlib.Omega.{arith}
use lib.ListN.{length, get_or, length-append}
use Rattle.number.specs.Number.{encode}
use Rattle.record.specs.Writing.{field_bytes}
use Rattle.record.proofs.WriteSteps.{put_none, put-room, put-more, put_all}
use Rattle.record.proofs.write_numbers.Goals as goal

pub write_number-at-requires : goal.write_number-at-requires
write_number-at-requires c =
    let fields = c.args.fields.now in
    omega (arith, c.requires, length-append (encode c.args.code) (field_bytes (length fields) (λ j. get_or fields j 0)))

pub loop-field-init : goal.loop-field-init
loop-field-init c =
    let w = c.write_number-at in
    let fields = c.args.fields.now in
    put_none _ _ _ _
    (omega (
      arith,
      w.ensures.answer,
      w.auto.out,
      c.requires,
      length-append (encode c.args.code) (field_bytes (length fields) (λ j. get_or fields j 0)),
    ))

pub write_number-at-requires-in-loop-field : goal.write_number-at-requires-in-loop-field
write_number-at-requires-in-loop-field c = put-room _ _ _ _ _ _ _ c.loop-field.invariant c.loop-field-test.true

pub loop-field-preserved : goal.loop-field-preserved
loop-field-preserved c =
    let w = c.write_number-at-in-loop-field in
    rw (w.ensures.answer, w.ensures.bytes) (put-more _ _ _ _ _ _ _ c.loop-field.invariant c.loop-field-test.true)

pub returns : goal.returns
returns c =
    let l = c.loop-field in
    let w = c.write_number-at in
    let fields = c.args.fields.now in
    let both =
    put_all _ _ _ (length fields) l.field-index l.out l.at l.invariant c.loop-field-test.false c.args.out.now c.args.used c.args.code
    (omega (arith, c.requires, length-append (encode c.args.code) (field_bytes (length fields) (λ j. get_or fields j 0))))
    w.ensures.answer
    w.ensures.bytes in
    record { place = both.0; bytes = both.1 }
