-- `listing::write_line` meets its contract: its five parts, one behind the other.
use mathlib.Core.Path.{◌≡◌, ap}
use native.Mathlib.Omega.{arith}
use lib.ListN.{length}
use Rattle.decimal.specs.Decimal.{decimal}
use Rattle.rules.specs.Step.{arg}
use Rattle.rules.specs.Arity.{field_count, name_of}
use Rattle.listing.specs.Listing.{mark, newline, fields_text, line}
use Rattle.listing.specs.ListingLaws.{put_five, line-length, fields-front}
use Rattle.listing.proofs.write_line.Goals as goal

pub write-first-requires : goal.write-first-requires
write-first-requires c = omega (arith, line-length c.args.op, c.requires.room)

pub write_fields-mark-requires : goal.write_fields-mark-requires
write_fields-mark-requires c =
    let n = c.field_count-n.ensures in
    let e = fields-front c.field_count-n.result c.args.op.fields (omega (arith, n.five)) in
    rw (e, n.count) (omega (arith, line-length c.args.op, c.requires.room, c.write-first.ensures.answer))

pub write_bytes-name-requires : goal.write_bytes-name-requires
write_bytes-name-requires c =
    let n = c.field_count-n.ensures in
    let e = fields-front c.field_count-n.result c.args.op.fields (omega (arith, n.five)) in
    let f = rw (e, n.count) at c.write_fields-mark.ensures.place in
    omega (arith, line-length c.args.op, c.requires.room, c.write-first.ensures.answer, f)

pub write_bytes-end-requires : goal.write_bytes-end-requires
write_bytes-end-requires c =
    let n = c.field_count-n.ensures in
    let op = c.args.op in
    let e = fields-front c.field_count-n.result op.fields (omega (arith, n.five)) in
    let fields = rw (e, n.count) at c.write_fields-mark.ensures in
    let named : c.as_bytes.result.now ≡ name_of op.code = cc in
    omega (arith, line-length op, fields.place, ap length named)

pub write_bytes-requires : goal.write_bytes-requires
write_bytes-requires c =
    let n = c.field_count-n.ensures in
    let op = c.args.op in
    let e = fields-front c.field_count-n.result op.fields (omega (arith, n.five)) in
    let fields = rw (e, n.count) at c.write_fields-mark.ensures in
    let named : c.as_bytes.result.now ≡ name_of op.code = cc in
    omega (arith, line-length op, fields.place, ap length named)

pub returns : goal.returns
unfolding line
returns c =
    let n = c.field_count-n.ensures in
    let op = c.args.op in
    let e = fields-front c.field_count-n.result op.fields (omega (arith, n.five)) in
    let fields = rw (e, n.count) at c.write_fields-mark.ensures in
    let named : c.as_bytes.result.now ≡ name_of op.code = cc in
    put_five (decimal op.code) (fields_text (field_count op.code) (arg op)) mark (name_of op.code) newline
    c.requires.room
    (record { place = c.write-first.ensures.answer; written = c.write-first.ensures.bytes })
    fields
    c.write_bytes-name.ensures
    (rw named at c.write_bytes-end.ensures)
    c.write_bytes.ensures
