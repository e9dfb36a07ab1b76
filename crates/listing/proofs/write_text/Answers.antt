-- `listing::write_text` meets its contract: the refusal of the first number, or the edition's line and the records behind it.
use Prim.Native.Nat.{ℕ, ◌+◌, ◌≤◌, ◌<◌, ◌^◌}
use mathlib.Core.List.{List}
use mathlib.Core.Path.{◌≡◌, ap, sym, ◌∙◌}
use native.Mathlib.Omega.{arith}
use lib.ListN.{length, length-append}
use Rattle.number.specs.Number.{AreBytes}
use Rattle.decimal.specs.Decimal.{decimal}
use Rattle.record.specs.RecordReading.{edition_of, place_told, Behind}
use Rattle.record.specs.Sheet.{head_at, records_from}
use Rattle.text.specs.Put.{put_then}
use Rattle.listing.specs.Listing.{newline, records_text, text_of, room_for}
use Rattle.listing.specs.ListingLaws.{text-refused, text-behind, text-length}
use Rattle.listing.specs.TextLength.{text_short, head_inside}
use Rattle.listing.proofs.write_text.Goals as goal

-- there is room for the whole text, and so for its parts
text_fits : (sheet out : List ℕ) → AreBytes sheet → length sheet < 2 ^ 64 → room_for sheet ≤ length out
    → length (text_of sheet) ≤ length out
text_fits sheet out are size room = omega (arith, text_short sheet are size)

parts_fit : (sheet : List ℕ) (room first : ℕ) → head_at sheet ≡ Behind first
    → length (text_of sheet) ≤ room
    → length (decimal (edition_of sheet)) + 1 + length (records_text 1 (records_from sheet (length sheet) first)) ≤ room
parts_fit sheet room first behind fits = omega (arith, text-length _ _ behind, fits)

pub write_refusal-requires : goal.write_refusal-requires
write_refusal-requires c =
    let fits = text_fits c.args.sheet.now c.args.out.now (λ i. omega (arith, c.type_inv.sheet i)) (omega arith) c.requires in
    let e = text-refused _ _ (sym c.read_head.ensures ∙ ap place_told c.in-Err.is) in
    omega (arith, ap length e)

pub write-end-requires : goal.write-end-requires
write-end-requires c =
    let fits = text_fits c.args.sheet.now c.args.out.now (λ i. omega (arith, c.type_inv.sheet i)) (omega arith) c.requires in
    let behind = sym c.read_head.ensures ∙ ap place_told c.in-Ok.is in
    let parts = parts_fit _ _ _ behind fits in
    rw c.edition_of.ensures (omega (arith, parts))

pub write_bytes-used-requires : goal.write_bytes-used-requires
write_bytes-used-requires c =
    let fits = text_fits c.args.sheet.now c.args.out.now (λ i. omega (arith, c.type_inv.sheet i)) (omega arith) c.requires in
    let behind = sym c.read_head.ensures ∙ ap place_told c.in-Ok.is in
    let parts = parts_fit _ _ _ behind fits in
    let p = rw c.edition_of.ensures at c.write-end.ensures.answer in
    omega (arith, p, parts)

pub write_records-requires : goal.write_records-requires
write_records-requires c =
    let behind = sym c.read_head.ensures ∙ ap place_told c.in-Ok.is in
    let fits = text_fits c.args.sheet.now c.args.out.now (λ i. omega (arith, c.type_inv.sheet i)) (omega arith) c.requires in
    let parts = parts_fit _ _ _ behind fits in
    let p = rw c.edition_of.ensures at c.write-end.ensures.answer in
    record {
      past_head = (head_inside _ _ behind).0;
      room = omega (arith, p, c.write_bytes-used.ensures.place, parts);
    }

pub returns-in-Err : goal.returns-in-Err
returns-in-Err c =
    let w = c.write_refusal.ensures in
    let e = text-refused _ _ (sym c.read_head.ensures ∙ ap place_told c.in-Err.is) in
    rw e w

pub returns-in-Ok : goal.returns-in-Ok
returns-in-Ok c =
    let behind = sym c.read_head.ensures ∙ ap place_told c.in-Ok.is in
    let fits = text_fits c.args.sheet.now c.args.out.now (λ i. omega (arith, c.type_inv.sheet i)) (omega arith) c.requires in
    let parts = parts_fit _ _ _ behind fits in
    let e = c.edition_of.ensures in
    let sheet = c.args.sheet.now in
    rw (text-behind _ _ behind)
    (put_then (omega (arith, length-append (decimal (edition_of sheet)) newline))
    (put_then (omega arith)
    (record { place = rw e at c.write-end.ensures.answer; written = rw e at c.write-end.ensures.bytes })
    c.write_bytes-used.ensures)
    c.write_records.ensures)
