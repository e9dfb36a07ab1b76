-- `listing::write_records` meets its contract: the text of the records that are left, put from the used length on, gives what the
-- text of all gives.
use mathlib.Core.Path.{refl, ap, sym, ◌∙◌}
use native.Mathlib.Omega.{arith}
use lib.ListN.{length}
use Rattle.number.specs.Number.{splice}
use Rattle.number.specs.Splice.{splice_none, splice_then}
use Rattle.listing.specs.ListingLaws.{forward, left-start, left_end, left-refused, left-read, left-length}
use Rattle.record.specs.RecordReading.{record_told}
use Rattle.rules.specs.Refusals.{number_some}
use Rattle.listing.proofs.write_records.Goals as goal

pub loop-at-init : goal.loop-at-init
loop-at-init c =
    let a = c.args in
    (c.requires.past_head, refl, rw (left-start a.sheet.now a.first) c.requires.room, refl, refl)

pub write_refusal-requires : goal.write_refusal-requires
write_refusal-requires c =
    let read = rw c.edition_of-edition.ensures at c.read_record.ensures in
    let says = ap record_told (sym c.in-Err.is) ∙ read in
    let l = c.loop-at in
    let a = c.args in
    let e = left-refused a.sheet.now l.k l.at (omega arith) l.invariant.0 _ says (number_some _) in
    omega (arith, ap length e)

pub returns-in-Err : goal.returns-in-Err
returns-in-Err c =
    let w = c.write_refusal.ensures in
    let read = rw c.edition_of-edition.ensures at c.read_record.ensures in
    let says = ap record_told (sym c.in-Err.is) ∙ read in
    let l = c.loop-at in
    let a = c.args in
    let e = left-refused a.sheet.now l.k l.at (omega arith) l.invariant.0 _ says (number_some _) in
    rw (← left-start a.sheet.now a.first)
    (record {
      place = omega (arith, w.place, ap length e);
      written = w.written ∙ ap (splice l.out l.used) (sym e) ∙ l.invariant.4;
    })

pub write_line-used-requires : goal.write_line-used-requires
write_line-used-requires c =
    let read = rw c.edition_of-edition.ensures at c.read_record.ensures in
    let says = ap record_told (sym c.in-Ok.is) ∙ read in
    let l = c.loop-at in
    let sheet = c.args.sheet.now in
    let f = forward sheet l.k l.at (omega arith) l.invariant.0 _ says refl in
    let n = left-length sheet l.k l.at (omega arith) l.invariant.0 _ says refl in
    record { known = f.recordable.0.0; room = omega arith }

pub loop-at-smaller : goal.loop-at-smaller
loop-at-smaller c =
    let read = rw c.edition_of-edition.ensures at c.read_record.ensures in
    let says = ap record_told (sym c.in-Ok.is) ∙ read in
    let l = c.loop-at in
    let sheet = c.args.sheet.now in
    omega (arith, (forward sheet l.k l.at (omega arith) l.invariant.0 _ says refl).onward)

pub loop-at-preserved : goal.loop-at-preserved
loop-at-preserved c =
    let w = c.write_line-used.ensures in
    let read = rw c.edition_of-edition.ensures at c.read_record.ensures in
    let says = ap record_told (sym c.in-Ok.is) ∙ read in
    let l = c.loop-at in
    let sheet = c.args.sheet.now in
    let f = forward sheet l.k l.at (omega arith) l.invariant.0 _ says refl in
    let n = left-length sheet l.k l.at (omega arith) l.invariant.0 _ says refl in
    let e = left-read sheet l.k l.at (omega arith) l.invariant.0 _ says refl in (
      omega (arith, f.onward),
      c.write_line-used.auto.out ∙ l.invariant.1,
      l.invariant.2,
      omega (arith, w.place),
      rw (w.written, w.place) (splice_then l.out l.used _ _ (omega arith)) ∙ ap (splice l.out l.used) (sym e)
          ∙ l.invariant.4,
    )

pub returns : goal.returns
returns c =
    let l = c.loop-at in
    let a = c.args in
    let e = left_end a.sheet.now l.k l.at c.loop-at-test.false in
    rw (← left-start a.sheet.now a.first)
    (record {
      place = omega (arith, ap length e);
      written = sym (splice_none l.out l.used) ∙ ap (splice l.out l.used) (sym e) ∙ l.invariant.4;
    })
