-- `listing::write_fields` meets its contract: the fields before the next one are put.
use Prim.Native.Nat.{ℕ}
use mathlib.Core.Path.{◌≡◌}
use native.Mathlib.Omega.{arith}
use lib.ListN.{length, get_or}
use Rattle.text.specs.Put.{put_none, put_then}
use Rattle.listing.specs.ListingLaws.{fields_none, fields-more, fields-room}
use Rattle.listing.proofs.write_fields.Goals as goal

pub loop-v-init : goal.loop-v-init
loop-v-init c = (c.requires, rw fields_none (put_none _ _))

pub write_field-at-requires : goal.write_field-at-requires
write_field-at-requires c =
    let fields = c.args.fields.now in
    let l = c.loop-v in
    omega (arith, fields-room (length fields) l.v-index (λ i. get_or fields i 0) (omega arith), l.invariant.1.place)

pub loop-v-preserved : goal.loop-v-preserved
loop-v-preserved c =
    let fields = c.args.fields.now in
    let l = c.loop-v in
    let f : ℕ → ℕ = λ i. get_or fields i 0 in (
      l.invariant.0,
      rw (fields-more l.v-index f)
          (put_then (omega (arith, fields-room (length fields) l.v-index f (omega arith))) l.invariant.1 c.write_field-at.ensures),
    )

pub returns : goal.returns
returns c =
    let l = c.loop-v in
    let e : l.v-index ≡ length c.args.fields.now = omega arith in
    rw e at l.invariant.1
