-- `listing::write_field` meets its contract: a space, and the number behind it.
use native.Mathlib.Omega.{arith}
use Rattle.text.specs.Put.{put_then}
use Rattle.listing.specs.Listing.{field_text}
use Rattle.listing.specs.ListingLaws.{field_length}
use Rattle.listing.proofs.write_field.Goals as goal

pub returns : goal.returns
unfolding field_text
returns c =
    put_then (omega (arith, field_length c.args.v))
    c.write_bytes-number.ensures
    (record { place = c.write.ensures.answer; written = c.write.ensures.bytes })
