-- `listing::write_refusal` meets its contract: its five parts, one behind the other.
use Rattle.decimal.specs.Decimal.{decimal}
use Rattle.rules.specs.Refusals.{number}
use Rattle.listing.specs.Listing.{before_record, before_refusal, newline, refusal_line}
use Rattle.listing.specs.ListingLaws.{put_five}
use Rattle.listing.proofs.write_refusal.Goals as goal

pub returns : goal.returns
unfolding refusal_line
returns c =
    let a = c.args in
    let end = rw c.from.ensures at c.write-end.ensures in
    put_five before_record (decimal a.k) before_refusal (decimal (number a.refusal)) newline
    c.requires
    c.write_bytes-first.ensures
    (record { place = c.write-middle.ensures.answer; written = c.write-middle.ensures.bytes })
    c.write_bytes-second.ensures
    (record { place = end.answer; written = end.bytes })
    c.write_bytes.ensures
