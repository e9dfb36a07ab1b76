-- `listing::write_fields` meets its contract: the fields before the next one are put.
use Prim.Native.Nat.{◌+◌, ◌≤◌}
use lib.ListN.{length, get_or}
use Rattle.text.specs.Put.{Put}
use Rattle.listing.specs.Listing.{fields_text}
use Rattle.listing.proofs.write_fields.Given as goal

abbrev pub invariant-loop-v : goal.invariant-loop-v
invariant-loop-v l =
    (l.start + length (fields_text (length l.fields) (λ i. get_or l.fields i 0)) ≤ length l.initial.out)
    × Put l.initial.out l.start (fields_text l.v-index (λ i. get_or l.fields i 0)) l.at l.out
