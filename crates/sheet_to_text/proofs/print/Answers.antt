-- `sheet_to_text::print` writes the text of what it read: its memory is room enough, so that check 1 refuses nothing, and what it writes,
-- `out[..used]`, is all that is to be printed.
use Rattle.std.proofs.Common.{ℕ, ◌+◌, ◌*◌, ◌≡◌, ◌<◌, ◌≤◌, List, arith, sym, subst, length, take, length-take-le}
use Rattle.std.proofs.lemmas.Result.{on_ok_weaker}
use Rattle.std.specs.Prelude.{Option, IfSome}
use Rattle.std.specs.Io.KnownBytes.{Appends, Consumes, IsAtEnd}
use Rattle.streams.specs.Fronts.{of_front}
use Rattle.text.specs.TextPrinted.{printed, printed_memory}
use Rattle.text.specs.PrintedLaws.{Whole, printed-whole}
use Rattle.listing.specs.Listing.{text_of, room_for}
use Rattle.sheet_to_text.proofs.print.Goals as goal

-- what was read has n bytes, and the memory for its text 16 for each of them, and 64 more
whole : (n : ℕ) (memory out out' : List ℕ) (r : _) → n ≤ length memory → length memory ≤ 32768 → length out ≡ 524352
    → r ≡ printed (room_for (take n memory)) (text_of (take n memory)) out
    → out' ≡ printed_memory (room_for (take n memory)) (text_of (take n memory)) out
    → Whole (text_of (take n memory)) r out'
whole n memory out out' r fits long room answer bytes =
    printed-whole (room_for (take n memory)) (text_of (take n memory)) out (omega (arith, length-take-le n memory fits)) r out' answer bytes

-- what was read is the front of the stream
written : (old new before after : Option (List ℕ)) (n : ℕ) (memory bytes : List ℕ) → n ≤ length memory → length memory ≡ 32768
    → Consumes old new (take n memory) → (n < length memory → IsAtEnd new) → bytes ≡ text_of (take n memory)
    → Appends before after bytes → IfSome old (λ input. Appends before after (text_of (take 32768 input)))
written old new before after n memory bytes fits long came ended told w =
    of_front old new (take n memory) 32768 (λ sheet. Appends before after (text_of sheet))
    (λ input. Appends before after (text_of (take 32768 input)))
    (λ input p. p) came
    (omega (arith, length-take-le n memory fits)) (λ h. ended (omega (arith, length-take-le n memory fits)))
    (subst (λ l. Appends before after l) told w)

pub unwrap-used-requires : goal.unwrap-used-requires
unwrap-used-requires g c =
    let read = c.in_ok-n.ensures in
    let call = c.to_text.ensures in
    let all = whole c.in_ok-n.n _ _ _ _ read.in_bounds.0 (omega arith) (omega arith) call.answer call.bytes in
    all.done

pub shared_ref_as_front-write_all : goal.shared_ref_as_front-write_all
shared_ref_as_front-write_all g c =
    let read = c.in_ok-n.ensures in
    let call = c.to_text.ensures in
    let all = whole c.in_ok-n.n _ _ _ _ read.in_bounds.0 (omega arith) (omega arith) call.answer call.bytes in
    omega (arith, all.inside _ c.unwrap-used.ensures)

pub slice_bounds-write_all-end : goal.slice_bounds-write_all-end
slice_bounds-write_all-end g c =
    let read = c.in_ok-n.ensures in
    let call = c.to_text.ensures in
    let all = whole c.in_ok-n.n _ _ _ _ read.in_bounds.0 (omega arith) (omega arith) call.answer call.bytes in
    sym (length-take-le _ _ (all.inside _ c.unwrap-used.ensures))

pub returns : goal.returns
returns g c =
    let read = c.in_ok-n.ensures in
    let call = c.to_text.ensures in
    let all = whole c.in_ok-n.n _ _ _ _ read.in_bounds.0 (omega arith) (omega arith) call.answer call.bytes in
    on_ok_weaker c.write_all.result
    (written _ _ _ _ c.in_ok-n.n c.read_full.new.memory _ read.in_bounds.0 (omega arith) read.came read.ended
    (all.told _ c.unwrap-used.ensures))
    c.write_all.ensures.bytes
