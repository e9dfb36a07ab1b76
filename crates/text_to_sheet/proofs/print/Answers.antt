-- `text_to_sheet::print` writes what is printed for what it read: its memory is room enough, so that check 1 refuses nothing, and what it
-- writes, `out[..used]`, is all that is to be printed.
use Rattle.std.proofs.Common.{ℕ, ◌+◌, ◌≡◌, ◌<◌, ◌≤◌, ◌⊎◌, inl, inr, List, arith, ap, sym, subst, ◌∙◌, length, take, take_all, length-take-le}
use Rattle.std.proofs.lemmas.Bool.{cases_lt}
use Rattle.std.proofs.lemmas.Result.{on_ok_weaker}
use Rattle.std.specs.Prelude.{Option, IfSome}
use Rattle.std.specs.Io.KnownBytes.{Appends, Consumes, IsAtEnd}
use Rattle.streams.specs.Fronts.{of_front}
use Rattle.text.specs.TextPrinted.{most, printed, printed_memory, printed_of, room_for}
use Rattle.text.specs.PrintedLaws.{Whole, printed-whole, printed_long}
use Rattle.text_to_sheet.proofs.print.Goals as goal

-- a text that is too long shows in the bytes that are read
printed_front : (typed : List ℕ) → printed_of (take 262145 typed) ≡ printed_of typed
printed_front typed = go (cases_lt most (length typed))
  where
    go : (most < length typed) ⊎ (length typed ≤ most) → printed_of (take 262145 typed) ≡ printed_of typed
    go (inl h) = printed_long (take 262145 typed) (omega (arith, length-take-le 262145 typed (omega arith))) ∙ sym (printed_long typed h)
    go (inr h) = ap printed_of (take_all 262145 typed (omega arith))

-- what was read has n bytes, and the memory for what is printed 16 more
whole : (n : ℕ) (memory out out' : List ℕ) (r : _) → n ≤ length memory → length memory ≤ 262145 → length out ≡ 262161
    → r ≡ printed (room_for (take n memory)) (printed_of (take n memory)) out
    → out' ≡ printed_memory (room_for (take n memory)) (printed_of (take n memory)) out
    → Whole (printed_of (take n memory)) r out'
whole n memory out out' r fits long room answer bytes =
    printed-whole (room_for (take n memory)) (printed_of (take n memory)) out (omega (arith, length-take-le n memory fits)) r out'
    answer bytes

-- what was read is the front of what was typed
written : (old new before after : Option (List ℕ)) (n : ℕ) (memory bytes : List ℕ) → n ≤ length memory → length memory ≡ 262145
    → Consumes old new (take n memory) → (n < length memory → IsAtEnd new) → bytes ≡ printed_of (take n memory)
    → Appends before after bytes → IfSome old (λ typed. Appends before after (printed_of typed))
written old new before after n memory bytes fits long came ended told w =
    of_front old new (take n memory) 262145 (λ typed. Appends before after (printed_of typed))
    (λ typed. Appends before after (printed_of typed))
    (λ typed p. subst (λ l. Appends before after l) (printed_front typed) p) came
    (omega (arith, length-take-le n memory fits)) (λ h. ended (omega (arith, length-take-le n memory fits)))
    (subst (λ l. Appends before after l) told w)

pub unwrap-used-requires : goal.unwrap-used-requires
unwrap-used-requires g c =
    let read = c.in_ok-n.ensures in
    let call = c.put_printed.ensures in
    let all = whole c.in_ok-n.n _ _ _ _ read.in_bounds.0 (omega arith) (omega arith) call.answer call.bytes in
    all.done

pub shared_ref_as_front-write_all : goal.shared_ref_as_front-write_all
shared_ref_as_front-write_all g c =
    let read = c.in_ok-n.ensures in
    let call = c.put_printed.ensures in
    let all = whole c.in_ok-n.n _ _ _ _ read.in_bounds.0 (omega arith) (omega arith) call.answer call.bytes in
    omega (arith, all.inside _ c.unwrap-used.ensures)

pub slice_bounds-write_all-end : goal.slice_bounds-write_all-end
slice_bounds-write_all-end g c =
    let read = c.in_ok-n.ensures in
    let call = c.put_printed.ensures in
    let all = whole c.in_ok-n.n _ _ _ _ read.in_bounds.0 (omega arith) (omega arith) call.answer call.bytes in
    sym (length-take-le _ _ (all.inside _ c.unwrap-used.ensures))

pub returns : goal.returns
returns g c =
    let read = c.in_ok-n.ensures in
    let call = c.put_printed.ensures in
    let all = whole c.in_ok-n.n _ _ _ _ read.in_bounds.0 (omega arith) (omega arith) call.answer call.bytes in
    on_ok_weaker c.write_all.result
    (written _ _ _ _ c.in_ok-n.n c.read_full.new.memory _ read.in_bounds.0 (omega arith) read.came read.ended
    (all.told _ c.unwrap-used.ensures))
    c.write_all.ensures.bytes
