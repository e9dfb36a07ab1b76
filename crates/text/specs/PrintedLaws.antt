-- What is printed has room, and lies whole in the memory that was lent for it.
use Rattle.std.specs.Prelude.{ℕ, suc, ◌+◌, ◌≤◌, ◌<◌, Bool, true, false, List, [], ◌∷◌, ◌≡◌, refl, take, Result, Ok, Err, IsOk}
use Rattle.std.proofs.Common.{ap, sym, ◌∙◌, arith, zero-add}
use Rattle.std.proofs.Math.ListN.{length, drop, length-append}
use Rattle.std.proofs.Math.Seq.{take_at}
use Rattle.number.specs.Number.{splice}
use Rattle.decimal.specs.Decimal.{decimal}
use Rattle.lines.specs.LineLaws.{digits_bound}
use Rattle.session.specs.Table.{pick}
use Rattle.rules.specs.Formula.{Formula.◌≐◌, Formula.◌≼◌}
use Rattle.rules.specs.FormulaLaws.{choose_yes, choose_no, choose_case}
use Rattle.text.specs.Text.{after, is_bad, line_after, bad_line_from, bad_line, sheet_of}
use Rattle.text.specs.SheetLength.{sheet_short}
use Rattle.text.specs.Put.{Put}
use Rattle.text.specs.TextPrinted.{printed, printed_memory, line_text, is_too_long, most, printed_of, room_for}
use Rattle.text.specs.declared.Mode.{Mode}
use Rattle.text.specs.declared.Mode.TheVariants.{Between}
use Rattle.rules.specs.declared.refusals.Refusal.{Refusal}
use Rattle.rules.specs.declared.refusals.Refusal.TheVariants.{NoRoom}

-- Nothing was refused, and all that is to be printed stands in the memory.
pub record Whole (bytes : List ℕ) (r : Result ℕ Refusal) (after : List ℕ) : Type 0 where
  pub done : IsOk r
  pub inside : (used : ℕ) → r ≡ Ok used → used ≤ length after
  pub told : (used : ℕ) → r ≡ Ok used → take used after ≡ bytes

module _ (room : ℕ) (bytes out : List ℕ) where
  module _ (short : length out < room) where
    pub none_printed : printed room bytes out ≡ Err NoRoom
    unfolding printed
    none_printed = choose_no (room ≼ length out) _ _ (λ l. omega arith)

    pub none_memory : printed_memory room bytes out ≡ out
    unfolding printed_memory
    none_memory = choose_no (room ≼ length out) _ _ (λ l. omega arith)

  module _ (enough : room ≤ length out) where
    pub all_printed : printed room bytes out ≡ Ok (length bytes)
    unfolding printed
    all_printed = choose_yes (room ≼ length out) _ _ enough

    pub all_memory : printed_memory room bytes out ≡ splice out 0 bytes
    unfolding printed_memory
    all_memory = choose_yes (room ≼ length out) _ _ enough

    pub printed-put : (next : ℕ) (after : List ℕ) → Put out 0 bytes next after
        → (◌≡◌ {A = Result ℕ Refusal} (Ok next) (printed room bytes out))
        × (after ≡ printed_memory room bytes out)
    printed-put next after p =
        (ap Ok (p.place ∙ zero-add _) ∙ sym all_printed, p.written ∙ sym all_memory)

    pub printed-whole : (r : Result ℕ Refusal) (after : List ℕ)
        → r ≡ printed room bytes out
        → after ≡ printed_memory room bytes out
        → Whole bytes r after
    unfolding splice
    printed-whole r after e m =
        let rest = drop (0 + length bytes) out in
        rw (e ∙ all_printed, m ∙ all_memory)
        (record {
          done = refl;
          inside = λ used u. let n : used ≡ length bytes = cc in omega (arith, length-append bytes rest);
          told = λ used u. let n : length bytes ≡ used = cc in take_at bytes rest used n;
        })

pub ruleset all_or_none = (none_printed, none_memory, all_printed, all_memory)

-- The line of a word is at most one more than the bytes before it.
line-most : (m : Mode) (line : ℕ) (text : List ℕ) → bad_line_from m line text ≤ line + length text
unfolding bad_line_from line_after
line-most m line [] = omega arith
line-most m line (b ∷ bs) = go (is_bad (after m b)) (line-most (after m b) (line_after line b) bs)
  where
    go : (x : Bool)
        → bad_line_from (after m b) (line_after line b) bs ≤ line_after line b + length bs
        → pick x line (bad_line_from (after m b) (line_after line b) bs) ≤ line + suc (length bs)
    go true h = omega arith
    go false h =
        let one : line_after line b ≤ line + 1 =
        choose_case (λ n. n ≤ line + 1) (b ≐ 10) (line + 1) line (λ _. omega arith) (λ _. omega arith) in
        omega arith

pub line-length : (line : ℕ) → length (line_text line) ≡ 5 + length (decimal line) + 1
unfolding line_text
line-length line = simp length-append

line_short : (typed : List ℕ) → length typed ≤ most → length (line_text (bad_line typed)) ≤ 12
unfolding bad_line
line_short typed h =
    let small = line-most Between 1 typed in
    omega (arith, line-length (bad_line typed), digits_bound 5 (bad_line typed) (omega arith))

-- What is printed for a typed text has the room that is asked for.
pub printed_short : (typed : List ℕ) → length (printed_of typed) ≤ room_for typed
unfolding printed_of
printed_short typed =
    choose_case (λ bytes. length bytes ≤ room_for typed) (length typed ≼ most) _ is_too_long
    (λ h. choose_case (λ bytes. length bytes ≤ room_for typed) (bad_line typed ≐ 0) (sheet_of typed) (line_text (bad_line typed))
    (λ _. omega (arith, sheet_short typed))
    (λ _. omega (arith, line_short typed h)))
    (λ long. omega (arith, long))

-- What is printed, case by case.
module _ (typed : List ℕ) where
  pub printed_long : most < length typed → printed_of typed ≡ is_too_long
  unfolding printed_of
  printed_long long = choose_no (length typed ≼ most) _ _ (λ l. omega arith)

  module _ (short : length typed ≤ most) where
    pub printed_sheet : bad_line typed ≡ 0 → printed_of typed ≡ sheet_of typed
    unfolding printed_of
    printed_sheet e = choose_yes (length typed ≼ most) _ _ short ∙ choose_yes (bad_line typed ≐ 0) _ _ e

    pub printed-line : 0 < bad_line typed → printed_of typed ≡ line_text (bad_line typed)
    unfolding printed_of
    printed-line h = choose_yes (length typed ≼ most) _ _ short ∙ choose_no (bad_line typed ≐ 0) _ _ (λ e. omega arith)
