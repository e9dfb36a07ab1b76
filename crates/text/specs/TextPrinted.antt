-- What the program `text_to_sheet` prints: every byte of it.
use Rattle.std.specs.Prelude.{ℕ, ◌+◌, List, [], ◌∷◌, ◌++◌, length, Result, Ok, Err}
use Rattle.number.specs.Number.{splice}
use Rattle.decimal.specs.Decimal.{decimal}
use Rattle.rules.specs.Formula.{choose, Formula.◌≐◌, Formula.◌≼◌}
use Rattle.text.specs.Text.{newline, bad_line, sheet_of}
use Rattle.rules.specs.declared.refusals.Refusal.{Refusal}
use Rattle.rules.specs.declared.refusals.Refusal.TheVariants.{NoRoom}

-- Bytes to be printed, put at the start of lent memory which has the room asked for, and how many they are. Under check 1, where
-- the memory is too short, refusal 1, and the memory is as it was.
unfoldable pub printed : ℕ → List ℕ → List ℕ → Result ℕ Refusal
printed room bytes out = choose (room ≼ length out) (Ok (length bytes)) (Err NoRoom)

unfoldable pub printed_memory : ℕ → List ℕ → List ℕ → List ℕ
printed_memory room bytes out = choose (room ≼ length out) (splice out 0 bytes) out

-- "line N" and a newline
abbrev pub before_number : List ℕ
before_number = 108 ∷ 105 ∷ 110 ∷ 101 ∷ 32 ∷ []

unfoldable pub line_text : ℕ → List ℕ
line_text line = before_number ++ decimal line ++ newline ∷ []

-- "more than 262144 bytes" and a newline
abbrev pub is_too_long : List ℕ
is_too_long =
    109 ∷ 111 ∷ 114 ∷ 101 ∷ 32 ∷ 116 ∷ 104 ∷ 97 ∷ 110 ∷ 32 ∷ 50 ∷ 54 ∷ 50 ∷ 49 ∷ 52 ∷ 52 ∷ 32 ∷ 98 ∷ 121 ∷ 116 ∷ 101 ∷ 115 ∷ 10 ∷
    []

-- The longest text that is turned into a sheet.
abbrev pub most : ℕ
most = 262144

-- What is printed for a typed text: its sheet, the line of its first bad word, or that it is too long.
unfoldable pub printed_of : List ℕ → List ℕ
printed_of typed =
    choose (length typed ≼ most)
    (choose (bad_line typed ≐ 0) (sheet_of typed) (line_text (bad_line typed)))
    is_too_long

-- The room that is asked for: a sheet is never longer than its text, and "line 262145" and a newline are 12 bytes.
abbrev pub room_for : List ℕ → ℕ
room_for typed = length typed + 16
