-- A sheet typed as text: "numbers in decimal, spaces, one record a line, `#` starts a comment". Where a line ends matters only to
-- a comment and to the line number of a word that is no number: so a record may also go over several lines.
use Rattle.std.specs.Prelude.{ℕ, ◌+◌, ◌-◌, ◌*◌, Bool, true, false, List, [], ◌∷◌, ◌++◌, length, Result, Ok, Err}
use Rattle.number.specs.Number.{limit32, encode, splice}
use Rattle.session.specs.Table.{pick}
use Rattle.rules.specs.Formula.{choose, Formula.◌≐◌, Formula.◌≼◌, Formula.◌and◌, Formula.◌or◌}
use Rattle.text.specs.declared.Kind.{Kind}
use Rattle.text.specs.declared.Kind.TheVariants.{Newline, Blank, Hash, Digit, Other}
use Rattle.text.specs.declared.Mode.{Mode}
use Rattle.text.specs.declared.Mode.TheVariants.{Between, Word, Comment, Bad}
use Rattle.text.specs.declared.Untyped.{Untyped}
use Rattle.text.specs.declared.Untyped.TheVariants.{BadLine, NoRoom}

abbrev pub newline : ℕ
newline = 10

-- What a byte is: a newline; a blank, which is a tab, a carriage return or a space; the `#`; a digit; or none of these.
unfoldable pub kind_of : ℕ → Kind
kind_of b =
    choose (b ≐ newline)
    Newline
    (choose (b ≐ 9 or b ≐ 13 or b ≐ 32)
    Blank
    (choose (b ≐ 35) Hash (choose (48 ≼ b and b ≼ 57) (Digit (b - 48)) Other)))

-- Where a reader stands after a byte, by where it stood. A word goes on with each digit while its value is within the limit; any
-- other byte that is no blank, no newline and no `#` makes it bad. A word begins as one that goes on from the value 0.
unfoldable pub longer : ℕ → ℕ → Mode
longer v d = choose (v * 10 + d ≼ limit32) (Word (v * 10 + d)) Bad

unfoldable pub after_word : ℕ → Kind → Mode
after_word v Newline = Between
after_word v Blank = Between
after_word v Hash = Comment
after_word v (Digit d) = longer v d
after_word v Other = Bad

unfoldable pub after_comment : Kind → Mode
after_comment Newline = Between
after_comment Blank = Comment
after_comment Hash = Comment
after_comment (Digit d) = Comment
after_comment Other = Comment

unfoldable pub after : Mode → ℕ → Mode
after Between b = after_word 0 (kind_of b)
after (Word v) b = after_word v (kind_of b)
after Comment b = after_comment (kind_of b)
after Bad b = Bad

unfoldable pub is_bad : Mode → Bool
is_bad Between = false
is_bad (Word v) = false
is_bad Comment = false
is_bad Bad = true

unfoldable pub is_word : Mode → Bool
is_word Between = false
is_word (Word v) = true
is_word Comment = false
is_word Bad = false

-- The value of a word that ended between two modes, if one did: words
-- never touch, so a word goes on exactly if the second mode is a word too.
unfoldable pub ended : Mode → Mode → List ℕ
ended Between m = []
ended (Word v) m = pick (is_word m) [] (v ∷ [])
ended Comment m = []
ended Bad m = []

-- The numbers of a text, in order. The end of the text ends a word as a newline does.
unfoldable pub numbers_from : Mode → List ℕ → List ℕ
numbers_from m [] = ended m Between
numbers_from m (b ∷ bs) = ended m (after m b) ++ numbers_from (after m b) bs

unfoldable pub numbers : List ℕ → List ℕ
numbers text = numbers_from Between text

-- The line of the first bad word, 0 if there is none.
unfoldable pub line_after : ℕ → ℕ → ℕ
line_after line b = choose (b ≐ newline) (line + 1) line

unfoldable pub bad_line_from : Mode → ℕ → List ℕ → ℕ
bad_line_from m line [] = 0
bad_line_from m line (b ∷ bs) = pick (is_bad (after m b)) line (bad_line_from (after m b) (line_after line b) bs)

unfoldable pub bad_line : List ℕ → ℕ
bad_line text = bad_line_from Between 1 text

-- The bytes of numbers, one behind the other: a sheet.
unfoldable pub encode_all : List ℕ → List ℕ
encode_all [] = []
encode_all (v ∷ vs) = encode v ++ encode_all vs

unfoldable pub sheet_of : List ℕ → List ℕ
sheet_of text = encode_all (numbers text)

-- What a text gives, and the memory after it: a sheet is never longer than its text, so that memory as long as the text is
-- room enough.
unfoldable pub given {ℓ} : {A : Type ℓ} → List ℕ → List ℕ → A → (ℕ → A) → A → A
given text out none bad good =
    choose (length text ≼ length out) (choose (bad_line text ≐ 0) good (bad (bad_line text))) none

unfoldable pub answer : List ℕ → List ℕ → Result ℕ Untyped
unfolding given
answer text out = given text out (Err NoRoom) (λ line. Err (BadLine line)) (Ok (length (sheet_of text)))

unfoldable pub memory : List ℕ → List ℕ → List ℕ
unfolding given
memory text out = given text out out (λ line. out) (splice out 0 (sheet_of text))
