-- What can be told of printed lines from their bytes alone: their lines and words, and which of them have a refusal.
use Rattle.std.specs.Prelude.{ℕ, List, [], ◌∷◌, length, get_or}
use Rattle.lines.specs.Line.{space, newline}
use Rattle.rules.specs.Formula.{Formula, choose, not, Formula.◌≐◌, Formula.◌and◌}
use Rattle.sheet_counts.specs.Answers.{how_many}

-- The pieces of a text between the bytes that are a mark: one more than there are marks.
unfoldable pub on_first : ℕ → List (List ℕ) → List (List ℕ)
on_first b [] = (b ∷ []) ∷ []
on_first b (p ∷ more) = (b ∷ p) ∷ more

unfoldable pub pieces : ℕ → List ℕ → List (List ℕ)
pieces mark [] = [] ∷ []
pieces mark (b ∷ bytes) = choose (b ≐ mark) ([] ∷ pieces mark bytes) (on_first b (pieces mark bytes))

-- how many newlines a text has
abbrev pub newlines : List ℕ → ℕ
newlines text = how_many (λ b. b ≐ newline) text

-- the word `0`
abbrev pub word_of_zero : List ℕ
word_of_zero = 48 ∷ []

abbrev pub is_zero_word : List ℕ → Formula
is_zero_word w = length w ≐ 1 and get_or w 0 0 ≐ 48

-- A line has a refusal if it has a second word and that is not `0`.
abbrev pub has_refusal : List ℕ → Formula
has_refusal l = not (is_zero_word (get_or (pieces space l) 1 word_of_zero))

-- how many lines of a text have a refusal
unfoldable pub refused_lines : List ℕ → ℕ
refused_lines text = how_many has_refusal (pieces newline text)
