-- A sheet is never longer than its text: a number takes at most as many bytes as digits.
use Rattle.std.specs.Prelude.{ℕ, zero, suc, ◌+◌, ◌-◌, ◌*◌, ◌/◌, ◌≤◌, ◌<◌, List, [], ◌∷◌, ◌≡◌, length}
use Rattle.std.proofs.Common.{ap, ◌∙◌, arith, length-append}
use Rattle.number.specs.Number.{limit32, encode}
use Rattle.number.specs.Encode.{Groups, groups, encode_one, encode_several}
use Rattle.number.specs.NumberRoundTrip.{length_some}
use Rattle.rules.specs.Formula.{Formula.◌≼◌}
use Rattle.rules.specs.FormulaLaws.{choose_case}
use Rattle.text.specs.Text.{kind_of, longer, after_word, after_comment, after, is_word, ended, numbers_from, numbers, encode_all}
use Rattle.text.specs.Text.{sheet_of}
use Rattle.text.specs.TextLaws.{encode_all_none, encode_all-one, encode_all-append}
use Rattle.text.specs.declared.Kind.{Kind}
use Rattle.text.specs.declared.Kind.TheVariants.{Newline, Blank, Hash, Digit, Other}
use Rattle.text.specs.declared.Mode.{Mode}
use Rattle.text.specs.declared.Mode.TheVariants.{Between, Word, Comment, Bad}

-- a larger value takes no fewer bytes
encode_grows : (n v w : ℕ) → w ≤ n → v ≤ w → length (encode v) ≤ length (encode w)
encode_grows zero v w h l = let e : v ≡ w = omega arith in rw e (omega arith)
encode_grows (suc n) v w h l = go (groups v) (λ k. encode_grows n (v / 128) (w / 128) (omega arith) (omega arith))
  where
    go : Groups v → (128 ≤ v → length (encode (v / 128)) ≤ length (encode (w / 128))) → length (encode v) ≤ length (encode w)
    go (Groups.one k) f = rw (encode_one v k) (length_some w)
    go (Groups.several k) f = rw (encode_several v k, encode_several w (omega arith)) (omega (arith, f k))

-- one digit more is at most one byte more
digit_more : (v d : ℕ) → d < 10 → length (encode (v * 10 + d)) ≤ length (encode v) + 1
digit_more v d h = go (groups (v * 10 + d))
  where
    go : Groups (v * 10 + d) → length (encode (v * 10 + d)) ≤ length (encode v) + 1
    go (Groups.one k) = rw (encode_one (v * 10 + d) k) (omega arith)
    go (Groups.several k) =
        rw (encode_several (v * 10 + d) k) (omega (arith, encode_grows v ((v * 10 + d) / 128) v (omega arith) (omega arith)))

-- The bytes that the digits read so far may take.
abbrev credit : Mode → ℕ
credit Between = 0
credit (Word v) = length (encode v)
credit Comment = 0
credit Bad = 0

-- a digit is below 10
abbrev Small : Kind → Type 0
Small Newline = Unit {0}
Small Blank = Unit {0}
Small Hash = Unit {0}
Small (Digit d) = d < 10
Small Other = Unit {0}

small : (b : ℕ) → Small (kind_of b)
unfolding kind_of
small b =
    choose_case Small _ Newline _ (λ _. tt)
    (λ _. choose_case Small _ Blank _ (λ _. tt)
    (λ _. choose_case Small _ Hash _ (λ _. tt)
    (λ _. choose_case Small _ (Digit (b - 48)) Other (λ h. omega (arith, h.1)) (λ _. tt))))

-- With each byte what ended, and the credit that is left, are covered by the credit before and one byte more.
abbrev Covered : Mode → Mode → Type 0
Covered m then = length (encode_all (ended m then)) + credit then ≤ credit m + 1

word_covered : (v : ℕ) (k : Kind) → Small k → Covered (Word v) (after_word v k)
unfolding after_word ended longer is_word
word_covered v Newline h = rw (encode_all-one v) (omega arith)
word_covered v Blank h = rw (encode_all-one v) (omega arith)
word_covered v Hash h = rw (encode_all-one v) (omega arith)
word_covered v (Digit d) h =
    choose_case (Covered (Word v)) (v * 10 + d ≼ limit32) (Word (v * 10 + d)) Bad
    (λ l. rw encode_all_none (omega (arith, digit_more v d h)))
    (rw (encode_all-one v) (omega arith))
word_covered v Other h = rw (encode_all-one v) (omega arith)

between_covered : (k : Kind) → Small k → Covered Between (after_word 0 k)
unfolding after_word ended longer
between_covered Newline h = rw encode_all_none (omega arith)
between_covered Blank h = rw encode_all_none (omega arith)
between_covered Hash h = rw encode_all_none (omega arith)
between_covered (Digit d) h =
    choose_case (Covered Between) (0 * 10 + d ≼ limit32) (Word (0 * 10 + d)) Bad
    (λ l. rw (encode_all_none, encode_one (0 * 10 + d) (omega arith)) (omega arith))
    (rw encode_all_none (omega arith))
between_covered Other h = rw encode_all_none (omega arith)

comment_covered : (k : Kind) → Covered Comment (after_comment k)
unfolding after_comment ended
comment_covered Newline = rw encode_all_none (omega arith)
comment_covered Blank = rw encode_all_none (omega arith)
comment_covered Hash = rw encode_all_none (omega arith)
comment_covered (Digit d) = rw encode_all_none (omega arith)
comment_covered Other = rw encode_all_none (omega arith)

covered : (m : Mode) (b : ℕ) → Covered m (after m b)
unfolding after ended
covered Between b = between_covered (kind_of b) (small b)
covered (Word v) b = word_covered v (kind_of b) (small b)
covered Comment b = comment_covered (kind_of b)
covered Bad b = rw encode_all_none (omega arith)

end_covered : (m : Mode) → length (encode_all (ended m Between)) ≤ credit m
unfolding ended is_word
end_covered Between = rw encode_all_none (omega arith)
end_covered (Word v) = rw (encode_all-one v) (omega arith)
end_covered Comment = rw encode_all_none (omega arith)
end_covered Bad = rw encode_all_none (omega arith)

from_covered : (m : Mode) (text : List ℕ) → length (encode_all (numbers_from m text)) ≤ credit m + length text
unfolding numbers_from
from_covered m [] = omega (arith, end_covered m)
from_covered m (b ∷ bs) =
    let e : length (encode_all (numbers_from m (b ∷ bs)))
    ≡ length (encode_all (ended m (after m b))) + length (encode_all (numbers_from (after m b) bs)) =
    ap length (encode_all-append (ended m (after m b)) (numbers_from (after m b) bs))
    ∙ length-append (encode_all (ended m (after m b))) _ in
    omega (arith, e, covered m b, from_covered (after m b) bs)

pub sheet_short : (text : List ℕ) → length (sheet_of text) ≤ length text
unfolding sheet_of numbers
sheet_short text = omega (arith, from_covered Between text)
