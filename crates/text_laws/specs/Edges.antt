-- Texts, computed: what is typed stands in the comment before its bytes.
use Rattle.std.specs.Prelude.{[], ◌∷◌, ◌≡◌, refl}
use Rattle.number.specs.Number.{read_at, read_first, judged, shortest, last_byte, value, more, refusal_of, value_of}
use Rattle.decimal.specs.Decimal.{decimal, decimal_in}
use Rattle.rules.specs.Formula.{test}
use Rattle.rules.specs.Checks.{refusal}
use Rattle.rules.specs.Step.{rules}
use Rattle.rules.specs.Arity.{name_of}
use Rattle.record.specs.RecordReading.{behind, place, five, answered, placed, record_in}
use Rattle.record.specs.Sheet.{head_at, records_from}
use Rattle.text.specs.Text.{kind_of, longer, after_word, after_comment, after, is_bad, is_word, ended, numbers_from, numbers, line_after}
use Rattle.text.specs.Text.{bad_line_from, bad_line}
use Rattle.listing.specs.Listing.{field_text, fields_text, line, lines, refusal_line, records_text, text_from, text_of}

-- The limit is a number, and one more is bad.
-- "4294967295", "4294967295", "4294967296"
pub at_limit : (numbers (52 ∷ 50 ∷ 57 ∷ 52 ∷ 57 ∷ 54 ∷ 55 ∷ 50 ∷ 57 ∷ 53 ∷ []) ≡ 4294967295 ∷ [])
    × (bad_line (52 ∷ 50 ∷ 57 ∷ 52 ∷ 57 ∷ 54 ∷ 55 ∷ 50 ∷ 57 ∷ 53 ∷ []) ≡ 0)
    × (bad_line (52 ∷ 50 ∷ 57 ∷ 52 ∷ 57 ∷ 54 ∷ 55 ∷ 50 ∷ 57 ∷ 54 ∷ []) ≡ 1)
unfolding numbers numbers_from bad_line bad_line_from after after_word after_comment kind_of longer test is_bad is_word ended line_after
at_limit = (refl, refl, refl)

-- Blanks, leading zeros, a comment that touches a word, and a word at the end of the text.
-- " 10\t007\r\n2#9 9\n3"
pub blanks : (numbers (32 ∷ 49 ∷ 48 ∷ 9 ∷ 48 ∷ 48 ∷ 55 ∷ 13 ∷ 10 ∷ 50 ∷ 35 ∷ 57 ∷ 32 ∷ 57 ∷ 10 ∷ 51 ∷ []) ≡ 10 ∷ 7 ∷ 2 ∷ 3 ∷ [])
unfolding numbers numbers_from bad_line bad_line_from after after_word after_comment kind_of longer test is_bad is_word ended line_after
blanks = refl

-- The line of the first bad word: a sign, a letter in a number, and none behind a `#`.
-- "-1", "1\n\n2x", "1 # x\n2"
pub bad_lines : (bad_line (45 ∷ 49 ∷ []) ≡ 1)
    × (bad_line (49 ∷ 10 ∷ 10 ∷ 50 ∷ 120 ∷ []) ≡ 3)
    × (bad_line (49 ∷ 32 ∷ 35 ∷ 32 ∷ 120 ∷ 10 ∷ 50 ∷ []) ≡ 0)
unfolding numbers numbers_from bad_line bad_line_from after after_word after_comment kind_of longer test is_bad is_word ended line_after
bad_lines = (refl, refl, refl)

-- No number at all.
-- "", "# 5"
pub empty : (numbers ([]) ≡ [])
    × (bad_line (35 ∷ 32 ∷ 53 ∷ []) ≡ 0)
unfolding numbers numbers_from bad_line bad_line_from after after_word after_comment kind_of longer test is_bad is_word ended line_after
empty = (refl, refl)

-- The text of a sheet with operation 13, in edition 2 and in edition 1.
-- "2\n13 2 3  # counted\n", "1\n# record 1: refusal 6\n"
pub editions : (
    text_of (2 ∷ 13 ∷ 2 ∷ 3 ∷ [])
    ≡ 50 ∷ 10 ∷ 49 ∷ 51 ∷ 32 ∷ 50 ∷ 32 ∷ 51 ∷ 32 ∷ 32 ∷ 35 ∷ 32 ∷ 99 ∷ 111 ∷ 117 ∷ 110 ∷ 116 ∷ 101 ∷ 100 ∷ 10 ∷ [])
    × (text_of (1 ∷ 13 ∷ 2 ∷ 3 ∷ [])
    ≡ 49 ∷ 10 ∷ 35 ∷ 32 ∷ 114 ∷ 101 ∷ 99 ∷ 111 ∷ 114 ∷ 100 ∷ 32 ∷ 49 ∷ 58 ∷ 32 ∷ 114 ∷ 101 ∷ 102 ∷ 117 ∷ 115 ∷ 97 ∷ 108 ∷ 32
    ∷ 54 ∷ 10 ∷ [])
unfolding text_of text_from records_text lines line refusal_line fields_text field_text decimal decimal_in name_of head_at placed records_from
    record_in answered refusal test five place refusal_of value_of behind read_at read_first judged shortest last_byte value more rules
editions = (refl, refl)
