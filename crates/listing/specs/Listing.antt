-- A sheet as text, which is read back by the crate `text`: numbers in decimal, a record a line, and what `#` starts is a comment.
use Rattle.std.specs.Prelude.{ℕ, zero, suc, ◌+◌, ◌*◌, List, [], ◌∷◌, ◌++◌, length}
use Rattle.decimal.specs.Decimal.{decimal}
use Rattle.rules.specs.declared.Operation.{Operation}
use Rattle.rules.specs.Formula.{choose, Formula.◌≐◌}
use Rattle.rules.specs.Step.{arg}
use Rattle.rules.specs.Arity.{field_count, name_of}
use Rattle.record.specs.RecordReading.{edition_of, Place, Behind, Refused}
use Rattle.record.specs.Sheet.{Contents, records_from, head_at}

abbrev pub newline : List ℕ
newline = 10 ∷ []

abbrev pub space : List ℕ
space = 32 ∷ []

-- "  # "
abbrev pub mark : List ℕ
mark = 32 ∷ 32 ∷ 35 ∷ 32 ∷ []

-- The first n fields, each behind a space.
unfoldable pub field_text : ℕ → List ℕ
field_text v = space ++ decimal v

unfoldable pub fields_text : ℕ → (ℕ → ℕ) → List ℕ
fields_text zero f = []
fields_text (suc n) f = fields_text n f ++ field_text (f n)

-- The line of a record: its code and its fields, and the operation's name in a comment.
unfoldable pub line : Operation → List ℕ
line op = decimal op.code ++ fields_text (field_count op.code) (arg op) ++ mark ++ name_of op.code ++ newline

unfoldable pub lines : List Operation → List ℕ
lines [] = []
lines (op ∷ ops) = line op ++ lines ops

-- "# record " and ": refusal "
abbrev pub before_record : List ℕ
before_record = 35 ∷ 32 ∷ 114 ∷ 101 ∷ 99 ∷ 111 ∷ 114 ∷ 100 ∷ 32 ∷ []

abbrev pub before_refusal : List ℕ
before_refusal = 58 ∷ 32 ∷ 114 ∷ 101 ∷ 102 ∷ 117 ∷ 115 ∷ 97 ∷ 108 ∷ 32 ∷ []

-- What can not be read: the number of the record begun, as the sheet program numbers it, and of the refusal.
unfoldable pub refusal_line : ℕ → ℕ → List ℕ
refusal_line k refused = before_record ++ decimal k ++ before_refusal ++ decimal refused ++ newline

-- The records that were read, the first of them number k, and the refusal behind them, if there is one.
unfoldable pub records_text : ℕ → Contents → List ℕ
records_text k c = lines c.operations ++ choose (c.refused ≐ 0) [] (refusal_line (k + length c.operations) c.refused)

-- the edition on a line, and the records; or the refusal of the first number
abbrev pub first_line : ℕ → List ℕ
first_line edition = decimal edition ++ newline

unfoldable pub text_from : List ℕ → Place → List ℕ
text_from sheet (Behind first) = first_line (edition_of sheet) ++ records_text 1 (records_from sheet (length sheet) first)
text_from sheet (Refused n) = refusal_line 0 n

unfoldable pub text_of : List ℕ → List ℕ
text_of sheet = text_from sheet (head_at sheet)

-- The room that is asked for: a byte of the sheet is at most 16 of the text, and a refusal at most 64.
abbrev pub room_for : List ℕ → ℕ
room_for sheet = 16 * length sheet + 64
