-- The text of a sheet, of any edition, read as text, gives the sheet's bytes back.
use Rattle.std.specs.Prelude.{ℕ, zero, suc, ◌≤◌, ◌<◌, List, [], ◌∷◌, ◌++◌, ◌≡◌, refl, length, get_or}
use Rattle.std.proofs.Common.{append_assoc, append-nil, ap, sym, subst, ◌∙◌, arith}
use Rattle.number.specs.Number.{AreBytes, encode}
use Rattle.rules.specs.declared.Operation.{Operation}
use Rattle.rules.specs.Formula.{Holds, test, not, Formula.each, Formula.◌≐◌, Formula.◌≼◌}
use Rattle.rules.specs.FormulaLaws.{Case, decide, passed, choose_yes, choose_no, Case.it_does, Case.it_does_not}
use Rattle.rules.specs.Step.{arg, last_code}
use Rattle.record.specs.RecordReading.{Behind, Refused, placed, edition_of, record_at}
use Rattle.rules.specs.Arity.{is_edition, field_count, name_of}
use Rattle.record.specs.Writing.{field_bytes, record_bytes, is_recordable, within}
use Rattle.record.specs.RecordRoundTrip.{record_forward}
use Rattle.record.specs.Sheet.{Contents, stopped, records_from, records_bytes, contents, head_at, head_refusal, first_record}
use Rattle.record.specs.Sheet.{sheet_of as sheet_of_operations}
use Rattle.record.specs.SheetLaws.{AllRecordable, sheet_again, AllRecordable.none, AllRecordable.one}
use Rattle.record.specs.SheetLaws.{followed_on, followed_stop, records_end, records_next, head_none}
use Rattle.text.specs.Text.{ended, numbers, bad_line, encode_all, sheet_of}
use Rattle.text.specs.TextLaws.{encode_all_none, encode_all-one, encode_all-append}
use Rattle.text.specs.TextPrinted.{most, printed_of}
use Rattle.text.specs.PrintedLaws.{printed_sheet}
use Rattle.text.specs.declared.Mode.TheVariants.{Between, Word, Comment}
use Rattle.listing.specs.Listing.{first_line, field_text, fields_text, line, lines, records_text, text_of}
use Rattle.listing.specs.ListingLaws.{text-behind}
use Rattle.text_laws.specs.Reads.{Leads, leads-numbers, leads_good, leads_then, leads-decimal, leads-space, leads-mark}
use Rattle.text_laws.specs.Reads.{leads-newline, leads-end, leads_comment, Leads.stay}

-- The last number of a record, and those before it: a number is known where the next byte behind it is read.
unfoldable pub final : ℕ → ℕ → (ℕ → ℕ) → ℕ
final code zero f = code
final code (suc n) f = f n

unfoldable pub front : ℕ → ℕ → (ℕ → ℕ) → List ℕ
front code zero f = []
front code (suc n) f = front code n f ++ final code n f ∷ []

-- The numbers of an operation: its code, and the fields that its code has. Their bytes are its record.
unfoldable pub numbers_of : Operation → List ℕ
numbers_of op = front op.code (field_count op.code) (arg op) ++ final op.code (field_count op.code) (arg op) ∷ []

front_bytes : (code n : ℕ) (f : ℕ → ℕ) → encode_all (front code n f ++ final code n f ∷ []) ≡ encode code ++ field_bytes n f
unfolding front final field_bytes
front_bytes code zero f = encode_all-one code ∙ sym (append-nil (encode code))
front_bytes code (suc n) f =
    encode_all-append (front code n f ++ final code n f ∷ []) (f n ∷ [])
    ∙ rw (front_bytes code n f, encode_all-one (f n)) (append_assoc (encode code) (field_bytes n f) (encode (f n)))

pub numbers-bytes : (op : Operation) → encode_all (numbers_of op) ≡ record_bytes op
unfolding numbers_of record_bytes
numbers-bytes op = front_bytes op.code (field_count op.code) (arg op)

-- A line is read as the numbers of its record.
leads-fields : (code n : ℕ) (f : ℕ → ℕ) → Holds (within n f)
    → Leads (Word code) (fields_text n f) (front code n f) (Word (final code n f))
unfolding fields_text field_text front final
leads-fields code zero f h = stay
leads-fields code (suc n) f h =
    leads_then
    (leads-fields code n f (λ k l. h k (omega arith)))
    (leads_then (leads-space (final code n f)) (leads-decimal (f n) (h n (omega arith))))

one_line : (code : ℕ) → code ≤ last_code → (i : ℕ) → i < length (name_of code) → get_or (name_of code) i 0 ≡ 10 → ⊥
unfolding test name_of
one_line code l =
    passed (each (suc last_code) (λ c. each (length (name_of c)) (λ i. not (get_or (name_of c) i 0 ≐ 10)))) refl code (omega arith)

leads_name : (code : ℕ) → code ≤ last_code → Leads Comment (name_of code) [] Comment
leads_name code h = leads_comment (name_of code) (one_line code h)

pub leads-line : (edition : ℕ) (op : Operation) → Holds (is_recordable edition op)
    → Leads Between (line op) (numbers_of op) Between
unfolding line numbers_of
leads-line edition op h =
    let n = field_count op.code in
    let code = h.0.0.1 in
    let last = final op.code n (arg op) in
    let read = leads_then (leads-decimal op.code (omega arith)) (leads-fields op.code n (arg op) h.1) in
    let marked = leads_then (leads_then (leads_then read (leads-mark last)) (leads_name op.code code)) leads-end in
    subst (λ (vs : List ℕ). Leads Between (line op) vs Between) (append-nil _ ∙ append-nil _) marked

-- The numbers of a sheet's records.
unfoldable pub all_numbers : List Operation → List ℕ
all_numbers [] = []
all_numbers (op ∷ ops) = numbers_of op ++ all_numbers ops

leads-lines : {edition : ℕ} {ops : List Operation} → AllRecordable edition ops → Leads Between (lines ops) (all_numbers ops) Between
unfolding lines all_numbers
leads-lines none = stay
leads-lines {edition} (one {op} r all) = leads_then (leads-line edition op r) (leads-lines all)

all_bytes : (ops : List Operation) → encode_all (all_numbers ops) ≡ records_bytes ops
unfolding all_numbers records_bytes
all_bytes [] = encode_all_none
all_bytes (op ∷ ops) = encode_all-append (numbers_of op) (all_numbers ops) ∙ rw (numbers-bytes op, all_bytes ops)

-- What reads as records can be written as records.
records_recordable : (sheet : List ℕ) (steps at : ℕ) → AllRecordable (edition_of sheet) (records_from sheet steps at).operations
unfolding records_from
records_recordable sheet zero at = none
records_recordable sheet (suc steps) at =
    go (decide (length sheet ≼ at)) (decide ((record_at sheet at).refused ≐ 0))
    (records_recordable sheet steps (record_at sheet at).next)
  where
    go : Case (length sheet ≼ at)
        → Case ((record_at sheet at).refused ≐ 0)
        → AllRecordable (edition_of sheet) (records_from sheet steps (record_at sheet at).next).operations
        → AllRecordable (edition_of sheet) (records_from sheet (suc steps) at).operations
    go (it_does h) c all = rw (records_end sheet (suc steps) at h) none
    go (it_does_not h) (it_does z) all =
        let next = records_next sheet steps at (omega (arith, h)) in
        rw (next, followed_on (record_at sheet at) (records_from sheet steps (record_at sheet at).next) z)
        (one (record_forward sheet at z).recordable all)
    go (it_does_not h) (it_does_not n) all =
        let next = records_next sheet steps at (omega (arith, h)) in
        rw (next, followed_stop (record_at sheet at) (records_from sheet steps (record_at sheet at).next) n) none

-- A sheet that meets none of the refusals 3 to 6: its text is its edition and a line for each record, ..
lines_alone : (k : ℕ) (c : Contents) → c.refused ≡ 0 → records_text k c ≡ lines c.operations
unfolding records_text
lines_alone k c e =
    ap (λ (t : List ℕ). lines c.operations ++ t) (choose_yes (c.refused ≐ 0) [] _ e) ∙ append-nil (lines c.operations)

head_good : (sheet : List ℕ) → head_refusal sheet ≡ 0 → head_at sheet ≡ Behind (first_record sheet)
unfolding head_at placed
head_good sheet z = choose_yes (head_refusal sheet ≐ 0) (Behind (first_record sheet)) (Refused (head_refusal sheet)) z

contents-read : (sheet : List ℕ) → head_refusal sheet ≡ 0 → contents sheet ≡ records_from sheet (length sheet) (first_record sheet)
unfolding contents
contents-read sheet z = choose_yes (head_refusal sheet ≐ 0) _ (stopped (head_refusal sheet)) z

contents-stopped : (sheet : List ℕ) → (head_refusal sheet ≡ 0 → ⊥) → contents sheet ≡ stopped (head_refusal sheet)
unfolding contents
contents-stopped sheet n = choose_no (head_refusal sheet ≐ 0) _ (stopped (head_refusal sheet)) n

contents_recordable : (sheet : List ℕ) → AllRecordable (edition_of sheet) (contents sheet).operations
contents_recordable sheet = go (decide (head_refusal sheet ≐ 0))
  where
    go : Case (head_refusal sheet ≐ 0) → AllRecordable (edition_of sheet) (contents sheet).operations
    go (it_does z) = rw (contents-read sheet z) (records_recordable sheet (length sheet) (first_record sheet))
    go (it_does_not n) = rw (contents-stopped sheet n) none

head-met : (sheet : List ℕ) → (contents sheet).refused ≡ 0 → head_refusal sheet ≡ 0
head-met sheet e = go (decide (head_refusal sheet ≐ 0))
  where
    go : Case (head_refusal sheet ≐ 0) → head_refusal sheet ≡ 0
    go (it_does z) = z
    go (it_does_not n) = absurd (n (ap (λ (c : Contents). c.refused) (sym (contents-stopped sheet n)) ∙ e))

text_good : (sheet : List ℕ) → (contents sheet).refused ≡ 0
    → text_of sheet ≡ first_line (edition_of sheet) ++ lines (contents sheet).operations
text_good sheet e =
    let z = head-met sheet e in
    let read = contents-read sheet z in
    text-behind sheet (first_record sheet) (head_good sheet z)
    ∙ ap (λ (t : List ℕ). first_line (edition_of sheet) ++ t)
    (lines_alone 1 (records_from sheet (length sheet) (first_record sheet)) (ap (λ (c : Contents). c.refused) (sym read) ∙ e))
    ∙ ap (λ (c : Contents). first_line (edition_of sheet) ++ lines c.operations) (sym read)

-- .. and read as text it has no bad line and gives the sheet's bytes back.
pub record Again (sheet : List ℕ) : Type 0 where
  pub good : bad_line (text_of sheet) ≡ 0
  pub same : sheet_of (text_of sheet) ≡ sheet

leads-first : (edition : ℕ) → Holds (is_edition edition) → Leads Between (first_line edition) (edition ∷ []) Between
leads-first edition h = leads_then (leads-decimal edition (omega (arith, h.1))) (leads-newline edition)

pub text_again : (sheet : List ℕ) → AreBytes sheet → (contents sheet).refused ≡ 0 → Again sheet
unfolding bad_line sheet_of numbers ended sheet_of_operations encode_all
text_again sheet are e =
    let ops = (contents sheet).operations in
    let edition = edition_of sheet in
    let text = text_good sheet e in
    let read : Leads Between (first_line edition ++ lines ops) (edition ∷ all_numbers ops) Between =
    leads_then (leads-first edition (head_none sheet (head-met sheet e)).1) (leads-lines (contents_recordable sheet)) in
    record {
      good = ap bad_line text ∙ leads_good 1 read;
      same = ap sheet_of text
          ∙ ap encode_all (leads-numbers read ∙ append-nil (edition ∷ all_numbers ops))
          ∙ ap (λ (bs : List ℕ). encode edition ++ bs) (all_bytes ops)
          ∙ sheet_again sheet are e;
    }

-- What `sheet_to_text` prints of such a sheet, typed again and not too long, makes `text_to_sheet` print the sheet.
pub printed_again : (sheet : List ℕ)
    → AreBytes sheet
    → (contents sheet).refused ≡ 0
    → length (text_of sheet) ≤ most
    → printed_of (text_of sheet) ≡ sheet
printed_again sheet are e h = let again = text_again sheet are e in printed_sheet (text_of sheet) h again.good ∙ again.same
