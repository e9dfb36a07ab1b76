-- How the text of a sheet is put together, and how long it is.
use Prim.Native.Nat.{ℕ, zero, suc, ◌+◌, ◌-◌, ◌≤◌, ◌<◌}
use mathlib.Core.List.{List, [], ◌++◌, append_assoc}
use Rattle.std.specs.Prelude.{◌≡◌}
use Rattle.std.proofs.Math.Path.{refl, ap}
use Rattle.std.proofs.Common.{sym, ◌∙◌, add-one, length-append}
use native.Mathlib.Omega.{arith}
use Rattle.std.proofs.Math.ListN.{length, get_or, take}
use Rattle.std.proofs.lemmas.List.{get_or-take, length-take-le}
use Rattle.decimal.specs.Decimal.{decimal}
use Rattle.rules.specs.declared.Operation.{Operation}
use Rattle.rules.specs.Formula.{test, Formula.◌≐◌, Formula.◌≼◌}
use Rattle.rules.specs.FormulaLaws.{Case, decide, choose_yes, choose_no, Case.it_does, Case.it_does_not}
use Rattle.rules.specs.Step.{arg}
use Rattle.record.specs.RecordReading.{Record, edition_of, record_at, Behind, Refused}
use Rattle.rules.specs.Arity.{field_count, name_of}
use Rattle.record.specs.RecordRoundTrip.{Forward, record_forward}
use Rattle.record.specs.Sheet.{followed, records_from, head_at}
use Rattle.record.specs.SheetLaws.{followed_on, followed_stop}
use Rattle.text.specs.Put.{Put, put_then}
use Rattle.listing.specs.Listing.{first_line, field_text, fields_text, line, lines, refusal_line, records_text}
use Rattle.listing.specs.Listing.{text_from, text_of}

-- five parts, one behind the other
pub put_five : (a b c d e : List ℕ) {out o₁ o₂ o₃ o₄ o₅ : List ℕ} {at n₁ n₂ n₃ n₄ n₅ : ℕ}
    → at + length (a ++ b ++ c ++ d ++ e) ≤ length out
    → Put out at a n₁ o₁
    → Put o₁ n₁ b n₂ o₂
    → Put o₂ n₂ c n₃ o₃
    → Put o₃ n₃ d n₄ o₄
    → Put o₄ n₄ e n₅ o₅
    → Put out at (a ++ b ++ c ++ d ++ e) n₅ o₅
put_five a b c d e {out} {at = at} h p q r s t =
    let n₄ : length (a ++ b ++ c ++ d ++ e) ≡ length (a ++ b ++ c ++ d) + length e = length-append (a ++ b ++ c ++ d) e in
    let n₃ : length (a ++ b ++ c ++ d) ≡ length (a ++ b ++ c) + length d = length-append (a ++ b ++ c) d in
    let n₂ : length (a ++ b ++ c) ≡ length (a ++ b) + length c = length-append (a ++ b) c in
    let n₁ : length (a ++ b) ≡ length a + length b = length-append a b in
    put_then (omega arith) (put_then (omega arith) (put_then (omega arith) (put_then (omega arith) p q) r) s) t

-- The parts of a line.
pub line-length : (op : Operation)
    → length (line op)
    ≡ length (decimal op.code) + length (fields_text (field_count op.code) (arg op)) + 4 + length (name_of op.code) + 1
unfolding line
line-length op = simp length-append

pub refusal-length : (k refused : ℕ) → length (refusal_line k refused) ≡ 9 + length (decimal k) + 10 + length (decimal refused) + 1
unfolding refusal_line
refusal-length k refused = simp length-append

pub field_length : (v : ℕ) → length (field_text v) ≡ 1 + length (decimal v)
unfolding field_text
field_length v = simp length-append

pub ruleset lengths = (refusal-length, field_length)

pub fields_none : (f : ℕ → ℕ) → fields_text 0 f ≡ []
unfolding fields_text
fields_none f = refl

pub fields-more : (n : ℕ) (f : ℕ → ℕ) → fields_text (n + 1) f ≡ fields_text n f ++ field_text (f n)
unfolding fields_text
fields-more n f = rw add-one

-- a field's text is within that of all the fields
pub fields-room : (n k : ℕ) (f : ℕ → ℕ) → k < n → length (fields_text k f) + length (field_text (f k)) ≤ length (fields_text n f)
unfolding fields_text
fields-room zero k f h = absurd (no h)
  where
    no : k < 0 → ⊥
    no h = omega arith
fields-room (suc n) k f h = go (decide (k ≐ n)) (λ l. fields-room n k f l)
  where
    go : Case (k ≐ n)
        → (k < n → length (fields_text k f) + length (field_text (f k)) ≤ length (fields_text n f))
        → length (fields_text k f) + length (field_text (f k)) ≤ length (fields_text n f ++ field_text (f n))
    go (it_does e) before = rw (e, length-append) (omega arith)
    go (it_does_not u) before = rw length-append (omega (arith, before (omega (arith, u))))

-- the first of some fields are told by their part alone
fields_same : (n : ℕ) (f g : ℕ → ℕ) → ((k : ℕ) → k < n → f k ≡ g k) → fields_text n f ≡ fields_text n g
unfolding fields_text
fields_same zero f g same = refl
fields_same (suc n) f g same =
    rw (fields_same n f g (λ k l. same k (omega arith)), same n (omega arith)) refl

pub fields-front : (n : ℕ) (fields : List ℕ) → n ≤ length fields
    → fields_text (length (take n fields)) (λ k. get_or (take n fields) k 0) ≡ fields_text n (λ k. get_or fields k 0)
fields-front n fields h =
    rw (length-take-le n fields h) (fields_same n _ _ (λ k l. get_or-take n fields k 0 l))

-- The text of the records that are left from a place on, the next of them number k. As each takes a byte at least, the sheet's
-- length less the records before it are steps enough.
unfoldable pub left : List ℕ → ℕ → ℕ → List ℕ
left sheet k at = records_text k (records_from sheet (length sheet + 1 - k) at)

module _ (sheet : List ℕ) where
  pub left-start : (first : ℕ) → left sheet 1 first ≡ records_text 1 (records_from sheet (length sheet) first)
  unfolding left
  left-start first = ap (λ (n : ℕ). records_text 1 (records_from sheet n first)) (omega arith)

  records_end : (k steps at : ℕ) → length sheet ≤ at → records_text k (records_from sheet steps at) ≡ []
  unfolding records_from records_text lines test
  records_end k zero at h = refl
  records_end k (suc steps) at h = ap (records_text k) (choose_yes (length sheet ≼ at) _ _ h)

  pub left_end : (k at : ℕ) → length sheet ≤ at → left sheet k at ≡ []
  unfolding left
  left_end k at h = records_end k (length sheet + 1 - k) at h

  module _ (k at : ℕ) (h : at < length sheet) (l : k ≤ at) (r : Record) (e : r ≡ record_at sheet at) where
    rest : ℕ
    rest = length sheet - k

    -- what reading this record gives
    here : left sheet k at ≡ records_text k (followed r (records_from sheet rest r.next))
    unfolding left records_from rest
    here =
        let steps : length sheet + 1 - k ≡ suc (length sheet - k) = omega arith in
        ap (λ (n : ℕ). records_text k (records_from sheet n at)) steps
        ∙ ap (records_text k) (choose_no (length sheet ≼ at) _ _ (λ u. omega arith))
        ∙ rw e

    pub forward : r.refused ≡ 0 → Forward (edition_of sheet) sheet at r.operation r.next
    forward z = let w = record_forward sheet at (ap (λ (x : Record). x.refused) (sym e) ∙ z) in rw e w

    pub left-refused : 0 < r.refused → left sheet k at ≡ refusal_line k r.refused
    unfolding records_text lines
    left-refused p =
        here
        ∙ ap (records_text k) (followed_stop r (records_from sheet rest r.next) (λ z. omega arith))
        ∙ choose_no (r.refused ≐ 0) [] (refusal_line (k + 0) r.refused) (λ z. omega arith)
        ∙ ap (λ (n : ℕ). refusal_line n r.refused) (omega arith)

    pub left-read : r.refused ≡ 0 → left sheet k at ≡ line r.operation ++ left sheet (k + 1) r.next
    unfolding records_text lines left rest
    left-read z =
        let c = records_from sheet rest r.next in
        let n : rest ≡ length sheet + 1 - (k + 1) = omega arith in
        let number : k + suc (length c.operations) ≡ k + 1 + length c.operations = omega arith in
        here
        ∙ ap (records_text k) (followed_on r c z)
        ∙ rw number (append_assoc (line r.operation) (lines c.operations) _)
        ∙ ap (λ (m : ℕ). line r.operation ++ records_text (k + 1) (records_from sheet m r.next)) n

    pub left-length : r.refused ≡ 0
        → length (left sheet k at) ≡ length (line r.operation) + length (left sheet (k + 1) r.next)
    left-length z = ap length (left-read z) ∙ length-append (line r.operation) _

-- A sheet, by its first number.
module _ (sheet : List ℕ) where
  pub text-refused : (n : ℕ) → head_at sheet ≡ Refused n → text_of sheet ≡ refusal_line 0 n
  unfolding text_of text_from
  text-refused n e = ap (text_from sheet) e

  pub text-behind : (first : ℕ) → head_at sheet ≡ Behind first
      → text_of sheet ≡ first_line (edition_of sheet) ++ records_text 1 (records_from sheet (length sheet) first)
  unfolding text_of text_from
  text-behind first e = ap (text_from sheet) e

  pub text-length : (first : ℕ) → head_at sheet ≡ Behind first
      → length (text_of sheet)
      ≡ length (decimal (edition_of sheet)) + 1 + length (records_text 1 (records_from sheet (length sheet) first))
  text-length first e = ap length (text-behind first e) ∙ simp length-append
