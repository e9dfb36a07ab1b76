-- What reading a record gives, case by case.
use Rattle.std.specs.Prelude.{ℕ, ◌<◌, List, Some, None, Ok, Err}
use Rattle.std.proofs.Math.Path.{◌≡◌, ap}
use Rattle.std.proofs.Common.{sym, ◌∙◌, lit<}
use native.Mathlib.Omega.{arith}
use Rattle.number.specs.Number.{limit32, read_at, refusal_of, value_of}
use Rattle.number.specs.declared.Unread.TheVariants.{Bad, CutShort}
use Rattle.rules.specs.Arity.{knows, arity_of, field_count}
use Rattle.rules.specs.Checks.{refusal}
use Rattle.rules.specs.Formula.{Holds, Formula.each}
use Rattle.rules.specs.FormulaLaws.{Case, decide, choose_yes, choose_no, Case.it_does, Case.it_does_not}
use Rattle.record.specs.RecordReading.{behind, place, nth, clears, refused_record, answered, operation_at, fields_at, code_at}
use Rattle.record.specs.RecordReading.{first_field, count_at, record_checks, record_in}
use Rattle.record.specs.Refusals.{is-value, refusal-met, refusal_fails, refusal_none, refusal_empty, number_cut, number_bad, number_unread}
use Rattle.record.specs.Refusals.{number-value, number_none, answered_none, answered-refused, answered-number}
use Rattle.record.specs.Fields.{AllRead}

module _ (edition code : ℕ) where
  -- What the number of fields tells of the code.
  pub arity_known : (n : ℕ) → arity_of edition code ≡ Some n → Holds (knows edition code) × (n ≡ field_count code)
  unfolding arity_of
  arity_known n e = go (decide (knows edition code))
    where
      go : Case (knows edition code) → Holds (knows edition code) × (n ≡ field_count code)
      go (it_does h) = (h, cc (choose_yes (knows edition code) (Some (field_count code)) None h))
      go (it_does_not u) =
          let z : ◌≡◌ {A = ℕ} 0 1 = cc (choose_no (knows edition code) (Some (field_count code)) None u) in
          absurd (omega arith)

  pub arity_unknown : arity_of edition code ≡ None → Holds (knows edition code) → ⊥
  unfolding arity_of
  arity_unknown e h =
      let z : ◌≡◌ {A = ℕ} 0 1 = cc (choose_yes (knows edition code) (Some (field_count code)) None h) in
      omega arith

module _ (edition : ℕ) (bytes : List ℕ) (at : ℕ) where
  pub record_cut : read_at limit32 bytes at ≡ Err CutShort → record_in edition bytes at ≡ refused_record 3
  unfolding record_in
  record_cut e = answered-refused _ _ _ 3 (lit< tt) (number_cut _ _ e)

  pub record_bad : (next : ℕ) → read_at limit32 bytes at ≡ Err (Bad next) → record_in edition bytes at ≡ refused_record 4
  unfolding record_in
  record_bad next e = answered-refused _ _ _ 4 (lit< tt) (number_bad _ _ next e)

  pub record_unread : (n : ℕ) → 0 < n → refusal_of (read_at limit32 bytes at) ≡ n → record_in edition bytes at ≡ refused_record n
  unfolding record_in
  record_unread n p e = answered-refused _ _ _ n p (number_unread _ _ n p e)

  module _ (code first : ℕ) (e : read_at limit32 bytes at ≡ Ok (code, first)) where
    pub record_unknown : (Holds (knows edition code) → ⊥) → record_in edition bytes at ≡ refused_record 6
    unfolding record_in value_of
    record_unknown u =
        answered-refused _ _ _ 6 (lit< tt) (number-value _ _ code first e ∙ refusal_fails 6 _ _ (λ c. u (rw e at c)))

    -- the code is met, and the record is what its fields are
    pub record_known : Holds (knows edition code) → record_in edition bytes at ≡ fields_at bytes code first (field_count code)
    unfolding record_in fields_at value_of behind
    record_known h =
        ap (λ (n : ℕ). answered n (operation_at bytes (code_at bytes at) (first_field bytes at) (count_at bytes at))
        (place bytes (first_field bytes at) (count_at bytes at)))
        (number-value _ _ code first e ∙ refusal-met 6 _ _ (rw e h))
        ∙ rw e

-- fields that are all read
pub fields_read : (bytes : List ℕ) (code first n : ℕ)
    → AllRead bytes first n
    → fields_at bytes code first n ≡ record { refused = 0; operation = operation_at bytes code first n; next = place bytes first n }
unfolding fields_at refusal_of
fields_read bytes code first n all =
    answered_none _ _ _ (refusal-met 3 _ _ (met 3 (lit< tt)) ∙ refusal-met 4 _ _ (met 4 (lit< tt)) ∙ refusal_empty)
  where
    met : (m : ℕ) → 0 < m → Holds (each n (λ k. clears m (nth bytes first k)))
    met m p k l c = omega (arith, c, ap refusal_of (all k l))

-- A record without a refusal: its numbers are all read, and it is what they say.
pub record Read (edition : ℕ) (bytes : List ℕ) (at : ℕ) : Type 0 where
  pub code_read : read_at limit32 bytes at ≡ Ok (code_at bytes at, first_field bytes at)
  pub known : Holds (knows edition (code_at bytes at))
  pub fields : AllRead bytes (first_field bytes at) (count_at bytes at)
  pub says : record_in edition bytes at
      ≡ record {
        refused = 0;
        operation = operation_at bytes (code_at bytes at) (first_field bytes at) (count_at bytes at);
        next = place bytes (first_field bytes at) (count_at bytes at);
      }

pub accepted : {edition : ℕ} (bytes : List ℕ) (at : ℕ) → (record_in edition bytes at).refused ≡ 0 → Read edition bytes at
unfolding record_in place
accepted {edition} bytes at e =
    let none : refusal (record_checks edition bytes at) ≡ 0 = sym (answered-number (refusal (record_checks edition bytes at)) _ _) ∙ e in
    let code = number_none _ at (read_at limit32 bytes at) none in
    let c6 = refusal_none 6 _ _ (lit< tt) code.1 in
    let f3 = refusal_none 3 _ _ (lit< tt) c6.1 in
    let f4 = refusal_none 4 _ _ (lit< tt) f3.1 in
    record {
      code_read = code.0;
      known = c6.0;
      fields = λ k l. is-value (place bytes (first_field bytes at) k) (nth bytes (first_field bytes at) k) (f3.0 k l) (f4.0 k l);
      says = answered_none _ _ _ none;
    }
