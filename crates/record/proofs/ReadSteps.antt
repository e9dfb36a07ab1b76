-- One step of the loop that reads an operation's fields, and its ends.
use Prim.Native.Nat.{ℕ, ◌+◌, ◌≤◌, ◌<◌}
use mathlib.Core.List.{List, [], ◌∷◌}
use mathlib.Core.Path.{◌≡◌, refl, ap, sym, ◌∙◌}
use native.Mathlib.Omega.{arith}
use native.Mathlib.Numerals.{add-one}
use borrow.Author.Count.{below_none, below_more}
use lib.Dec.{lit<}
use lib.ListN.{set, take, length}
use Rattle.std.proofs.lemmas.List.{length-take-le}
use Rattle.number.specs.Number.{limit32, read_at, refusal_of, value_of}
use Rattle.std.specs.Prelude.{Ok, Err}
use Rattle.number.specs.declared.Unread.TheVariants.{Bad, CutShort}
use Rattle.rules.specs.Checks.{check, refusal}
use Rattle.rules.specs.Formula.{Formula, Holds, Formula.each}
use Rattle.rules.specs.FormulaLaws.{Case, decide, Case.it_does, Case.it_does_not}
use Rattle.record.specs.RecordReading.{place, nth, clears, five, refused_record, fields_at}
use Rattle.record.specs.Refusals.{refusal-met, refusal_fails, refusal_empty, answered_none, answered-refused}
use Rattle.record.specs.Fields.{place_none, place-value, place_bad, five-more}

-- the fields before any is read
abbrev pub blank : List ℕ
blank = 0 ∷ 0 ∷ 0 ∷ 0 ∷ 0 ∷ []

pub blank_front : (n : ℕ) → n ≤ 5 → length (take n blank) ≡ n
blank_front n h = length-take-le n blank h

module _ (bytes : List ℕ) (first : ℕ) where
  -- the first k fields meet a check
  abbrev AllClear : ℕ → ℕ → Formula
  AllClear m k = each k (λ j. clears m (nth bytes first j))

  -- The first k fields are passed: none is cut short, and whether one is bad is remembered.
  pub record Passed (k : ℕ) (fields : List ℕ) (refused next : ℕ) : Type 0 where
    pub whole : Holds (AllClear 3 k)
    pub remembered : refused ≡ refusal (check 4 (AllClear 4 k) ∷ [])
    pub values : refused ≡ 0 → fields ≡ five k (λ j. value_of (nth bytes first j))
    pub next_place : next ≡ place bytes first k

  pub passed_none : Passed 0 blank 0 first
  unfolding five
  passed_none = record {
    whole = below_none _;
    remembered = sym (refusal-met 4 (AllClear 4 0) [] (below_none _) ∙ refusal_empty);
    values = λ e. refl;
    next_place = sym (place_none bytes first);
  }

  -- one field more, which meets check 4
  remembered_more : (k : ℕ) → Holds (clears 4 (nth bytes first k))
      → refusal (check 4 (AllClear 4 k) ∷ []) ≡ refusal (check 4 (AllClear 4 (k + 1)) ∷ [])
  remembered_more k here = go (decide (AllClear 4 k))
    where
      go : Case (AllClear 4 k) → refusal (check 4 (AllClear 4 k) ∷ []) ≡ refusal (check 4 (AllClear 4 (k + 1)) ∷ [])
      go (it_does h) = refusal-met 4 (AllClear 4 k) [] h ∙ sym (refusal-met 4 (AllClear 4 (k + 1)) [] (below_more _ k h here))
      go (it_does_not n) =
          refusal_fails 4 (AllClear 4 k) [] n
          ∙ sym (refusal_fails 4 (AllClear 4 (k + 1)) [] (λ h. n (λ j l. h j (omega arith))))

  module _ (k : ℕ) (fields : List ℕ) (refused next : ℕ) (p : Passed k fields refused next) where
    pub passed_value : (v behind : ℕ)
        → k < 5
        → read_at limit32 bytes next ≡ Ok (v, behind)
        → Passed (k + 1) (set fields k v) refused behind
    unfolding refusal_of value_of
    passed_value v behind l e =
        let here : nth bytes first k ≡ Ok (v, behind) = rw (← p.next_place) e in
        let clear : refusal_of (nth bytes first k) ≡ 0 = ap refusal_of here in
        let f : ℕ → ℕ = λ j. value_of (nth bytes first j) in
        let value : f k ≡ v = ap value_of here in
        record {
          whole = below_more _ k p.whole (λ c. omega arith);
          remembered = p.remembered ∙ remembered_more k (λ c. omega arith);
          values = λ z. rw (p.values z, ← value) (five-more f k l);
          next_place = rw add-one (sym (place-value bytes first k v behind here));
        }

    pub passed_bad : (behind : ℕ) → read_at limit32 bytes next ≡ Err (Bad behind) → Passed (k + 1) fields 4 behind
    unfolding refusal_of
    passed_bad behind e =
        let here : nth bytes first k ≡ Err (Bad behind) = rw (← p.next_place) e in
        let bad : refusal_of (nth bytes first k) ≡ 4 = ap refusal_of here in
        record {
          whole = below_more _ k p.whole (λ c. omega arith);
          remembered = sym (refusal_fails 4 (AllClear 4 (k + 1)) [] (λ h. h k (omega arith) bad));
          values = λ z. absurd (no z);
          next_place = rw add-one (sym (place_bad bytes first k behind here));
        }
      where
        no : ◌≡◌ {A = ℕ} 4 0 → ⊥
        no z = omega arith

    -- a field that is cut short is the refusal, whatever stood before it
    pub passed_cut : (code n : ℕ) → k < n → read_at limit32 bytes next ≡ Err CutShort → fields_at bytes code first n ≡ refused_record 3
    unfolding fields_at refusal_of
    passed_cut code n l e =
        let here : refusal_of (nth bytes first k) ≡ 3 = rw (← p.next_place) (ap refusal_of e) in
        answered-refused _ _ _ 3 (lit< tt) (refusal_fails 3 (AllClear 3 n) _ (λ h. h k l here))

    -- all fields are passed
    pub passed_refused : (code : ℕ) → 0 < refused → fields_at bytes code first k ≡ refused_record refused
    unfolding fields_at
    passed_refused code h = answered-refused _ _ _ refused h (refusal-met 3 (AllClear 3 k) _ p.whole ∙ sym p.remembered)

    pub passed_all : (code : ℕ)
        → refused ≡ 0
        → fields_at bytes code first k ≡ record { refused = 0; operation = record { code = code; fields = fields }; next = next }
    unfolding fields_at
    passed_all code z =
        answered_none _ _ _ (refusal-met 3 (AllClear 3 k) _ p.whole ∙ sym p.remembered ∙ z)
        ∙ rw (p.values z, p.next_place)
