-- Both round trips of a whole sheet, of any edition. (That the refusals 3 to 6 of a sheet follow from its bytes alone is the type
-- of contents: it is given nothing else.)
use Prim.Native.Nat.{ℕ, zero, suc, ◌+◌, ◌≤◌, ◌<◌}
use mathlib.Core.List.{List, [], ◌∷◌, ◌++◌, map}
use Rattle.std.specs.Prelude.{◌≡◌, drop, Ok, Err}
use Rattle.std.proofs.Math.Path.{refl, ap}
use Rattle.std.proofs.Common.{sym, ◌∙◌, lit<, drop_of_length-le}
use native.Mathlib.Omega.{arith}
use Rattle.std.proofs.Math.ListN.{length, length-append, length-drop}
use Rattle.number.specs.Number.{AreBytes, limit32, encode, read_at, value_of, refusal_of}
use Rattle.number.specs.NumberRoundTrip.{read_back, rewritten, stands_behind}
use Rattle.number.specs.declared.Unread.TheVariants.{Bad, CutShort}
use Rattle.rules.specs.declared.Operation.{Operation}
use Rattle.rules.specs.Arity.{is_edition}
use Rattle.rules.specs.Formula.{Holds, Formula.◌≐◌, Formula.◌≼◌}
use Rattle.rules.specs.FormulaLaws.{Case, decide, choose_yes, choose_no, Case.it_does, Case.it_does_not}
use Rattle.record.specs.RecordReading.{Record, Behind, Refused, behind, edition_of, record_at}
use Rattle.record.specs.Refusals.{refusal-met, refusal_fails, refusal_none, refusal_empty, number_cut, number_bad, number_unread}
use Rattle.record.specs.Refusals.{number-value, number_none, placed_none, placed-refused}
use Rattle.record.specs.RecordRoundTrip.{record_some, record_back, record_forward, record_again}
use Rattle.record.specs.Writing.{record_bytes, is_recordable, own}
use Rattle.record.specs.Sheet.{head_refusal, first_record, head_at, records_bytes, sheet_of, Contents, stopped, followed}
use Rattle.record.specs.Sheet.{records_from, contents}

-- every operation of a list can be written in an edition
pub data AllRecordable (edition : ℕ) : List Operation → Type 0 where
  none : AllRecordable edition []
  one : {op : Operation} {ops : List Operation}
      → Holds (is_recordable edition op)
      → AllRecordable edition ops
      → AllRecordable edition (op ∷ ops)

-- A record without a refusal stands in front of what follows it; one with a refusal stops.
pub followed_on : (r : Record) (c : Contents) → r.refused ≡ 0
    → followed r c ≡ record { refused = c.refused; operations = r.operation ∷ c.operations }
followed_on r c z = choose_yes (r.refused ≐ 0) _ _ z

pub followed_stop : (r : Record) (c : Contents) → (r.refused ≡ 0 → ⊥) → followed r c ≡ stopped r.refused
followed_stop r c n = choose_no (r.refused ≐ 0) _ _ n

-- A record and what follows it are without a refusal where both are.
followed_none : (r : Record) (c : Contents)
    → (followed r c).refused ≡ 0
    → (r.refused ≡ 0) × (c.refused ≡ 0) × ((followed r c).operations ≡ r.operation ∷ c.operations)
followed_none r c e = go (decide (r.refused ≐ 0))
  where
    go : Case (r.refused ≐ 0) → (r.refused ≡ 0) × (c.refused ≡ 0) × ((followed r c).operations ≡ r.operation ∷ c.operations)
    go (it_does z) =
        let f = followed_on r c z in
        (z, ap (λ (x : Contents). x.refused) (sym f) ∙ e, ap (λ (x : Contents). x.operations) f)
    go (it_does_not n) = absurd (n (ap (λ (x : Contents). x.refused) (sym (followed_stop r c n)) ∙ e))

-- Reading records: at the end, and before it.
module _ (bytes : List ℕ) where
  pub records_end : (steps at : ℕ) → length bytes ≤ at → records_from bytes steps at ≡ stopped 0
  unfolding records_from
  records_end zero at h = refl
  records_end (suc steps) at h = choose_yes (length bytes ≼ at) _ _ h

  pub records_next : (steps at : ℕ)
      → at < length bytes
      → records_from bytes (suc steps) at ≡ followed (record_at bytes at) (records_from bytes steps (record_at bytes at).next)
  unfolding records_from
  records_next steps at h = choose_no (length bytes ≼ at) _ _ (λ l. omega arith)

  -- The records of operations, written from a place to the end, are read as those operations.
  records_back : (steps at : ℕ) (ops : List Operation)
      → AllRecordable (edition_of bytes) ops
      → length bytes ≤ at + steps
      → drop at bytes ≡ records_bytes ops
      → records_from bytes steps at ≡ record { refused = 0; operations = map own ops }
  unfolding records_bytes
  records_back steps at [] all h s = records_end steps at (omega (arith, ap length s, length-drop at bytes))
  records_back zero at (op ∷ ops) all h s = absurd (no h)
    where
      no : length bytes ≤ at + 0 → ⊥
      no h = omega (arith, ap length s, length-drop at bytes, length-append (record_bytes op) (records_bytes ops), record_some op)
  records_back (suc steps) at (op ∷ ops) (one r all) h s =
      let next = at + length (record_bytes op) in
      let more : length (drop at bytes) ≡ length (record_bytes op) + length (records_bytes ops) =
      rw s (length-append (record_bytes op) (records_bytes ops)) in
      let read = record_back (edition_of bytes) bytes at op (records_bytes ops) r s in
      let rest = records_back steps next ops all (omega (arith, record_some op))
      (stands_behind bytes at (record_bytes op) (records_bytes ops) s) in
      records_next steps at (omega (arith, more, record_some op, length-drop at bytes))
      ∙ rw (read, rest) (choose_yes (0 ≐ 0) _ _ refl)

  -- What reads as records to the end without a refusal is those records, written anew.
  records_again : (steps at : ℕ)
      → AreBytes bytes
      → length bytes ≤ at + steps
      → (records_from bytes steps at).refused ≡ 0
      → drop at bytes ≡ records_bytes (records_from bytes steps at).operations
  unfolding records_bytes
  records_again zero at are h e =
      let end : length bytes ≤ at = omega arith in
      rw (records_end zero at end) (drop_of_length-le bytes end)
  records_again (suc steps) at are h e = go (decide (length bytes ≼ at)) (records_again steps (record_at bytes at).next are)
    where
      r : Record
      r = record_at bytes at

      rest : Contents
      rest = records_from bytes steps r.next

      go : Case (length bytes ≼ at)
          → (length bytes ≤ r.next + steps → rest.refused ≡ 0 → drop r.next bytes ≡ records_bytes rest.operations)
          → drop at bytes ≡ records_bytes (records_from bytes (suc steps) at).operations
      go (it_does end) again = rw (records_end (suc steps) at end) (drop_of_length-le bytes end)
      go (it_does_not n) again =
          let next = records_next steps at (omega (arith, n)) in
          let f = followed_none r rest (ap (λ (c : Contents). c.refused) (sym next) ∙ e) in
          let w = record_again (edition_of bytes) bytes at are f.0 in
          let on = record_forward bytes at f.0 in
          w.stands
          ∙ ap (λ (l : List ℕ). record_bytes r.operation ++ l) (again (omega (arith, on.onward)) f.1)
          ∙ rw (next, f.2)

-- The head of a sheet, case by case.
module _ (bytes : List ℕ) where
  pub head-cut : read_at limit32 bytes 0 ≡ Err CutShort → head_at bytes ≡ Refused 3
  unfolding head_at
  head-cut e = placed-refused _ _ 3 (lit< tt) (number_cut _ _ e)

  pub head_bad : (next : ℕ) → read_at limit32 bytes 0 ≡ Err (Bad next) → head_at bytes ≡ Refused 4
  unfolding head_at
  head_bad next e = placed-refused _ _ 4 (lit< tt) (number_bad _ _ next e)

  pub head_unread : (n : ℕ) → 0 < n → refusal_of (read_at limit32 bytes 0) ≡ n → head_at bytes ≡ Refused n
  unfolding head_at
  head_unread n p e = placed-refused _ _ n p (number_unread _ _ n p e)

  module _ (edition first : ℕ) (e : read_at limit32 bytes 0 ≡ Ok (edition, first)) where
    pub head-other : (Holds (is_edition edition) → ⊥) → head_at bytes ≡ Refused 5
    unfolding head_at value_of
    head-other n =
        placed-refused _ _ 5 (lit< tt) (number-value _ _ edition first e ∙ refusal_fails 5 _ [] (λ is. n (rw e at is)))

    pub head-met : Holds (is_edition edition) → head_refusal bytes ≡ 0
    unfolding value_of
    head-met is = number-value _ _ edition first e ∙ refusal-met 5 _ [] (rw e is) ∙ refusal_empty

    pub head_edition : Holds (is_edition edition) → head_at bytes ≡ Behind first
    unfolding head_at behind
    head_edition is = placed_none _ _ (head-met is) ∙ rw e

  pub head_none : head_refusal bytes ≡ 0
      → (read_at limit32 bytes 0 ≡ Ok (edition_of bytes, first_record bytes)) × Holds (is_edition (edition_of bytes))
  head_none e =
      let n = number_none _ 0 (read_at limit32 bytes 0) e in
      (n.0, (refusal_none 5 _ [] (lit< tt) n.1).0)

  contents-read : head_refusal bytes ≡ 0 → contents bytes ≡ records_from bytes (length bytes) (first_record bytes)
  unfolding contents
  contents-read e = choose_yes (head_refusal bytes ≐ 0) _ _ e

  contents-stopped : (head_refusal bytes ≡ 0 → ⊥) → contents bytes ≡ stopped (head_refusal bytes)
  unfolding contents
  contents-stopped n = choose_no (head_refusal bytes ≐ 0) _ _ n

-- The sheet of an edition and of operations that it knows reads as those operations.
pub sheet_back : (edition : ℕ) → Holds (is_edition edition) → (ops : List Operation) → AllRecordable edition ops
    → contents (sheet_of edition ops) ≡ record { refused = 0; operations = map own ops }
unfolding sheet_of behind value_of
sheet_back edition is ops all =
    let bytes = sheet_of edition ops in
    let limited : edition ≤ limit32 = omega (arith, is.1) in
    let head = read_back limit32 bytes 0 edition (records_bytes ops) limited refl in
    let first : first_record bytes ≡ 0 + length (encode edition) = rw head in
    let own-edition : edition_of bytes ≡ edition = rw head in
    let stands = stands_behind bytes 0 (encode edition) (records_bytes ops) refl in
    let known : AllRecordable (edition_of bytes) ops = rw own-edition all in
    contents-read bytes (head-met bytes edition _ head is)
    ∙ rw first (records_back bytes (length bytes) (0 + length (encode edition)) ops known (omega arith) stands)

-- A sheet that meets none of the refusals 3 to 6 has the same bytes when what it says is written anew.
pub sheet_again : (bytes : List ℕ) → AreBytes bytes → (contents bytes).refused ≡ 0
    → sheet_of (edition_of bytes) (contents bytes).operations ≡ bytes
unfolding sheet_of
sheet_again bytes are e = go (decide (head_refusal bytes ≐ 0))
  where
    go : Case (head_refusal bytes ≐ 0) → sheet_of (edition_of bytes) (contents bytes).operations ≡ bytes
    go (it_does z) =
        let c = contents-read bytes z in
        let w = rewritten limit32 bytes 0 (edition_of bytes) (first_record bytes) are (head_none bytes z).0 in
        let again = records_again bytes (length bytes) (first_record bytes) are (omega arith)
        (ap (λ (x : Contents). x.refused) (sym c) ∙ e) in
        rw c (sym (w.stands ∙ ap (λ (l : List ℕ). encode (edition_of bytes) ++ l) again))
    go (it_does_not n) = absurd (n (ap (λ (x : Contents). x.refused) (sym (contents-stopped bytes n)) ∙ e))
