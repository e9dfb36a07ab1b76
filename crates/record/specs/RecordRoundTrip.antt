-- Both round trips of a record: an operation that was written reads back as itself, and one that was read, written anew, has
-- the same bytes, in any edition. A record that is read takes bytes that are there. (That the refusals 3, 4 and 6 follow from the
-- edition and the bytes alone is the type of recordIn: it is given nothing else.)
use Rattle.std.specs.Prelude.{ℕ, ◌+◌, ◌≤◌, ◌<◌, List, [], ◌++◌, ◌≡◌, length, drop}
use Rattle.std.proofs.Common.{append_assoc, ap, sym, ◌∙◌, arith, lit<, lit≤, length-append, take-append-drop}
use Rattle.number.specs.Number.{AreBytes, limit32, encode, splice, value_of}
use Rattle.number.specs.Encode.{encode_one}
use Rattle.number.specs.Splice.{splice-from, splice-is}
use Rattle.number.specs.NumberRoundTrip.{read_back, rewritten, value-next, length_some, stands_behind}
use Rattle.rules.specs.declared.Operation.{Operation}
use Rattle.rules.specs.Arity.{is_code, is_edition, knows, field_count, fields_few}
use Rattle.rules.specs.Checks.{refusal}
use Rattle.rules.specs.Formula.{Holds, Formula.◌≐◌, Formula.◌≼◌}
use Rattle.rules.specs.FormulaLaws.{choose_yes}
use Rattle.rules.specs.Step.{arg}
use Rattle.record.specs.RecordReading.{place, nth, five, operation_at, code_at, first_field, count_at, record_checks}
use Rattle.record.specs.RecordReading.{record_in}
use Rattle.record.specs.Refusals.{refusal_none, refusal-most, answered-number}
use Rattle.record.specs.Fields.{five-same, five-at, field_bytes-same, field_bytes-length, AllRead, fields_back, fields-onward}
use Rattle.record.specs.Fields.{fields_again}
use Rattle.record.specs.RecordCases.{record_known, fields_read, accepted}
use Rattle.record.specs.Writing.{record_room, field_bytes, record_bytes, within, is_recordable, own, write_refusal, memory_after}

-- What an operation is, is what is written of it.
pub own-arg : (op : Operation) (k : ℕ) → Holds (is_code op.code) → k < field_count op.code → arg (own op) k ≡ arg op k
unfolding own
own-arg op k h l = five-at (field_count op.code) (arg op) k (fields_few op.code h) l

pub own-bytes : (op : Operation) → Holds (is_code op.code) → record_bytes (own op) ≡ record_bytes op
unfolding record_bytes own
own-bytes op h =
    ap (λ (l : List ℕ). encode op.code ++ l)
    (field_bytes-same (field_count op.code) (arg (own op)) (arg op) (λ k. own-arg op k h))

pub own-own : (op : Operation) → Holds (is_code op.code) → own (own op) ≡ own op
unfolding own
own-own op h =
    ap (λ (l : List ℕ). record { code = op.code; fields = l })
    (five-same (field_count op.code) (arg (own op)) (arg op) (λ k. own-arg op k h))

pub own_recordable : (edition : ℕ) (op : Operation) → Holds (is_recordable edition op) → Holds (is_recordable edition (own op))
unfolding own
own_recordable edition op h = (h.0, λ k l. rw (own-arg op k h.0.0 l) (h.1 k l))

-- A record takes 26 bytes at most: so 32 suffice.
pub record_length : (op : Operation) → Holds (is_code op.code) → Holds (within (field_count op.code) (arg op))
    → length (record_bytes op) ≤ 26
unfolding record_bytes
record_length op h limited =
    let n = field_count op.code in
    let one : length (encode op.code) ≡ 1 = ap length (encode_one op.code (let l = h.1 in omega arith)) in
    omega (
      arith,
      one,
      length-append (encode op.code) (field_bytes n (arg op)),
      field_bytes-length n (arg op) limited,
      fields_few op.code h,
    )

pub record_some : (op : Operation) → 0 < length (record_bytes op)
unfolding record_bytes
record_some op =
    omega (arith, length-append (encode op.code) (field_bytes (field_count op.code) (arg op)), length_some op.code)

-- What is written reads back as itself.
pub record_back : (edition : ℕ) (bytes : List ℕ) (at : ℕ) (op : Operation) (rest : List ℕ)
    → Holds (is_recordable edition op)
    → drop at bytes ≡ record_bytes op ++ rest
    → record_in edition bytes at ≡ record { refused = 0; operation = own op; next = at + length (record_bytes op) }
unfolding record_bytes own value_of
record_back edition bytes at op rest h s =
    let code = op.code in
    let n = field_count code in
    let first = at + length (encode code) in
    let split : drop at bytes ≡ encode code ++ (field_bytes n (arg op) ++ rest) =
    s ∙ append_assoc (encode code) (field_bytes n (arg op)) rest in
    let head = read_back limit32 bytes at code (field_bytes n (arg op) ++ rest) (let l = h.0.0.1 in omega arith) split in
    let b = fields_back bytes first n (arg op) rest h.1 (stands_behind bytes at (encode code) _ split) in
    let values : (k : ℕ) → k < n → value_of (nth bytes first k) ≡ arg op k = λ k l. ap value_of (b.reads k l) in
    let all : AllRead bytes first n = λ k l. rw (values k l) (b.reads k l) in
    let fields : five n (λ k. value_of (nth bytes first k)) ≡ five n (arg op) = five-same n _ (arg op) values in
    let next : place bytes first n ≡ at + length (record_bytes op) =
    omega (arith, b.ends, length-append (encode code) (field_bytes n (arg op))) in
    record_known edition bytes at code first head h.0
    ∙ fields_read bytes code first n all
    ∙ cc (fields, next)

-- A record that is read takes bytes that are there, and what it says can be written.
pub record Forward (edition : ℕ) (bytes : List ℕ) (at : ℕ) (op : Operation) (next : ℕ) : Type 0 where
  pub onward : at < next
  pub inside : next ≤ length bytes
  pub recordable : Holds (is_recordable edition op)
  pub whole : own op ≡ op

pub record_forward : {edition : ℕ} (bytes : List ℕ) (at : ℕ)
    → (record_in edition bytes at).refused ≡ 0
    → Forward edition bytes at (record_in edition bytes at).operation (record_in edition bytes at).next
unfolding own
record_forward {edition} bytes at e =
    let r = accepted bytes at e in
    let code = code_at bytes at in
    let first = first_field bytes at in
    let n = count_at bytes at in
    let f : ℕ → ℕ = λ k. value_of (nth bytes first k) in
    let op = operation_at bytes code first n in
    let same : (k : ℕ) → k < n → arg op k ≡ f k = λ k l. five-at n f k (fields_few code r.known.0) l in
    let head = value-next limit32 bytes at code first r.code_read in
    let on = fields-onward bytes first n head.2 r.fields in
    let forward : Forward edition bytes at op (place bytes first n) =
    record {
      onward = omega (arith, head.1, on.onward);
      inside = on.inside;
      recordable = (r.known, λ k l. rw (same k l) (on.limited k l));
      whole = ap (λ (l : List ℕ). record { code = code; fields = l }) (five-same n (arg op) f same);
    } in
    rw r.says forward

-- No refusal of a record is above 6.
pub record_refusals : (edition : ℕ) (bytes : List ℕ) (at : ℕ) → (record_in edition bytes at).refused ≤ 6
unfolding record_in
record_refusals edition bytes at =
    rw (answered-number (refusal (record_checks edition bytes at)))
    (refusal-most 6 (record_checks edition bytes at) (lit≤ tt, (lit≤ tt, (lit≤ tt, (lit≤ tt, (lit≤ tt, tt))))))

-- What was read, written anew, has the same bytes: they stand between the place and the next one.
pub record Rewritten (bytes : List ℕ) (at : ℕ) (op : Operation) (next : ℕ) : Type 0 where
  pub stands : drop at bytes ≡ record_bytes op ++ drop next bytes
  pub next_place : next ≡ at + length (record_bytes op)

pub record_again : (edition : ℕ) (bytes : List ℕ) (at : ℕ)
    → AreBytes bytes
    → (record_in edition bytes at).refused ≡ 0
    → Rewritten bytes at (record_in edition bytes at).operation (record_in edition bytes at).next
unfolding record_bytes
record_again edition bytes at are e =
    let r = accepted bytes at e in
    let code = code_at bytes at in
    let first = first_field bytes at in
    let n = count_at bytes at in
    let f : ℕ → ℕ = λ k. value_of (nth bytes first k) in
    let op = operation_at bytes code first n in
    let written : field_bytes n (arg op) ≡ field_bytes n f =
    field_bytes-same n (arg op) f (λ k l. five-at n f k (fields_few code r.known.0) l) in
    let head = rewritten limit32 bytes at code first are r.code_read in
    let fields = fields_again bytes first n are r.fields in
    let again : Rewritten bytes at op (place bytes first n) =
    record {
      stands = head.stands
          ∙ ap (λ (l : List ℕ). encode code ++ l) fields.stands
          ∙ sym (append_assoc (encode code) (field_bytes n f) (drop (place bytes first n) bytes))
          ∙ rw written;
      next_place = rw written (omega (arith, head.next_place, fields.ends, length-append (encode code) (field_bytes n f)));
    } in
    rw r.says again

-- The same of memory: an operation that was written is read there again, and one that was read, written over what it was read
-- from, changes no byte.
pub written_reads : (edition : ℕ) (op : Operation) (out : List ℕ) (used : ℕ)
    → write_refusal edition op out used ≡ 0
    → record_in edition (memory_after edition op out used) used
    ≡ record { refused = 0; operation = own op; next = used + length (record_bytes op) }
unfolding memory_after
written_reads edition op out used e =
    let room = refusal_none 1 (used + record_room ≼ length out) _ (lit< tt) e in
    let told = refusal_none 5 (is_edition edition) _ (lit< tt) room.1 in
    let limit = refusal_none 4 (op.code ≼ limit32) _ (lit< tt) told.1 in
    let known = refusal_none 6 (knows edition op.code) _ (lit< tt) limit.1 in
    let fields = refusal_none 4 (within (field_count op.code) (arg op)) [] (lit< tt) known.1 in
    let fits : used + length (record_bytes op) ≤ length out =
    omega (arith, room.0, record_length op known.0.0 fields.0) in
    let memory = choose_yes (write_refusal edition op out used ≐ 0) (splice out used (record_bytes op)) out e in
    record_back edition (memory_after edition op out used) used op (drop (used + length (record_bytes op)) out)
    (known.0, fields.0) (rw memory (splice-from out used (record_bytes op) fits))

pub read_rewrites : (edition : ℕ) (bytes : List ℕ) (at : ℕ)
    → AreBytes bytes
    → (record_in edition bytes at).refused ≡ 0
    → splice bytes at (record_bytes (record_in edition bytes at).operation) ≡ bytes
read_rewrites edition bytes at are e =
    let w = record_again edition bytes at are e in
    splice-is bytes at _ ∙ rw (append_assoc, ← w.next_place, ← w.stands) (take-append-drop at bytes)
