-- One step of the loop that writes an operation's fields, and what writing a record comes to.
use Prim.Native.Nat.{ℕ, zero, suc, ◌+◌, ◌≤◌, ◌<◌}
use mathlib.Core.List.{List, [], ◌∷◌, ◌++◌}
use mathlib.Core.Path.{◌≡◌, ap, sym, ◌∙◌}
use native.Mathlib.Decide.{dec_le}
use native.Mathlib.Omega.{arith}
use lib.Dec.{lit<}
use lib.ListN.{length, get_or, take, length-append}
use Rattle.std.proofs.lemmas.List.{get_or-take, length-take-le}
use Rattle.number.specs.Number.{limit32, encode, splice}
use Rattle.number.specs.Splice.{splice_none, splice-length, splice_then}
use Rattle.rules.specs.declared.Operation.{Operation}
use Rattle.rules.specs.Arity.{is_code, is_edition, knows, field_count}
use Rattle.rules.specs.Checks.{check, refusal}
use Rattle.rules.specs.Formula.{Holds, Formula.◌≐◌, Formula.◌≼◌}
use Rattle.rules.specs.FormulaLaws.{choose_yes, choose_no}
use Rattle.rules.specs.Step.{arg}
use Rattle.record.specs.RecordReading.{Behind, Refused}
use Rattle.record.specs.Writing.{record_room, field_bytes, numbers_bytes, record_bytes, within, write_refusal, written_at}
use Rattle.record.specs.Writing.{memory_after}
use Rattle.record.specs.Refusals.{refusal-met, refusal_fails, refusal_empty, placed_none, placed-refused}
use Rattle.record.specs.Fields.{field_bytes-same, field_bytes-more}
use Rattle.record.specs.RecordRoundTrip.{record_length}

-- the bytes of fewer fields are fewer
part : (f : ℕ → ℕ) (k n : ℕ) → k ≤ n → length (field_bytes k f) ≤ length (field_bytes n f)
unfolding field_bytes
part f k zero h = let z : k ≡ 0 = omega arith in rw z (omega arith)
part f k (suc n) h = go (dec_le k n) (part f k n)
  where
    go : Dec (k ≤ n) → (k ≤ n → length (field_bytes k f) ≤ length (field_bytes n f))
        → length (field_bytes k f) ≤ length (field_bytes (suc n) f)
    go (yes l) fewer = omega (arith, fewer l, length-append (field_bytes n f) (encode (f n)))
    go (no m) fewer = let e : k ≡ suc n = omega (arith, m) in rw e (omega arith)

-- The first k of n fields are written from a place on; there is room for all n.
pub record Put (out₀ : List ℕ) (at₀ : ℕ) (f : ℕ → ℕ) (n k : ℕ) (out : List ℕ) (at : ℕ) : Type 0 where
  pub room : at₀ + length (field_bytes n f) ≤ length out₀
  pub count : k ≤ n
  pub bytes : out ≡ splice out₀ at₀ (field_bytes k f)
  pub next_place : at ≡ at₀ + length (field_bytes k f)

module _ (out₀ : List ℕ) (at₀ : ℕ) (f : ℕ → ℕ) (n : ℕ) where
  pub put_none : at₀ + length (field_bytes n f) ≤ length out₀ → Put out₀ at₀ f n 0 out₀ at₀
  unfolding field_bytes
  put_none h = record { room = h; count = omega arith; bytes = sym (splice_none out₀ at₀); next_place = omega arith }

  module _ (k : ℕ) (out : List ℕ) (at : ℕ) (p : Put out₀ at₀ f n k out at) where
    pub put-length : length out ≡ length out₀
    put-length = rw p.bytes (splice-length out₀ at₀ (field_bytes k f) (omega (arith, p.room, part f k n p.count)))

    module _ (l : k < n) where
      more : length (field_bytes k f) + length (encode (f k)) ≤ length (field_bytes n f)
      more = omega
          (arith, part f (k + 1) n (omega arith), ap length (field_bytes-more k f), length-append (field_bytes k f) (encode (f k)))

      pub put-room : at + length (encode (f k)) ≤ length out
      put-room = omega (arith, put-length, p.next_place, p.room, more)

      pub put-more : Put out₀ at₀ f n (k + 1) (splice out at (encode (f k))) (at + length (encode (f k)))
      put-more = record {
        room = p.room;
        count = omega arith;
        bytes =
            rw (field_bytes-more k f, p.bytes, p.next_place)
            (splice_then out₀ at₀ (field_bytes k f) (encode (f k)) (omega (arith, p.room, more)));
        next_place = rw (field_bytes-more k f) (omega (arith, p.next_place, length-append (field_bytes k f) (encode (f k))));
      }

-- The code is written before them: both are written as one.
pub put_all : (out₀ : List ℕ) (at₀ : ℕ) (f : ℕ → ℕ) (n k : ℕ) (out : List ℕ) (at : ℕ)
    → Put out₀ at₀ f n k out at
    → n ≤ k
    → (before : List ℕ) (used code : ℕ)
    → used + length (encode code) ≤ length before
    → at₀ ≡ used + length (encode code)
    → out₀ ≡ splice before used (encode code)
    → (at ≡ used + length (numbers_bytes code n f)) × (out ≡ splice before used (numbers_bytes code n f))
put_all out₀ at₀ f n k out at p h before used code fits place bytes =
    let all : k ≡ n = omega (arith, p.count) in
    let fields : length (field_bytes k f) ≡ length (field_bytes n f) = rw all in (
      omega (arith, p.next_place, fields, length-append (encode code) (field_bytes n f)),
      p.bytes ∙ rw (all, place, bytes) (splice_then before used (encode code) (field_bytes n f) fits),
    )

-- The first n of an operation's fields, as a slice of them.
module _ (n : ℕ) (fields : List ℕ) (h : n ≤ length fields) where
  abbrev Within : List ℕ → ℕ → Type 0
  Within xs m = Holds (within m (λ k. get_or xs k 0))

  abbrev bytes_of : ℕ → List ℕ → ℕ → List ℕ
  bytes_of code xs m = numbers_bytes code m (λ k. get_or xs k 0)

  pub front_within : Within (take n fields) (length (take n fields)) → Within fields n
  front_within w k l = omega (arith, w k (omega (arith, length-take-le n fields h)), get_or-take n fields k 0 l)

  pub within_front : Within fields n → Within (take n fields) (length (take n fields))
  within_front w k l =
      let m : k < n = omega (arith, length-take-le n fields h) in
      omega (arith, w k m, get_or-take n fields k 0 m)

  pub front_bytes : (code : ℕ) → bytes_of code (take n fields) (length (take n fields)) ≡ bytes_of code fields n
  front_bytes code =
      rw (length-take-le n fields h)
      (ap (λ (bs : List ℕ). encode code ++ bs) (field_bytes-same n _ _ (λ k l. get_or-take n fields k 0 l)))

-- What writing a record comes to.
module _ (edition : ℕ) (op : Operation) (out : List ℕ) (used : ℕ) where
  abbrev pub TurnedDown : ℕ → Type 0
  TurnedDown n = (Refused n ≡ written_at edition op out used) × (out ≡ memory_after edition op out used)

  turned_down : (n : ℕ) → 0 < n → write_refusal edition op out used ≡ n → TurnedDown n
  unfolding written_at memory_after
  turned_down n p e =
      (sym (placed-refused _ _ n p e), sym (choose_no (write_refusal edition op out used ≐ 0) _ _ (λ z. omega arith)))

  pub no_room : (used + record_room ≤ length out → ⊥) → TurnedDown 1
  no_room n = turned_down 1 (lit< tt) (refusal_fails 1 (used + record_room ≼ length out) _ n)

  pub no_edition : used + record_room ≤ length out → (Holds (is_edition edition) → ⊥) → TurnedDown 5
  no_edition room n =
      turned_down 5 (lit< tt)
      (refusal-met 1 (used + record_room ≼ length out) _ room ∙ refusal_fails 5 (is_edition edition) _ n)

  module _ (room : used + record_room ≤ length out) (told : Holds (is_edition edition)) where
    two-met : write_refusal edition op out used
        ≡ refusal (check 4 (op.code ≼ limit32) ∷ check 6 (knows edition op.code)
        ∷ check 4 (within (field_count op.code) (arg op)) ∷ [])
    two-met = refusal-met 1 (used + record_room ≼ length out) _ room ∙ refusal-met 5 (is_edition edition) _ told

    pub code-above : limit32 < op.code → TurnedDown 4
    code-above h = turned_down 4 (lit< tt) (two-met ∙ refusal_fails 4 (op.code ≼ limit32) _ (λ l. omega arith))

    module _ (limited : op.code ≤ limit32) where
      pub code-unknown : (Holds (knows edition op.code) → ⊥) → TurnedDown 6
      code-unknown n =
          turned_down 6 (lit< tt)
          (two-met ∙ refusal-met 4 (op.code ≼ limit32) _ limited ∙ refusal_fails 6 (knows edition op.code) _ n)

      module _ (known : Holds (knows edition op.code)) where
        code : Holds (is_code op.code)
        code = known.0

        last_check : write_refusal edition op out used ≡ refusal (check 4 (within (field_count op.code) (arg op)) ∷ [])
        last_check =
            two-met ∙ refusal-met 4 (op.code ≼ limit32) _ limited ∙ refusal-met 6 (knows edition op.code) _ known

        pub field_above : (n : ℕ) → n ≡ field_count op.code → (Holds (within n (arg op)) → ⊥) → TurnedDown 4
        field_above n count above =
            turned_down 4 (lit< tt)
            (last_check ∙ refusal_fails 4 (within (field_count op.code) (arg op)) [] (λ h. above (rw count h)))

        module _ (n : ℕ) (count : n ≡ field_count op.code) (h : Holds (within n (arg op))) where
          all_within : Holds (within (field_count op.code) (arg op))
          all_within = rw (← count) h

          pub bytes_fit : used + length (numbers_bytes op.code n (arg op)) ≤ length out
          unfolding record_bytes
          bytes_fit = rw count (omega (arith, record_length op code all_within))

          pub written : (next : ℕ) (after : List ℕ)
              → next ≡ used + length (numbers_bytes op.code n (arg op))
              → after ≡ splice out used (numbers_bytes op.code n (arg op))
              → (Behind next ≡ written_at edition op out used) × (after ≡ memory_after edition op out used)
          unfolding written_at memory_after record_bytes
          written next after e f =
              let none = last_check ∙ refusal-met 4 (within (field_count op.code) (arg op)) [] all_within ∙ refusal_empty in (
                ap Behind e ∙ rw count (sym (placed_none _ _ none)),
                f ∙ rw count (sym (choose_yes (write_refusal edition op out used ≐ 0) _ _ none)),
              )
