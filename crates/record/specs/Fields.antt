-- The numbers of a record: the five places of an operation's fields, and their bytes.
use Rattle.std.specs.Prelude.{ℕ, zero, suc, ◌+◌, ◌*◌, ◌≤◌, ◌<◌, Bool, true, false, List, ◌++◌, ◌≡◌, refl, ltb, length, drop, get_or, set, Ok, Err}
use Rattle.std.proofs.Common.{append_assoc, ap, sym, ◌∙◌, arith, add-one, length-append, below_none, below_more, lt-ltb, ltb-true}
use Rattle.number.specs.Number.{AreBytes, limit32, encode, value_of}
use Rattle.number.specs.NumberRoundTrip.{read_back, rewritten, value-next, length_32, stands_behind}
use Rattle.number.specs.declared.Unread.TheVariants.{Bad}
use Rattle.session.specs.Table.{pick}
use Rattle.rules.specs.Formula.{Holds}
use Rattle.record.specs.RecordReading.{behind, place, nth, one_of, five}
use Rattle.record.specs.Writing.{field_bytes, within}

-- The five places of an operation's fields.
one_of-same : (n : ℕ) (f g : ℕ → ℕ) (k : ℕ) → (k < n → f k ≡ g k) → one_of n f k ≡ one_of n g k
one_of-same n f g k same = go (ltb k n) refl
  where
    go : (b : Bool) → ltb k n ≡ b → one_of n f k ≡ one_of n g k
    go true e = rw (e, pick) (same (ltb-true k n e))
    go false e = rw (e, pick)

pub five-same : (n : ℕ) (f g : ℕ → ℕ) → ((k : ℕ) → k < n → f k ≡ g k) → five n f ≡ five n g
unfolding five
five-same n f g same =
    let at : (k : ℕ) → one_of n f k ≡ one_of n g k = λ k. one_of-same n f g k (same k) in
    cc (at 0, at 1, at 2, at 3, at 4)

-- what holds at each of the five places
each-place : (P : ℕ → Type 0) → P 0 → P 1 → P 2 → P 3 → P 4 → (k : ℕ) → k < 5 → P k
each-place P a b c d e zero h = a
each-place P a b c d e (suc zero) h = b
each-place P a b c d e (suc (suc zero)) h = c
each-place P a b c d e (suc (suc (suc zero))) h = d
each-place P a b c d e (suc (suc (suc (suc zero)))) h = e
each-place P a b c d e (suc (suc (suc (suc (suc k))))) h = absurd (no h)
  where
    no : suc (suc (suc (suc (suc k)))) < 5 → ⊥
    no h = omega arith

pub five-at : (n : ℕ) (f : ℕ → ℕ) (k : ℕ) → n ≤ 5 → k < n → get_or (five n f) k 0 ≡ f k
unfolding five
five-at n f k h l =
    each-place (λ (k : ℕ). k < n → get_or (five n f) k 0 ≡ f k)
    (λ l. rw (lt-ltb 0 n l, pick))
    (λ l. rw (lt-ltb 1 n l, pick))
    (λ l. rw (lt-ltb 2 n l, pick))
    (λ l. rw (lt-ltb 3 n l, pick))
    (λ l. rw (lt-ltb 4 n l, pick))
    k
    (omega arith)
    l

-- one place more
pub five-more : (f : ℕ → ℕ) (k : ℕ) → k < 5 → set (five k f) k (f k) ≡ five (k + 1) f
unfolding five
five-more f = each-place (λ (k : ℕ). set (five k f) k (f k) ≡ five (k + 1) f) refl refl refl refl refl

-- The bytes of fields.
pub field_bytes-same : (n : ℕ) (f g : ℕ → ℕ) → ((k : ℕ) → k < n → f k ≡ g k) → field_bytes n f ≡ field_bytes n g
unfolding field_bytes
field_bytes-same zero f g same = refl
field_bytes-same (suc n) f g same =
    let before : field_bytes n f ≡ field_bytes n g = field_bytes-same n f g (λ k l. same k (omega arith)) in
    cc (before, same n (omega arith))

pub field_bytes-more : (n : ℕ) (f : ℕ → ℕ) → field_bytes (n + 1) f ≡ field_bytes n f ++ encode (f n)
unfolding field_bytes
field_bytes-more n f = rw add-one

pub field_bytes-length : (n : ℕ) (f : ℕ → ℕ) → Holds (within n f) → length (field_bytes n f) ≤ 5 * n
unfolding field_bytes
field_bytes-length zero f h = omega arith
field_bytes-length (suc n) f h =
    omega (
      arith,
      length-append (field_bytes n f) (encode (f n)),
      field_bytes-length n f (λ k l. h k (omega arith)),
      length_32 (f n) (h n (omega arith)),
    )

-- The numbers from a place on: none, and one more.
pub place_none : (bytes : List ℕ) (at : ℕ) → place bytes at 0 ≡ at
unfolding place
place_none bytes at = refl

pub place-value : (bytes : List ℕ) (at k v next : ℕ) → nth bytes at k ≡ Ok (v, next) → place bytes at (suc k) ≡ next
unfolding place behind
place-value bytes at k v next e = rw e

pub place_bad : (bytes : List ℕ) (at k next : ℕ) → nth bytes at k ≡ Err (Bad next) → place bytes at (suc k) ≡ next
unfolding place behind
place_bad bytes at k next e = rw e

-- what holds of each field below n, and of field n
up_to : (P : ℕ → Type 0) (n : ℕ) → ((k : ℕ) → k < n → P k) → P n → (k : ℕ) → k < suc n → P k
up_to P n before here k l = below_more P n before here k (omega arith)

-- Fields whose bytes stand at a place are read there.
pub record Back (bytes : List ℕ) (first n : ℕ) (f : ℕ → ℕ) : Type 0 where
  pub reads : (k : ℕ) → k < n → nth bytes first k ≡ Ok (f k, place bytes first (suc k))
  pub ends : place bytes first n ≡ first + length (field_bytes n f)

pub fields_back : (bytes : List ℕ) (first n : ℕ) (f : ℕ → ℕ) (rest : List ℕ)
    → Holds (within n f)
    → drop first bytes ≡ field_bytes n f ++ rest
    → Back bytes first n f
unfolding field_bytes
fields_back bytes first zero f rest h s = record { reads = below_none _; ends = place_none bytes first ∙ omega arith }
fields_back bytes first (suc n) f rest h s =
    let split : drop first bytes ≡ field_bytes n f ++ (encode (f n) ++ rest) =
    s ∙ append_assoc (field_bytes n f) (encode (f n)) rest in
    let b = fields_back bytes first n f (encode (f n) ++ rest) (λ k l. h k (omega arith)) split in
    let stands : drop (place bytes first n) bytes ≡ encode (f n) ++ rest =
    rw b.ends (stands_behind bytes first (field_bytes n f) (encode (f n) ++ rest) split) in
    let here = read_back limit32 bytes (place bytes first n) (f n) rest (h n (omega arith)) stands in
    let next = place-value bytes first n (f n) (place bytes first n + length (encode (f n))) here in
    record {
      reads = up_to (λ k. nth bytes first k ≡ Ok (f k, place bytes first (suc k))) n b.reads (rw next here);
      ends = omega (arith, next, b.ends, length-append (field_bytes n f) (encode (f n)));
    }

-- Fields that were read lie in the bytes and are within the limit, and written anew they have the same bytes.
abbrev pub AllRead : List ℕ → ℕ → ℕ → Type 0
AllRead bytes first n = (k : ℕ) → k < n → nth bytes first k ≡ Ok (value_of (nth bytes first k), place bytes first (suc k))

pub record Onward (bytes : List ℕ) (first n : ℕ) : Type 0 where
  pub onward : first ≤ place bytes first n
  pub inside : place bytes first n ≤ length bytes
  pub limited : Holds (within n (λ k. value_of (nth bytes first k)))

pub fields-onward : (bytes : List ℕ) (first n : ℕ) → first ≤ length bytes → AllRead bytes first n → Onward bytes first n
fields-onward bytes first zero h all =
    let z = place_none bytes first in record { onward = omega arith; inside = omega arith; limited = below_none _ }
fields-onward bytes first (suc n) h all =
    let o = fields-onward bytes first n h (λ k l. all k (omega arith)) in
    let v = value-next limit32 bytes (place bytes first n) _ _ (all n (omega arith)) in
    record {
      onward = omega (arith, o.onward, v.1);
      inside = v.2;
      limited = up_to (λ k. value_of (nth bytes first k) ≤ limit32) n o.limited v.0;
    }

pub record Again (bytes : List ℕ) (first n : ℕ) (f : ℕ → ℕ) : Type 0 where
  pub stands : drop first bytes ≡ field_bytes n f ++ drop (place bytes first n) bytes
  pub ends : place bytes first n ≡ first + length (field_bytes n f)

pub fields_again : (bytes : List ℕ) (first n : ℕ)
    → AreBytes bytes
    → AllRead bytes first n
    → Again bytes first n (λ k. value_of (nth bytes first k))
unfolding field_bytes
fields_again bytes first zero are all =
    let z = place_none bytes first in
    record { stands = rw z; ends = omega arith }
fields_again bytes first (suc n) are all =
    let f : ℕ → ℕ = λ k. value_of (nth bytes first k) in
    let a = fields_again bytes first n are (λ k l. all k (omega arith)) in
    let w = rewritten limit32 bytes (place bytes first n) (f n) (place bytes first (suc n)) are (all n (omega arith)) in
    record {
      stands =
          a.stands ∙ ap (λ (l : List ℕ). field_bytes n f ++ l) w.stands ∙ sym (append_assoc (field_bytes n f) (encode (f n)) _);
      ends = omega (arith, w.next_place, a.ends, length-append (field_bytes n f) (encode (f n)));
    }
