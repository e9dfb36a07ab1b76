-- The laws of reading and writing, for any limit: what is written reads back as itself, and what was read, written anew, has
-- the same bytes.
use Rattle.std.specs.Prelude.{ℕ, zero, suc, ◌+◌, ◌^◌, ◌≤◌, ◌<◌, List, [], ◌∷◌, ◌++◌, ◌≡◌, length, get_or, drop, Some, Ok, Err}
use Rattle.std.proofs.Common.{append_assoc, ap, sym, ◌∙◌, arith, lit<, length-append, length-drop, take-append-drop, length-take-le, take_at, drop-drop, get_or-drop}
use Rattle.std.proofs.Math.Nat.{pow-succ'}
use Rattle.std.proofs.Math.Seq.{drop-append_seam}
use Rattle.number.specs.Number.{AreBytes, limit32, encode, more, first, value, read_at, written, memory}
use Rattle.number.specs.Encode.{encode_ind, encode-length}
use Rattle.number.specs.Decode.{encodes, exact, more_all, more-set}
use Rattle.number.specs.NumberCases.{judged-value, read_ends, read-cut, At, cut, bad, good, reading_as}
use Rattle.number.specs.Splice.{splice-from, splice-is, written-fits, memory-fits}
use Rattle.number.specs.declared.Unread.TheVariants.{Bad, CutShort}

-- What is written reads back as itself.
pub read_back : (limit : ℕ) (bytes : List ℕ) (at v : ℕ) (rest : List ℕ)
    → v ≤ limit
    → drop at bytes ≡ encode v ++ rest
    → read_at limit bytes at ≡ Ok (v, at + length (encode v))
read_back limit bytes at v rest h stands =
    let e = encodes rest v in
    let n : suc (more (drop at bytes)) ≡ length (encode v) = rw stands e.ends in
    let l : more (drop at bytes) < length (drop at bytes) = rw stands (omega (arith, e.ends, length-append (encode v) rest)) in
    let f : first (drop at bytes) ≡ encode v = rw stands (take_at (encode v) rest _ (sym e.ends)) in
    let w : value (encode v) ≤ limit = rw e.values h in
    read_ends limit bytes at l
    ∙ rw (f, n) (judged-value limit (encode v) (at + length (encode v)) e.short w)
    ∙ ap (λ (x : ℕ). Ok (x, at + length (encode v))) e.values

pub read_back_in : (limit : ℕ) (before : List ℕ) (v : ℕ) (after : List ℕ)
    → v ≤ limit
    → read_at limit (before ++ encode v ++ after) (length before) ≡ Ok (v, length before + length (encode v))
read_back_in limit before v after h =
    read_back limit (before ++ encode v ++ after) (length before) v after h
    (rw append_assoc (drop-append_seam before (encode v ++ after)))

-- What was read, written anew, has the same bytes: they stand between the place and the next one.
pub record Rewritten (limit : ℕ) (bytes : List ℕ) (at v next : ℕ) : Type 0 where
  pub within : v ≤ limit
  pub stands : drop at bytes ≡ encode v ++ drop next bytes
  pub next_place : next ≡ at + length (encode v)
  pub inside : next ≤ length bytes

pub rewritten : (limit : ℕ) (bytes : List ℕ) (at v next : ℕ)
    → AreBytes bytes
    → read_at limit bytes at ≡ Ok (v, next)
    → Rewritten limit bytes at v next
rewritten limit bytes at v next are r = go v next (reading_as limit bytes at (Ok (v, next)) r)
  where
    rest : List ℕ
    rest = drop at bytes

    go : (v next : ℕ) → At limit bytes at (Ok (v, next)) → Rewritten limit bytes at v next
    go v next (good l s h) =
        let f : first rest ≡ encode (value (first rest)) = exact rest (λ i. rw get_or-drop (are (at + i))) l s in
        let n : length (first rest) ≡ suc (more rest) = length-take-le (suc (more rest)) rest l in
        record {
          within = h;
          stands = sym (take-append-drop (suc (more rest)) rest) ∙ rw (← f, drop-drop);
          next_place = omega (arith, n, ap length f);
          inside = omega (arith, length-drop at bytes);
        }

-- The same of memory: a value that was written is read there again, and a value that was read, written over what it was read
-- from, changes no byte.
pub written_reads : (limit v : ℕ) (out : List ℕ) (used : ℕ)
    → v ≤ limit
    → used + length (encode v) ≤ length out
    → read_at limit (memory v out used) used ≡ Ok (v, used + length (encode v))
written_reads limit v out used h fits =
    read_back limit (memory v out used) used v (drop (used + length (encode v)) out) h
    (rw (memory-fits v out used fits) (splice-from out used (encode v) fits))

pub read_rewrites : (limit : ℕ) (bytes : List ℕ) (at v next : ℕ)
    → AreBytes bytes
    → read_at limit bytes at ≡ Ok (v, next)
    → (written v bytes at ≡ Some next) × (memory v bytes at ≡ bytes)
read_rewrites limit bytes at v next are r =
    let w = rewritten limit bytes at v next are r in
    let fits : at + length (encode v) ≤ length bytes = omega (arith, w.next_place, w.inside) in (
      written-fits v bytes at fits ∙ ap Some (sym w.next_place),
      memory-fits v bytes at fits
          ∙ splice-is bytes at (encode v)
          ∙ rw (append_assoc, ← w.next_place, ← w.stands) (take-append-drop at bytes),
    )

-- The two laws at the limit of document 01.
pub read_back_32 : (bytes : List ℕ) (at v : ℕ) (rest : List ℕ)
    → v ≤ limit32
    → drop at bytes ≡ encode v ++ rest
    → read_at limit32 bytes at ≡ Ok (v, at + length (encode v))
read_back_32 = read_back limit32

pub rewritten_32 : (bytes : List ℕ) (at v next : ℕ)
    → AreBytes bytes
    → read_at limit32 bytes at ≡ Ok (v, next)
    → Rewritten limit32 bytes at v next
rewritten_32 = rewritten limit32

-- A number that is read is within the limit, and takes bytes that are there.
pub value-next : (limit : ℕ) (bytes : List ℕ) (at v next : ℕ)
    → read_at limit bytes at ≡ Ok (v, next)
    → (v ≤ limit) × (at < next) × (next ≤ length bytes)
value-next limit bytes at v next r = go v next (reading_as limit bytes at (Ok (v, next)) r)
  where
    go : (v next : ℕ) → At limit bytes at (Ok (v, next)) → (v ≤ limit) × (at < next) × (next ≤ length bytes)
    go v next (good l s h) = omega (arith, length-drop at bytes)

-- A number that is bad ends in the bytes all the same: the next place is behind it.
pub bad_next : (limit : ℕ) (bytes : List ℕ) (at next : ℕ)
    → read_at limit bytes at ≡ Err (Bad next)
    → (at < next) × (next ≤ length bytes)
bad_next limit bytes at next r = go next (reading_as limit bytes at (Err (Bad next)) r)
  where
    go : (next : ℕ) → At limit bytes at (Err (Bad next)) → (at < next) × (next ≤ length bytes)
    go next (bad l) = omega (arith, length-drop at bytes)

-- How many bytes a value takes: at least one, at most five below 2^32 and ten below 2^64, and no bytes of its value are fewer.
pub length_some : (v : ℕ) → 0 < length (encode v)
length_some v = omega (arith, (encodes [] v).ends)

pub length_32 : (v : ℕ) → v ≤ limit32 → length (encode v) ≤ 5
length_32 v h = encode-length 4 v (omega arith)

pub length_64 : (v : ℕ) → v < 2 ^ 64 → length (encode v) ≤ 10
length_64 v h = encode-length 9 v (omega arith)

value_below : (bs : List ℕ) → value bs < 128 ^ length bs
unfolding value
value_below [] = lit< tt
value_below (b ∷ bs) = omega (arith, value_below bs, pow-succ' 128 (length bs))

pub fewest : (b : ℕ) (bs : List ℕ) → length (encode (value (b ∷ bs))) ≤ length (b ∷ bs)
fewest b bs = encode-length (length bs) (value (b ∷ bs)) (value_below (b ∷ bs))

-- They are bytes.
pub encode-bytes : (v : ℕ) → AreBytes (encode v)
encode-bytes v =
    encode_ind (λ w bs. AreBytes bs)
    (λ w l. cons w [] (omega arith) (λ i. lit< tt))
    (λ g r bs lg lr are. cons (g + 128) bs (omega arith) are)
    v
  where
    cons : (b : ℕ) (bs : List ℕ) → b < 256 → AreBytes bs → AreBytes (b ∷ bs)
    cons b bs l are zero = l
    cons b bs l are (suc i) = are i

-- A number is cut short exactly if every byte from its place on has the high bit set.
pub cut_short : (limit : ℕ) (bytes : List ℕ) (at : ℕ)
    → ((i : ℕ) → at + i < length bytes → 128 ≤ get_or bytes (at + i) 0)
    → read_at limit bytes at ≡ Err CutShort
cut_short limit bytes at all =
    read-cut limit bytes at
    (more_all (drop at bytes) (λ i h. rw get_or-drop (all i (omega (arith, length-drop at bytes)))))

pub cut_short-only : (limit : ℕ) (bytes : List ℕ) (at : ℕ)
    → read_at limit bytes at ≡ Err CutShort
    → (i : ℕ)
    → at + i < length bytes
    → 128 ≤ get_or bytes (at + i) 0
cut_short-only limit bytes at r i h = go (reading_as limit bytes at (Err CutShort) r)
  where
    go : At limit bytes at (Err CutShort) → 128 ≤ get_or bytes (at + i) 0
    go (cut l) = rw (← get_or-drop at bytes i 0) (more-set (drop at bytes) i (omega (arith, length-drop at bytes)))

-- What follows bytes that stand at a place stands behind them.
pub stands_behind : (bytes : List ℕ) (at : ℕ) (bs rest : List ℕ)
    → drop at bytes ≡ bs ++ rest
    → drop (at + length bs) bytes ≡ rest
stands_behind bytes at bs rest e = sym (drop-drop (length bs) at bytes) ∙ rw e (drop-append_seam bs rest)
