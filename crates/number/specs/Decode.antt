-- What reading finds in the bytes of a value, and which bytes give a value.
use Rattle.std.specs.Prelude.{ℕ, zero, suc, ◌+◌, ◌*◌, ◌/◌, ◌%◌, ◌≤◌, ◌<◌, Bool, true, false, List, [], ◌∷◌, ◌++◌, ◌≡◌, refl, ltb, leb, length, get_or}
use Rattle.std.proofs.Common.{ap, sym, ◌∙◌, arith, length-take-le, lt-ltb, le-ltb, le-leb, ltb-true, leb-true, leb-false}
use Rattle.std.proofs.lemmas.Bool.{lt-leb}
use Rattle.number.specs.Number.{AreBytes, encode, more, first, value, last_byte, shortest}
use Rattle.number.specs.Encode.{Groups, one, several, groups, encode_one, encode_several, encode_ind}

pub more_last : (b : ℕ) (bs : List ℕ) → b < 128 → more (b ∷ bs) ≡ 0
unfolding more
more_last b bs l = rw (lt-ltb b 128 l, more)

pub more_on : (b : ℕ) (bs : List ℕ) → 128 ≤ b → more (b ∷ bs) ≡ suc (more bs)
unfolding more
more_on b bs l = rw (le-ltb b 128 l, more)

-- so many bytes have the high bit set
pub more-set : (bs : List ℕ) (i : ℕ) → i < more bs → 128 ≤ get_or bs i 0
unfolding more
more-set [] i h = absurd (no h)
  where
    no : i < 0 → ⊥
    no h = omega arith
more-set (b ∷ bs) i h = go (groups b) i h (more-set bs)
  where
    go : Groups b → (i : ℕ) → i < more (b ∷ bs) → ((j : ℕ) → j < more bs → 128 ≤ get_or bs j 0) → 128 ≤ get_or (b ∷ bs) i 0
    go (one l) i h ih = absurd (let z : i < 0 = rw (more_last b bs l) at h in omega arith)
    go (several l) zero h ih = l
    go (several l) (suc i) h ih = ih i (omega (arith, more_on b bs l))

-- and where all have it there is no last byte
pub more_all : (bs : List ℕ) → ((i : ℕ) → i < length bs → 128 ≤ get_or bs i 0) → length bs ≤ more bs
more_all [] all = omega arith
more_all (b ∷ bs) all = omega (arith, more_on b bs (all 0 (omega arith)), more_all bs (λ i h. all (suc i) (omega arith)))

last_byte-one : (b : ℕ) → last_byte (b ∷ []) ≡ b
unfolding last_byte
last_byte-one b = refl

pub last_byte_cons : (b : ℕ) (bs : List ℕ) → 0 < length bs → last_byte (b ∷ bs) ≡ last_byte bs
unfolding last_byte
last_byte_cons b [] l = absurd (no l)
  where
    no : 0 < 0 → ⊥
    no l = omega arith
last_byte_cons b (c ∷ cs) l = refl

pub shortest-one : (bs : List ℕ) → length bs ≤ 1 → shortest bs ≡ true
unfolding shortest
shortest-one bs l = rw (le-leb (length bs) 1 l, shortest)

pub shortest_several : (bs : List ℕ) → 1 < length bs → shortest bs ≡ ltb 0 (last_byte bs)
unfolding shortest
shortest_several bs l = rw (lt-leb (length bs) 1 l, shortest)

pub shortest_nonzero : (bs : List ℕ) → 0 < last_byte bs → shortest bs ≡ true
shortest_nonzero bs l = go (leb (length bs) 1) refl
  where
    go : (b : Bool) → leb (length bs) 1 ≡ b → shortest bs ≡ true
    go true e = shortest-one bs (leb-true (length bs) 1 e)
    go false e = shortest_several bs (leb-false (length bs) 1 e) ∙ lt-ltb 0 (last_byte bs) l

-- a value's bytes, whatever follows them
pub record Encodes (rest : List ℕ) (v : ℕ) (bs : List ℕ) : Type 0 where
  pub ends : suc (more (bs ++ rest)) ≡ length bs
  pub values : value bs ≡ v
  pub nonzero : 0 < v → 0 < last_byte bs
  pub short : shortest bs ≡ true

pub encodes : (rest : List ℕ) (v : ℕ) → Encodes rest v (encode v)
unfolding value last_byte
encodes rest v = encode_ind (Encodes rest) single front v
  where
    single : (v : ℕ) → v < 128 → Encodes rest v (v ∷ [])
    single v l = record {
      ends = ap suc (more_last v rest l);
      values = omega arith;
      nonzero = λ h. h;
      short = shortest-one (v ∷ []) (omega arith);
    }

    front : (g r : ℕ) (bs : List ℕ) → g < 128 → 1 ≤ r → Encodes rest r bs → Encodes rest (g + 128 * r) ((g + 128) ∷ bs)
    front g r bs lg lr e =
        let h : 0 < length bs = omega (arith, e.ends) in
        let f : 0 < last_byte ((g + 128) ∷ bs) = rw (last_byte_cons (g + 128) bs h) (e.nonzero lr) in
        record {
          ends = ap suc (more_on (g + 128) (bs ++ rest) (omega arith) ∙ e.ends);
          values = omega (arith, e.values);
          nonzero = λ _. f;
          short = shortest_nonzero ((g + 128) ∷ bs) f;
        }

-- these are the bytes of their value
abbrev Exact : List ℕ → Type 0
Exact number = number ≡ encode (value number)

exact_one : (b : ℕ) → b < 128 → Exact (b ∷ [])
unfolding value
exact_one b l =
    let e : value (b ∷ []) ≡ b = omega arith in
    rw e (sym (encode_one b l))

-- and their value is not 0
abbrev Positive : List ℕ → Type 0
Positive number = (0 < value number) × Exact number

positive_one : (b : ℕ) → b < 128 → 0 < b → Positive (b ∷ [])
unfolding value
positive_one b l p = (omega arith, exact_one b l)

positive_front : (b : ℕ) (bs : List ℕ) → 128 ≤ b → b < 256 → Positive bs → Positive (b ∷ bs)
unfolding value
positive_front b bs l u d =
    let v = value (b ∷ bs) in
    let g : v % 128 + 128 ≡ b = omega arith in
    let r : v / 128 ≡ value bs = omega arith in
    let e : (v % 128 + 128) ∷ encode (v / 128) ≡ b ∷ bs = cc (g, r, d.1) in
    (omega arith, sym (encode_several v (omega arith) ∙ e))

first_last : (b : ℕ) (bs : List ℕ) → b < 128 → first (b ∷ bs) ≡ b ∷ []
first_last b bs l = rw (more_last b bs l)

first_on : (b : ℕ) (bs : List ℕ) → 128 ≤ b → first (b ∷ bs) ≡ b ∷ first bs
first_on b bs l = rw (more_on b bs l)

length-first : (bs : List ℕ) → more bs < length bs → length (first bs) ≡ suc (more bs)
length-first bs l = length-take-le (suc (more bs)) bs l

-- so it is where the last byte is not 0
positive : (bs : List ℕ) → AreBytes bs → more bs < length bs → 0 < last_byte (first bs) → Positive (first bs)
positive [] bytes l f = absurd (no l)
  where
    no : more [] < 0 → ⊥
    no l = omega arith
positive (b ∷ bs) bytes l f = go (groups b) (positive bs (λ i. bytes (suc i)))
  where
    go : Groups b → (more bs < length bs → 0 < last_byte (first bs) → Positive (first bs)) → Positive (first (b ∷ bs))
    go (one h) ih = rw (first_last b bs h) (positive_one b h (rw (first_last b bs h, last_byte-one) at f))
    go (several h) ih =
        let m : more bs < length bs = omega (arith, more_on b bs h) in
        let n : 0 < length (first bs) = omega (arith, length-first bs m) in
        rw (first_on b bs h)
        (positive_front b (first bs) h (bytes 0) (ih m (rw (first_on b bs h, last_byte_cons b (first bs) n) at f)))

-- Reading by its test: a number in its shortest form is made of the bytes of its value.
pub exact : (bs : List ℕ)
    → AreBytes bs
    → more bs < length bs
    → shortest (first bs) ≡ true
    → first bs ≡ encode (value (first bs))
exact [] bytes l s = absurd (no l)
  where
    no : more [] < 0 → ⊥
    no l = omega arith
exact (b ∷ bs) bytes l s = go (groups b)
  where
    go : Groups b → Exact (first (b ∷ bs))
    go (one h) = rw (first_last b bs h) (exact_one b h)
    go (several h) =
        let n : 1 < length (first (b ∷ bs)) = omega (arith, length-first (b ∷ bs) l, more_on b bs h) in
        (positive (b ∷ bs) bytes l (ltb-true 0 (last_byte (first (b ∷ bs))) (sym (shortest_several (first (b ∷ bs)) n) ∙ s))).1
