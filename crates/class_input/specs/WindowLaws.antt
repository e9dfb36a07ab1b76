-- What the class program reads keeps what it promises of it: laws about the window.
use Rattle.std.specs.Prelude.{ℕ, ◌+◌, ◌-◌, ◌≤◌, ◌<◌, ◌≡◌, refl, ◌⊎◌, Option, length, take, drop}
use mathlib.Core.List.{List, [], ◌++◌, append_assoc, append-nil}
use Rattle.std.proofs.Math.Path.{ap, sym}
use Rattle.std.proofs.Common.{subst, ◌∙◌, inl, inr, arith, length-append, length-drop, length-take-le, take-take, drop-drop, take-add, take_at, drop_at}
use Rattle.std.specs.Io.KnownBytes.{Consumes}
use Rattle.std.proofs.KnownBytes.{Consumes-nil, Consumes-trans}
use lib.Seq.{take-append-le}
use borrow.Rule.Slice.PartMut.{mid_of, put_mid, same_len_mid, mid_len, take_put, drop_put}
use Rattle.number.specs.Number.{splice}
use Rattle.number.specs.Splice.{splice-length, splice_before, splice-from, splice-behind}
use Rattle.rules.specs.Formula.{Formula.◌≼◌}
use Rattle.rules.specs.FormulaLaws.{choose_case}
use Rattle.turns.specs.MemoryPlaces.{least}
use Rattle.class.specs.declared.Report.{Report}
use Rattle.class_rules.specs.Report.{most_bytes}
use Rattle.class.specs.Steps.{asks}
use Rattle.class.specs.Halves.{free_half, InHalf, Apart, free_most, pending_stays}
use Rattle.class_input.specs.declared.Window.{Window}
use Rattle.class_input.specs.Ahead.{behind, Ahead, fewer_ahead, asked_ahead}
use Rattle.class_input.specs.Window.{part, bytes_of, size_of, Inside, Filled, Given}

part_split : (l : List ℕ) (from mid to : ℕ) → from ≤ mid → mid ≤ to → part l from to ≡ part l from mid ++ part l mid to
part_split l from mid to h k =
    let sum : to - from ≡ (mid - from) + (to - mid) = omega arith in
    let there : from + (mid - from) ≡ mid = omega arith in
    ap (λ (n : ℕ). take n (drop from l)) sum
    ∙ take-add (mid - from) (to - mid) (drop from l)
    ∙ ap (λ (rest : List ℕ). part l from mid ++ take (to - mid) rest)
    (drop-drop (mid - from) from l ∙ ap (λ (n : ℕ). drop n l) there)

pub part_length : (l : List ℕ) (from to : ℕ) → to ≤ length l → length (part l from to) ≡ to - from
part_length l from to h = length-take-le (to - from) (drop from l) (rw (length-drop from l) (omega arith))

part_none : (l : List ℕ) (from to : ℕ) → to ≤ from → part l from to ≡ []
part_none l from to h = let e : to - from ≡ 0 = omega arith in rw e refl

take-drop : (l : List ℕ) (from n : ℕ) → from ≤ length l → take n (drop from l) ≡ drop from (take (from + n) l)
take-drop l from n h =
    sym (ap (drop from) (take-add from n l) ∙ drop_at (take from l) (take n (drop from l)) from (length-take-le from l h))

pub least-both : (a b : ℕ) → (least a b ≤ a) × (least a b ≤ b)
least-both a b = choose_case (λ (m : ℕ). (m ≤ a) × (m ≤ b)) (a ≼ b) a b (λ h. (omega arith, h)) (λ h. (omega arith, omega arith))

least_either : (a b : ℕ) → (least a b ≡ a) ⊎ (least a b ≡ b)
least_either a b = choose_case (λ (m : ℕ). (m ≡ a) ⊎ (m ≡ b)) (a ≼ b) a b (λ _. inl refl) (λ _. inr refl)

pub is-least : (a b k : ℕ) → (a ≤ b → k ≡ a) → (b ≤ a → k ≡ b) → k ≡ least a b
is-least a b k below above = choose_case (λ (m : ℕ). k ≡ m) (a ≼ b) a b below (λ n. above (omega arith))

-- the least that is not the first is the second, and below the first
pub least_some : (a b k : ℕ) → k ≡ least a b → (k ≡ a → ⊥) → (k ≡ b) × (b < a)
least_some a b k =
    choose_case (λ (m : ℕ). k ≡ m → (k ≡ a → ⊥) → (k ≡ b) × (b < a)) (a ≼ b) a b (λ _ e n. absurd (n e)) (λ h e n. (e, omega arith))

-- the window as it was, and one that was read where it was empty
module _ (w : Window) (left : ℕ) (input : List ℕ) where
  pub filled-same : Inside w input → Filled w left input input w
  filled-same i = record { inside = i; came = []; order = sym (append-nil (bytes_of w input)); few = inl refl }

  pub filled-new : (input' : List ℕ) (got : ℕ) → (w.from < w.to → ⊥) → got ≤ length input' → got ≤ 1 + behind left
      → Filled w left input input' (record { from = 0; to = got })
  filled-new input' got none within few =
      record {
        inside = (omega arith, within);
        came = part input' 0 got;
        order = rw (part_none input w.from w.to (omega arith)) refl;
        few = inr (omega (arith, few));
      }

  -- and what came is what a reader had next: nothing where no read was made, else what it gave
  pub filled_unread : (known : Option (List ℕ)) → Inside w input
      → (f : Filled w left input input w) × Consumes known known f.came
  unfolding filled-same
  filled_unread known i = (filled-same i, Consumes-nil known)

  pub filled_read : (old new : Option (List ℕ)) (bytes rest : List ℕ) (got : ℕ) → (w.from < w.to → ⊥) → got ≤ length bytes
      → got ≤ 1 + behind left → Consumes old new (take got bytes)
      → (f : Filled w left input (bytes ++ rest) (record { from = 0; to = got })) × Consumes old new f.came
  unfolding filled-new
  filled_read old new bytes rest got none within few read =
      let whole : got - 0 ≡ got = omega arith in
      let same : take (got - 0) (bytes ++ rest) ≡ take got bytes =
      ap (λ (n : ℕ). take n (bytes ++ rest)) whole ∙ take-append-le got bytes rest within in (
        filled-new (bytes ++ rest) got none (omega (arith, within, length-append bytes rest)) few,
        subst (λ (l : List ℕ). Consumes old new l) (sym same) read,
      )

pub apart_same : (room room' : List ℕ) (place n : ℕ) → room' ≡ room → Apart room room' place n
apart_same room room' place n e = record { long = ap length e; front = ap (take place) e; back = ap (drop (place + n)) e }

-- what a read leaves as it is, of a part of the memory
pub apart_read : (room bytes : List ℕ) (from to : ℕ) → from ≤ to → to ≤ length room
    → length bytes ≡ length (mid_of from (to - from) room)
    → Apart room (put_mid from (to - from) room bytes) from (to - from)
apart_read room bytes from to h k same =
    let there : from + (to - from) ≡ to = omega arith in
    let size : length bytes ≡ to - from = same ∙ mid_len from to room k in
    record {
      long = same_len_mid from (to - from) room bytes same;
      front = take_put from (to - from) room bytes (omega arith);
      back = rw there (drop_put from to room bytes h k size);
    }

-- nothing is asked for
pub given_none : (r : Report) (w : Window) (place : ℕ) (input room : List ℕ) → asks r ≡ 0 → length room ≡ 65536
    → place ≡ free_half r.pending → Inside w input
    → Ahead r (size_of w) → Given r w place input input room room (record { end = place; window = w })
given_none r w place input room nothing long is i ahead =
    let none : part room place place ≡ [] = part_none room place place (omega arith) in
    record {
      long = refl;
      from = omega arith;
      inside = omega (arith, free_most r.pending);
      window = i;
      most = omega arith;
      all = inl (omega arith);
      came = [];
      order = rw none (sym (append-nil (bytes_of w input)));
      few = fewer_ahead r (size_of w) ahead (place - place + size_of w) (omega arith);
      stays = refl;
    }

-- and what came is what a reader had next: nothing
pub given_unread : (known : Option (List ℕ)) (r : Report) (w : Window) (place : ℕ) (input room : List ℕ) → asks r ≡ 0
    → length room ≡ 65536 → place ≡ free_half r.pending → Inside w input → Ahead r (size_of w)
    → (g : Given r w place input input room room (record { end = place; window = w })) × Consumes known known g.came
unfolding given_none
given_unread known r w place input room nothing long is i ahead =
    (given_none r w place input room nothing long is i ahead, Consumes-nil known)

-- nothing is read between a place and itself
pub came_none : (known : Option (List ℕ)) (room : List ℕ) (place : ℕ) → Consumes known known (part room place place)
came_none known room place = rw (part_none room place place (omega arith)) (Consumes-nil known)

-- a window is no smaller once it is filled
pub filled_grows : (w : Window) (left : ℕ) (input input' : List ℕ) (full : Window) → Inside w input → Filled w left input input' full
    → size_of w ≤ size_of full
filled_grows w left input input' full i f =
    omega (
      arith,
      part_length input w.from w.to i.1,
      part_length input' full.from full.to f.inside.1,
      ap length f.order,
      length-append (bytes_of w input) f.came,
    )

-- What a report asks for, handed: first of the window as it is then,
-- into the free half, and the rest, if it was used up, from a read.
module _ (r : Report) (w full : Window) (place n k last : ℕ) (input input' room room' : List ℕ)
    (asked : n ≡ asks r) (some : n ≡ 0 → ⊥) (most : n ≤ most_bytes) (long : length room ≡ 65536) (half : InHalf r.pending)
    (is : place ≡ free_half r.pending) (ahead : Ahead r (size_of w)) (f : Filled w r.left input input' full) (told : k
    ≡ least n (size_of full))
    (rest : Apart (splice room place (part input' full.from (full.from + k))) room' (place + k) (place + n - (place + k)))
    (from : place + k ≤ last) (to : last ≤ place + n) (either : (last ≡ place + k) ⊎ (k ≡ n → ⊥)) where
  abbrev bytes : List ℕ
  bytes = part input' full.from (full.from + k)

  -- no more than are asked for, and no more than are there
  fits : (k ≤ n) × (k ≤ size_of full)
  fits = rw told (least-both n (size_of full))

  within : place + n ≤ length room
  within = omega (arith, free_most r.pending)

  size : length bytes ≡ k
  size = part_length input' full.from (full.from + k) (omega (arith, fits.1, f.inside.1)) ∙ omega arith

  abbrev room₁ : List ℕ
  room₁ = splice room place bytes

  held : place + length bytes ≤ length room
  held = omega (arith, size, fits.0, within)

  apart : Apart room room' place n
  apart =
      let there : place + k + (place + n - (place + k)) ≡ place + n = omega (arith, fits.0) in
      let behind : drop (place + k) room₁ ≡ drop (place + k) room = rw size at (splice-behind room place bytes held) in
      let sum : place + k + (n - k) ≡ place + n = omega (arith, fits.0) in
      record {
        long = rest.long ∙ splice-length room place bytes held;
        front =
            sym (take-take place (place + k) room' (omega arith))
            ∙ ap (take place) rest.front
            ∙ take-take place (place + k) room₁ (omega arith)
            ∙ splice_before room place bytes held;
        back =
            (rw there at rest.back)
            ∙ rw (sym sum)
            (sym (drop-drop (n - k) (place + k) room₁) ∙ ap (drop (n - k)) behind ∙ drop-drop (n - k) (place + k) room);
      }

  -- what was handed of the window
  handed : part room' place (place + k) ≡ bytes
  handed =
      let e : place + k - place ≡ k = omega arith in
      rw e
      (take-drop room' place k (omega (arith, apart.long, within))
      ∙ ap (drop place) rest.front
      ∙ sym (take-drop room₁ place k (omega (arith, splice-length room place bytes held, within)))
      ∙ ap (take k) (splice-from room place bytes held)
      ∙ take_at bytes (drop (place + length bytes) room) k size)

  -- the window, taken apart
  window_parts : bytes ++ part input' (full.from + k) full.to ≡ bytes_of full input'
  window_parts =
      sym (part_split input' full.from (full.from + k) full.to (omega arith) (omega (arith, fits.1, f.inside.0)))

  -- all that were asked for came from the window, or it is used up
  used : (k ≡ n) ⊎ (k ≡ size_of full)
  used = rw told (least_either n (size_of full))

  abbrev Ended : Type 0
  Ended = (last ≡ place + k) ⊎ (k ≡ size_of full)

  ended : Ended
  ended = go either used
    where
      go : (last ≡ place + k) ⊎ (k ≡ n → ⊥) → (k ≡ n) ⊎ (k ≡ size_of full) → Ended
      go (inl e) u = inl e
      go (inr not) (inl e) = absurd (not e)
      go (inr not) (inr e) = inr e

  all : (last - place ≡ asks r) ⊎ (full.to - (full.from + k) ≡ 0)
  all = go ended used
    where
      go : Ended → (k ≡ n) ⊎ (k ≡ size_of full) → (last - place ≡ asks r) ⊎ (full.to - (full.from + k) ≡ 0)
      go (inl e) (inl whole) = inl (omega arith)
      go (inl e) (inr none) = inr (omega arith)
      go (inr none) u = inr (omega arith)

  came : Ended → List ℕ
  came (inl e) = f.came
  came (inr e) = f.came ++ part room' (place + k) last

  order : (c : Ended) → part room' place last ++ part input' (full.from + k) full.to ≡ bytes_of w input ++ came c
  unfolding came
  order (inl e) =
      ap (λ (l : List ℕ). l ++ part input' (full.from + k) full.to) (ap (part room' place) e ∙ handed) ∙ window_parts
      ∙ f.order
  order (inr e) =
      let none : part input' (full.from + k) full.to ≡ [] = part_none input' (full.from + k) full.to (omega arith) in
      let whole : bytes ≡ bytes_of full input' = sym (append-nil bytes) ∙ (rw none at window_parts) in
      let more = part room' (place + k) last in
      rw (none, append-nil)
      (part_split room' place (place + k) last (omega arith) from
      ∙ ap (λ (l : List ℕ). l ++ more) (handed ∙ whole ∙ f.order)
      ∙ append_assoc (bytes_of w input) f.came more)

  few : Ended → Ahead r (last - place + (full.to - (full.from + k)))
  few (inl e) = go f.few
    where
      go : (size_of full ≡ size_of w) ⊎ (size_of full ≤ 1 + behind r.left)
          → Ahead r (last - place + (full.to - (full.from + k)))
      go (inl same) = fewer_ahead r (size_of w) ahead _ (omega (arith, fits.1))
      go (inr new) = asked_ahead r (size_of w) ahead _ (λ z. some (asked ∙ z)) (omega (arith, fits.1))
  few (inr e) = asked_ahead r (size_of w) ahead _ (λ z. some (asked ∙ z)) (omega (arith, fits.1))

  pub given-read : Given r w place input input' room room'
      (record { end = last; window = record { from = full.from + k; to = full.to } })
  given-read =
      record {
        long = apart.long;
        from = omega arith;
        inside = omega (arith, apart.long, within);
        window = (omega (arith, fits.1, f.inside.0), f.inside.1);
        most = omega arith;
        all = all;
        came = came ended;
        order = order ended;
        few = few ended;
        stays = pending_stays room room' n r.pending most half (subst (λ (at : ℕ). Apart room room' at n) is apart);
      }

  -- and what came is what a reader had next: what came into the window, and what came behind it
  module _ (old mid new : Option (List ℕ)) (into : Consumes old mid f.came) (behind_it : Consumes mid new (part room' (place + k) last)) where
    came-read : (c : Ended) → Consumes old new (came c)
    unfolding came
    came-read (inl e) =
        let none : part room' (place + k) last ≡ [] = part_none room' (place + k) last (omega arith) in
        subst (Consumes old new) (append-nil f.came) (Consumes-trans old mid new f.came [] into (subst (Consumes mid new) none behind_it))
    came-read (inr e) = Consumes-trans old mid new f.came (part room' (place + k) last) into behind_it

    pub given_came : (g : Given r w place input input' room room'
        (record { end = last; window = record { from = full.from + k; to = full.to } })) × Consumes old new g.came
    unfolding given-read came
    given_came = (given-read, came-read ended)
