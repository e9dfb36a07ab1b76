-- Two sheets in one memory: the pending one lies in one half, and what is read next goes into the other.
use Rattle.std.specs.Prelude.{ℕ, ◌+◌, ◌-◌, ◌≤◌, List, [], ◌∷◌, ◌≡◌, refl, ◌⊎◌, take, drop, Option, None, Some}
use Rattle.std.proofs.Common.{ap, sym, ◌∙◌, inl, inr, take-take, drop-drop}
use native.Mathlib.Omega.{arith}
use Rattle.std.proofs.Math.ListN.{length}
use Rattle.session.specs.Table.{Session}
use Rattle.rules.specs.Formula.{choose, Formula.◌≐◌, Formula.◌≼◌}
use Rattle.rules.specs.FormulaLaws.{choose_yes, choose_no, choose_case}
use Rattle.class.specs.declared.Report.{Report}
use Rattle.class.specs.declared.Turned.{Turned}
use Rattle.class.specs.declared.Stage.{Stage}
use Rattle.class.specs.declared.Stage.TheVariants.{Head, Count, Learner, Turn, Length, Sheet, Line, Last, Nothing}
use Rattle.number.specs.declared.reader.Fed.{Fed}
use Rattle.number.specs.declared.reader.Fed.TheVariants.{More, Whole, Bad}
use Rattle.number.specs.Number.{limit32}
use Rattle.number.specs.Fed.{fed}
use Rattle.turns.specs.MemoryPlaces.{least}
use Rattle.class_rules.specs.Report.{most_bytes, fits}
use Rattle.class.specs.Steps.{going, valued, numbered, byte, Did, turned_in, sheet_of, pending_in, closed, superseded, after}
use Rattle.class.specs.Steps.{taken, sheet_taken, does_at, does}

-- where the half begins in which no pending sheet lies
unfoldable pub free_half : Option Turned → ℕ
free_half None = 0
free_half (Some p) = choose (p.place ≐ 0) most_bytes 0

-- The pending sheet lies in one half.
abbrev pub InHalf : Option Turned → Type 0
InHalf None = Unit {0}
InHalf (Some p) = ((p.place ≡ 0) ⊎ (p.place ≡ most_bytes)) × (p.length ≤ most_bytes)

-- So many bytes from a place on may have changed, and no other.
pub record Apart (room room' : List ℕ) (place n : ℕ) : Type 0 where
  pub long : length room' ≡ length room
  pub front : take place room' ≡ take place room
  pub back : drop (place + n) room' ≡ drop (place + n) room

-- What is read into the free half leaves the pending sheet as it is.
same_sheet : (room room' : List ℕ) (n : ℕ) (p : Turned) → n ≤ most_bytes → InHalf (Some p)
    → Apart room room' (free_half (Some p)) n
    → sheet_of room' p ≡ sheet_of room p
unfolding free_half
same_sheet room room' n p few h a = go h.0
  where
    go : (p.place ≡ 0) ⊎ (p.place ≡ most_bytes) → sheet_of room' p ≡ sheet_of room p
    go (inl e) =
        let front : take most_bytes room' ≡ take most_bytes room = rw (choose_yes (p.place ≐ 0) most_bytes 0 e) at a.front in
        rw e
        (sym (take-take p.length most_bytes room' h.1) ∙ ap (take p.length) front
        ∙ take-take p.length most_bytes room h.1)
    go (inr e) =
        let from = free_half (Some p) + n in
        let k : from + (most_bytes - n) ≡ p.place = omega (arith, choose_no (p.place ≐ 0) most_bytes 0 (λ z. omega arith)) in
        ap (take p.length)
        (rw (sym k)
        (sym (drop-drop (most_bytes - n) from room') ∙ ap (drop (most_bytes - n)) a.back ∙ drop-drop (most_bytes - n) from room))

pub pending_stays : (room room' : List ℕ) (n : ℕ) (p : Option Turned) → n ≤ most_bytes → InHalf p → Apart room room' (free_half p) n
    → pending_in room' p ≡ pending_in room p
pending_stays room room' n None few h a = refl
pending_stays room room' n (Some p) few h a =
    ap (λ (sheet : List ℕ). record { learner = p.learner; turn = p.turn; sheet = sheet } ∷ [])
    (same_sheet room room' n p few h a)

pub free_most : (p : Option Turned) → free_half p ≤ most_bytes
unfolding free_half
free_most None = omega arith
free_most (Some p) = choose_case (λ n. n ≤ most_bytes) (p.place ≐ 0) most_bytes 0 (λ _. omega arith) (λ _. omega arith)

-- A step leaves the pending sheet in a half, where it is handed bytes in a half.
pub free_half_lem : (p : Option Turned) → (free_half p ≡ 0) ⊎ (free_half p ≡ most_bytes)
unfolding free_half
free_half_lem None = inl refl
free_half_lem (Some p) = choose_case (λ n. (n ≡ 0) ⊎ (n ≡ most_bytes)) (p.place ≐ 0) most_bytes 0 (λ _. inr refl) (λ _. inl refl)

valued-pending : (r : Report) (stage : Stage) (v : ℕ) → (valued r stage v).pending ≡ r.pending
unfolding valued going
valued-pending r Head v = refl
valued-pending r Count v = refl
valued-pending r Learner v = refl
valued-pending r Turn v = refl
valued-pending r Length v = refl
valued-pending r Sheet v = refl
valued-pending r Line v = refl
valued-pending r Last v = refl
valued-pending r Nothing v = refl

byte-pending : (r : Report) (stage : Stage) (bytes : List ℕ) → (byte r stage bytes).pending ≡ r.pending
unfolding byte numbered
byte-pending r stage [] = refl
byte-pending r stage (b ∷ more) = go (fed limit32 r.number b)
  where
    go : (f : Fed) → (numbered r stage f).pending ≡ r.pending
    go (More next) = refl
    go (Whole v) = valued-pending r stage v
    go Bad = refl

module _ (room : List ℕ) (at : ℕ) (bytes : List ℕ) (r : Report) (s : Session) (long : most_bytes ≤ length room) (half : (at ≡ 0)
    ⊎ (at ≡ most_bytes)) (h : InHalf r.pending) where
  Halved : Did → Type 0
  Halved d = InHalf d.report.pending

  superseded_half : (p : Turned) → r.length ≤ most_bytes → InHalf (Some p)
      → InHalf (Some (superseded room p (turned_in r at)))
  unfolding superseded
  superseded_half p few i =
      let stays : least p.place (length room) ≡ p.place =
      choose_yes (p.place ≼ length room) p.place (length room) (inside i.0) in
      choose_case (λ (q : Turned). InHalf (Some q)) (p.turn ≼ r.turn) _ _ (λ _. (half, few)) (λ _. (rw stays i.0, i.1))
    where
      inside : (p.place ≡ 0) ⊎ (p.place ≡ most_bytes) → p.place ≤ length room
      inside (inl e) = omega arith
      inside (inr e) = omega arith

  taken_half : r.length ≤ most_bytes → (p : Option Turned) → InHalf p → Halved (taken room r s at p)
  unfolding Halved taken after going
  taken_half few None i = (half, few)
  taken_half few (Some p) i =
      choose_case Halved _ _ _ (λ _. choose_case Halved _ _ _ (λ _. superseded_half p few i) (λ _. (half, few))) (λ _. h)

  closed_half : (p : Option Turned) → Halved (closed room r s p)
  unfolding Halved closed
  closed_half None = tt
  closed_half (Some p) = tt

  half_at : (stage : Stage) → Halved (does_at room at bytes r s stage)
  unfolding Halved does_at sheet_taken
  half_at Head = h
  half_at Count = rw (byte-pending r Count bytes) h
  half_at Learner = rw (byte-pending r Learner bytes) h
  half_at Turn = rw (byte-pending r Turn bytes) h
  half_at Length = rw (byte-pending r Length bytes) h
  half_at Sheet = choose_case Halved (fits bytes 0 r.length) _ _ (λ f. taken_half f.0 r.pending h) (λ _. h)
  half_at Line = closed_half r.pending
  half_at Last = h
  half_at Nothing = h

  pub does_half : InHalf (does room at bytes r s).report.pending
  unfolding Halved
  does_half = half_at r.stage
