-- Letting go of holds: the slots of one task, the blocks that it made, and then the doomed blocks that nobody holds.
use Rattle.std.specs.Prelude.{ℕ, ◌+◌, ◌*◌, ◌/◌, ◌≤◌, ◌<◌, ◌≡◌, ◌⊎◌}
use Rattle.std.proofs.Math.Path.{refl, sym, ap}
use Rattle.std.proofs.Common.{◌∙◌}
use Rattle.std.proofs.Math.Logic.{inl, inr}
use native.Mathlib.Omega.{arith}
use Rattle.session.specs.Table.{Session, put, change, sweep}
use Rattle.session.specs.TableLaws.{sweep-change, sweep-more, sweep_past}
use Rattle.session.specs.declared.Field.{Field}
use Rattle.session.specs.declared.Field.TheVariants.{Objects, BlockState, BlockCreator, BlockHeld, SlotMark, SlotPayload}
use Rattle.session.specs.Names.{held, satisfied, doomed, block_destroyed, most_objects}
use Rattle.rules.specs.Formula.{Formula, Holds, choose, not, Formula.◌≐◌, Formula.◌and◌, Formula.◌or◌}
use Rattle.rules.specs.FormulaLaws.{Case, decide, choose_yes, choose_no, choose-same, Case.it_does, Case.it_does_not}
use Rattle.rules.specs.Reading.{at, is_held}
use Rattle.rules.specs.Effects.{let_go, bury_doomed, release}
use Rattle.laws.specs.Places.{put_there}
use Rattle.laws.specs.LettingGo.{was-held}
use Rattle.reading.specs.Holds.{Active}
use Rattle.laws.specs.Puts.{put_same}
use Rattle.holding.specs.SweepRows.{row, rows, own-end, change-same, change-at}
use Rattle.reading.specs.Finding.{Passed}
use Rattle.holding.specs.Passing.{sweep_passed}

-- the blocks to let go of: one, or all of them where it is 0
abbrev pub wanted : ℕ → ℕ → Formula
wanted b k = b ≐ 0 or k ≐ b

-- a slot's mark, and the mark by its row
unfoldable pub mark_after : ℕ → ℕ → ℕ → ℕ
mark_after mark payload b = choose (mark ≐ held and wanted b payload) satisfied mark

unfoldable pub mark_row : ℕ → ℕ → ℕ → (Field → ℕ) → ℕ
mark_row t b i r = choose ((i / 16 ≐ t) and (r SlotMark ≐ held) and wanted b (r SlotPayload)) satisfied (r SlotMark)

-- the slots of t
unfoldable pub slots_let_go : Session → ℕ → ℕ → Session
unfolding mark_row
slots_let_go s t b = change s SlotMark (rows (mark_row t b) s)

pub mark_row-own : (t b j : ℕ) (r : Field → ℕ) → j < 16 → mark_after (r SlotMark) (r SlotPayload) b ≡ mark_row t b (t * 16 + j) r
unfolding mark_after mark_row
mark_row-own t b j r h =
    choose-same (r SlotMark ≐ held and wanted b (r SlotPayload))
    (((t * 16 + j) / 16 ≐ t) and (r SlotMark ≐ held) and wanted b (r SlotPayload)) satisfied (r SlotMark) (λ x. (omega arith, x))
    (λ x. x.1)

pub mark_row-other : (s : Session) (t b i : ℕ) → (i / 16 ≡ t → ⊥) → mark_row t b i (row s i) ≡ s SlotMark i
unfolding mark_row
mark_row-other s t b i n =
    choose_no ((i / 16 ≐ t) and (s SlotMark i ≐ held) and wanted b (s SlotPayload i)) satisfied (s SlotMark i) (λ x. n x.0)

pub slots_end : (s : Session) (t b j : ℕ) → j ≡ 16 → sweep s SlotMark (t * 16 + j) (rows (mark_row t b) s) ≡ slots_let_go s t b
unfolding slots_let_go
slots_end s t b j e = own-end s t (mark_row t b) (mark_row-other s t b) j e

-- the blocks that t made
unfoldable pub made_row : ℕ → ℕ → (Field → ℕ) → ℕ
made_row t k r = choose (r BlockCreator ≐ t) 0 (r BlockHeld)

unfoldable pub made_let_go : Session → ℕ → Session
unfolding made_row
made_let_go s t = change s BlockHeld (rows (made_row t) s)

abbrev pub Unheld : Session → Type 0
Unheld s = (b : ℕ) → s Objects 0 < b → s BlockHeld b ≡ 0

-- a block that t did not make stays
made_stays : (s : Session) (t b : ℕ) → (s BlockCreator b ≡ t → ⊥) → made_row t b (row s b) ≡ s BlockHeld b
unfolding made_row
made_stays s t b n = choose_no (s BlockCreator b ≐ t) 0 (s BlockHeld b) n

-- and is passed
pub made_passed : (s r : Session) (t m n : ℕ) → r ≡ sweep s BlockHeld m (rows (made_row t) s) → Passed r BlockCreator t m n
    → sweep s BlockHeld m (rows (made_row t) s) ≡ sweep s BlockHeld n (rows (made_row t) s)
made_passed s r t m n p q = sweep_passed s r BlockHeld BlockCreator t m n (rows (made_row t) s) p q (made_stays s t)

pub made-end : (s : Session) (t n : ℕ) → Unheld s → s Objects 0 < n → sweep s BlockHeld n (rows (made_row t) s) ≡ made_let_go s t
unfolding made_let_go made_row
made-end s t n u e =
    sweep-change s BlockHeld n (rows (made_row t) s) (λ b l. go b (u b (omega arith)) (decide (s BlockCreator b ≐ t)))
  where
    go : (b : ℕ) → s BlockHeld b ≡ 0 → Case (s BlockCreator b ≐ t)
        → choose (s BlockCreator b ≐ t) 0 (s BlockHeld b) ≡ s BlockHeld b
    go b z (it_does x) = choose_yes (s BlockCreator b ≐ t) 0 (s BlockHeld b) x ∙ sym z
    go b z (it_does_not n) = made_stays s t b n

-- the doomed blocks
unfoldable pub buried : Session → ℕ → ℕ
buried s b = choose (s BlockState b ≐ doomed and not (is_held s b)) block_destroyed (s BlockState b)

abbrev pub Unmarked : Session → Type 0
Unmarked s = (b : ℕ) → s Objects 0 < b → s BlockState b ≡ 0

pub buried-more : (s r : Session) (n : ℕ) → r ≡ sweep s BlockState n (buried s)
    → put r BlockState n (buried r n) ≡ sweep s BlockState (n + 1) (buried s)
unfolding buried sweep
buried-more s r n p =
    let e : buried r n ≡ buried s n = ap (λ (x : Session). buried x n) p ∙ ap
    (λ (v : ℕ). choose (v ≐ doomed and not (is_held s n)) block_destroyed v)
    (sweep_past s BlockState n (buried s) BlockState n (omega arith)) in
    rw (e, p) (sweep-more s BlockState n (buried s))

-- a block that is not doomed, or held, stays
bury_stays : (s : Session) (b : ℕ) → ((s BlockState b ≡ doomed) × (Holds (is_held s b) → ⊥) → ⊥) → buried s b ≡ s BlockState b
unfolding buried
bury_stays s b n = choose_no (s BlockState b ≐ doomed and not (is_held s b)) block_destroyed (s BlockState b) n

-- and is passed where it is not doomed
pub buried_passed : (s r : Session) (m n : ℕ) → r ≡ sweep s BlockState m (buried s) → Passed r BlockState doomed m n
    → sweep s BlockState m (buried s) ≡ sweep s BlockState n (buried s)
buried_passed s r m n p q =
    sweep_passed s r BlockState BlockState doomed m n (buried s) p q (λ j d. bury_stays s j (λ x. d x.0))

pub buried-end : (s : Session) (n : ℕ) → Unmarked s → s Objects 0 < n → sweep s BlockState n (buried s) ≡ bury_doomed s
unfolding buried bury_doomed
buried-end s n u e =
    sweep-change s BlockState n (buried s)
    (λ b l. bury_stays s b (λ x. let z = u b (omega arith) in let d = x.0 in omega arith))

-- letting go of everything: the three in a row
pub let_go_all : (s : Session) (t : ℕ) → let_go s t (λ k. 0 ≐ 0) ≡ bury_doomed (made_let_go (slots_let_go s t 0) t)
unfolding let_go slots_let_go made_let_go mark_row made_row change
let_go_all s t =
    ap bury_doomed
    (ap (λ (x : Session). change x BlockHeld (λ b. choose (s BlockCreator b ≐ t and 0 ≐ 0) 0 (s BlockHeld b)))
    (change-same s SlotMark _ _
    (λ i. choose-same ((i / 16 ≐ t) and (s SlotMark i ≐ held) and 0 ≐ 0)
    ((i / 16 ≐ t) and (s SlotMark i ≐ held) and wanted 0 (s SlotPayload i)) satisfied (s SlotMark i)
    (λ x. (x.0, (x.1.0, inl refl))) (λ x. (x.0, (x.1.0, refl)))))
    ∙ change-same _ BlockHeld _ _
    (λ b. choose-same (s BlockCreator b ≐ t and 0 ≐ 0) (s BlockCreator b ≐ t) 0 (s BlockHeld b) (λ x. x.0) (λ x. (x, refl))))

-- one block that t made, or did not
pub made_yes : (s : Session) (t b : ℕ) → s BlockCreator b ≡ t → made_row t b (row s b) ≡ 0
unfolding made_row
made_yes s t b e = choose_yes (s BlockCreator b ≐ t) 0 (s BlockHeld b) e

pub made_no : (s : Session) (t b : ℕ) → (s BlockCreator b ≡ t → ⊥) → put s BlockHeld b (made_row t b (row s b)) ≡ s
made_no s t b n = ap (put s BlockHeld b) (made_stays s t b n) ∙ put_same s BlockHeld b

-- a block that is buried, or not
pub bury_yes : (s : Session) (b : ℕ) → s BlockState b ≡ doomed → (Holds (is_held s b) → ⊥) → buried s b ≡ block_destroyed
unfolding buried
bury_yes s b e n = choose_yes (s BlockState b ≐ doomed and not (is_held s b)) block_destroyed (s BlockState b) (e, n)

pub bury_no : (s : Session) (b : ℕ) → ((s BlockState b ≡ doomed) × (Holds (is_held s b) → ⊥) → ⊥)
    → put s BlockState b (buried s b) ≡ s
bury_no s b n = ap (put s BlockState b) (bury_stays s b n) ∙ put_same s BlockState b

-- doomed blocks are held
abbrev pub Doomed : Session → Type 0
Doomed s = (b : ℕ) → s BlockState b ≡ doomed → Holds (is_held s b)

-- the slots of t, and block b if t made it
abbrev pub one_let_go : Session → ℕ → ℕ → Session
one_let_go s t b = let r = slots_let_go s t b in put r BlockHeld b (made_row t b (row r b))

one_beside : (s : Session) (t b j : ℕ) → one_let_go s t b BlockState j ≡ s BlockState j
unfolding slots_let_go put change
one_beside s t b j = refl

module _ (s : Session) (t b : ℕ) (p : 1 ≤ b) where
  one-slots : slots_let_go s t b
      ≡ change s SlotMark (λ i. choose ((i / 16 ≐ t) and (s SlotMark i ≐ held) and s SlotPayload i ≐ b) satisfied (s SlotMark i))
  unfolding slots_let_go mark_row
  one-slots =
      change-same s SlotMark _ _
      (λ i. choose-same ((i / 16 ≐ t) and (s SlotMark i ≐ held) and wanted b (s SlotPayload i))
      ((i / 16 ≐ t) and (s SlotMark i ≐ held) and s SlotPayload i ≐ b) satisfied (s SlotMark i)
      (λ x. (x.0, (x.1.0, only x.1.1)))
      (λ x. (x.0, (x.1.0, inr x.1.1))))
    where
      only : {k : ℕ} → (b ≡ 0) ⊎ (k ≡ b) → k ≡ b
      only (inl e) = absurd (omega arith)
      only (inr e) = e

  one-made : change (slots_let_go s t b) BlockHeld (λ k. choose (s BlockCreator k ≐ t and k ≐ b) 0 (s BlockHeld k)) ≡ one_let_go s t b
  unfolding slots_let_go mark_row made_row change
  one-made =
      change-at (slots_let_go s t b) BlockHeld b (choose (s BlockCreator b ≐ t) 0 (s BlockHeld b))
      (λ k. choose (s BlockCreator k ≐ t and k ≐ b) 0 (s BlockHeld k))
      (choose-same (s BlockCreator b ≐ t and b ≐ b) (s BlockCreator b ≐ t) 0 (s BlockHeld b) (λ x. x.0) (λ x. (x, refl)))
      (λ j n. choose_no (s BlockCreator j ≐ t and j ≐ b) 0 (s BlockHeld j) (λ x. n x.1))

  -- a hold of another block lasts
  mark_lasts : (i k : ℕ) → (k ≡ b → ⊥) → s SlotMark i ≡ held → s SlotPayload i ≡ k → slots_let_go s t b SlotMark i ≡ held
  unfolding slots_let_go mark_row change
  mark_lasts i k n e q =
      choose_no ((i / 16 ≐ t) and (s SlotMark i ≐ held) and wanted b (s SlotPayload i)) satisfied (s SlotMark i)
      (λ x. other x.1.1) ∙ e
    where
      other : (b ≡ 0) ⊎ (s SlotPayload i ≡ b) → ⊥
      other (inl z) = omega arith
      other (inr z) = n (sym q ∙ z)

  held_lasts : (k : ℕ) → (k ≡ b → ⊥) → Holds (is_held s k) → Holds (is_held (one_let_go s t b) k)
  unfolding slots_let_go mark_row change put
  held_lasts k n (inl x) = inl (x.0, x.1, (mark_lasts x.0 k n x.2.0 x.2.1, x.2.1))
  held_lasts k n (inr e) =
      inr (put_there (slots_let_go s t b) BlockHeld b k (made_row t b (row (slots_let_go s t b) b)) (λ q. n (sym q)) ∙ e)

  one-buried : Doomed s → bury_doomed (one_let_go s t b) ≡ put (one_let_go s t b) BlockState b (buried (one_let_go s t b) b)
  unfolding bury_doomed buried
  one-buried d =
      change-at (one_let_go s t b) BlockState b (buried (one_let_go s t b) b) (buried (one_let_go s t b)) refl
      (λ j n. choose_no (one_let_go s t b BlockState j ≐ doomed and not (is_held (one_let_go s t b) j)) block_destroyed
      (one_let_go s t b BlockState j) (λ x. x.1 (held_lasts j n (d j (as_was j x.0)))))
    where
      as_was : (j : ℕ) → one_let_go s t b BlockState j ≡ doomed → s BlockState j ≡ doomed
      as_was j e = sym (one_beside s t b j) ∙ e

  pub let_go-one : Doomed s → put (one_let_go s t b) BlockState b (buried (one_let_go s t b) b) ≡ let_go s t (λ k. k ≐ b)
  unfolding let_go
  let_go-one d =
      sym (one-buried d)
      ∙ ap bury_doomed (sym one-made ∙ ap
      (λ (x : Session). change x BlockHeld (λ k. choose (s BlockCreator k ≐ t and k ≐ b) 0 (s BlockHeld k))) one-slots)

-- what the next step asks of the one before
pub after-slots : (s : Session) (t b : ℕ) → s Objects 0 ≤ most_objects → Unheld s → (slots_let_go s t b Objects 0 ≤ most_objects)
    × Unheld (slots_let_go s t b)
unfolding slots_let_go change
after-slots s t b f u = (f, u)

pub after-made : (s : Session) (t b : ℕ) → s Objects 0 ≤ most_objects → Unmarked s
    → (made_let_go (slots_let_go s t b) t Objects 0 ≤ most_objects) × Unmarked (made_let_go (slots_let_go s t b) t)
unfolding slots_let_go made_let_go change
after-made s t b f u = (f, u)

pub after_one : (s : Session) (t b : ℕ) → s Objects 0 ≤ most_objects → one_let_go s t b Objects 0 ≤ most_objects
unfolding slots_let_go change put
after_one s t b f = f

slot_was_held : (s : Session) (t b i : ℕ) → slots_let_go s t b SlotMark i ≡ held → s SlotMark i ≡ held
unfolding slots_let_go mark_row change
slot_was_held s t b i e = go (decide f)
  where
    f : Formula
    f = (i / 16 ≐ t) and (s SlotMark i ≐ held) and wanted b (s SlotPayload i)

    go : Case f → s SlotMark i ≡ held
    go (it_does x) = x.1.0
    go (it_does_not n) = sym (choose_no f satisfied (s SlotMark i) n) ∙ e

pub active_made : (s : Session) (t b : ℕ) → Active s → Active (made_let_go (slots_let_go s t b) t)
unfolding made_let_go slots_let_go change
active_made s t b a h j l m e = a h j l m (slot_was_held s t b (at h j) e)

pub active_one : (s : Session) (t b : ℕ) → Active s → Active (one_let_go s t b)
unfolding slots_let_go change put
active_one s t b a h j l m e = a h j l m (slot_was_held s t b (at h j) e)

pub active_swept : (s : Session) (n : ℕ) (g : ℕ → ℕ) → Active s → Active (sweep s BlockState n g)
unfolding sweep
active_swept s n g a = a

pub active_release : (s : Session) (t b : ℕ) → Active s → Active (release s t b)
unfolding release let_go bury_doomed change
active_release s t b a h j l m e = a h j l m (was-held s t (λ k. k ≐ b) (at h j) e)
