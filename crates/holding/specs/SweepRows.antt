-- Sweeps of a field where each place is written by what stands in its own row: at the same place of every field.
use Rattle.std.specs.Prelude.{ℕ, ◌+◌, ◌*◌, ◌/◌, ◌<◌, ◌≡◌, refl, Bool, true, false, ltb, eqb}
use Rattle.std.proofs.Common.{sym, ap, ◌∙◌, arith, ltb-true, eqb-true}
use Rattle.std.proofs.Math.Path.{fun_ext}
use Rattle.std.proofs.lemmas.Bool.{eqb-false}
use Rattle.session.specs.Table.{Session, put, change, sweep, pick, same}
use Rattle.session.specs.TableLaws.{sweep-more, sweep_past, sweep-change, same_eq}
use Rattle.session.specs.declared.Field.{Field}
use Rattle.session.specs.declared.Field.TheVariants.{SlotMark}

-- what stands at place i, by field
abbrev pub row : Session → ℕ → Field → ℕ
row s i k = s k i

-- a value for each place, made of its row
abbrev pub rows : (ℕ → (Field → ℕ) → ℕ) → Session → ℕ → ℕ
rows g s i = g i (row s i)

-- one more place swept
pub row_next : (s r : Session) (f : Field) (n : ℕ) (g : ℕ → (Field → ℕ) → ℕ) → r ≡ sweep s f n (rows g s)
    → put r f n (g n (row r n)) ≡ sweep s f (n + 1) (rows g s)
row_next s r f n g p =
    let e : row r n ≡ row s n = fun_ext (λ k. ap (λ (x : Session). x k n) p ∙ sweep_past s f n (rows g s) k n (omega arith)) in
    rw (e, p) (sweep-more s f n (rows g s))

-- a sweep that writes what stood there
pub sweep_idle : (s : Session) (f : Field) (n : ℕ) (g : ℕ → ℕ) → ((j : ℕ) → j < n → g j ≡ s f j) → sweep s f n g ≡ s
unfolding sweep
sweep_idle s f n g h = fun_ext (λ k. fun_ext (λ j. go k j (same f k) refl (ltb j n) refl))
  where
    go : (k : Field) (j : ℕ) (b : Bool) → same f k ≡ b → (c : Bool) → ltb j n ≡ c
        → ◌≡◌ {A = ℕ} (pick b (pick c (g j) (s k j)) (s k j)) (s k j)
    go k j true e true q = h j (ltb-true j n q) ∙ ap (λ (x : Field). s x j) (same_eq f k (rw e tt))
    go k j true e false q = refl
    go k j false e c q = refl

-- two changes that agree at each place
pub change-same : (s : Session) (f : Field) (g h : ℕ → ℕ) → ((j : ℕ) → g j ≡ h j) → change s f g ≡ change s f h
change-same s f g h e = ap (λ (x : ℕ → ℕ). change s f x) (fun_ext e)

-- a change that writes what stood there
pub change_idle : (s : Session) (f : Field) (g : ℕ → ℕ) → ((j : ℕ) → g j ≡ s f j) → change s f g ≡ s
unfolding change
change_idle s f g h = fun_ext (λ k. fun_ext (λ j. go k j (same f k) refl))
  where
    go : (k : Field) (j : ℕ) (b : Bool) → same f k ≡ b → ◌≡◌ {A = ℕ} (pick b (g j) (s k j)) (s k j)
    go k j true e = h j ∙ ap (λ (x : Field). s x j) (same_eq f k (rw e tt))
    go k j false e = refl

-- a change at one place
pub change-at : (s : Session) (f : Field) (i v : ℕ) (g : ℕ → ℕ) → g i ≡ v → ((j : ℕ) → (j ≡ i → ⊥) → g j ≡ s f j)
    → change s f g ≡ put s f i v
unfolding change put
change-at s f i v g here there = fun_ext (λ k. fun_ext (λ j. go k j (same f k) refl (eqb i j) refl))
  where
    go : (k : Field) (j : ℕ) (b : Bool) → same f k ≡ b → (c : Bool) → eqb i j ≡ c
        → ◌≡◌ {A = ℕ} (pick b (g j) (s k j)) (pick b (pick c v (s k j)) (s k j))
    go k j true e true q = let p : i ≡ j = eqb-true i j q in ap g (sym p) ∙ here
    go k j true e false q = there j (λ p. eqb-false i j q (sym p)) ∙ ap (λ (x : Field). s x j) (same_eq f k (rw e tt))
    go k j false e c q = refl

-- of the slots only those of t change: before the first of them, and after the last
module _ (s : Session) (t : ℕ) (g : ℕ → (Field → ℕ) → ℕ) (other : (i : ℕ) → (i / 16 ≡ t → ⊥) → g i (row s i) ≡ s SlotMark i) where
  pub own_begin : sweep s SlotMark (t * 16 + 0) (rows g s) ≡ s
  own_begin = sweep_idle s SlotMark (t * 16 + 0) (rows g s) (λ i l. other i (λ e. omega arith))

  pub own-end : (j : ℕ) → j ≡ 16 → sweep s SlotMark (t * 16 + j) (rows g s) ≡ change s SlotMark (rows g s)
  own-end j e = rw e (sweep-change s SlotMark (t * 16 + 16) (rows g s) (λ i l. other i (λ q. omega arith)))
