-- Laws of writing places and memory.
use Rattle.std.specs.Prelude.{ℕ, ◌≤◌, ◌<◌, ◌≡◌, refl, Bool, true, false, List, ltb, eqb}
use Rattle.std.proofs.Common.{ap, sym, ◌∙◌, arith, eqb-true, eq-eqb, ne_eqb, ltb-true, ltb-false}
use Rattle.std.proofs.Math.Path.{fun_ext}
use Rattle.std.proofs.lemmas.Bool.{eqb-false}
use Rattle.session.specs.Table.{Session, Wrote, read, put, change, sweep, pick, same}
use Rattle.session.specs.TableLaws.{same_eq, wrote_then}
use Rattle.session.specs.declared.Field.{Field}
use Rattle.rules.specs.Formula.{choose, test, Formula.◌≐◌}

-- what stood there written again
pub put_same : (s : Session) (f : Field) (i : ℕ) → put s f i (s f i) ≡ s
unfolding put
put_same s f i = fun_ext (λ g. fun_ext (λ j. go g j (same f g) refl (eqb i j) refl))
  where
    go : (g : Field) (j : ℕ) (b : Bool) → same f g ≡ b → (c : Bool) → eqb i j ≡ c
        → pick b (pick c (s f i) (s g j)) (s g j) ≡ s g j
    go g j true e true q = let p : f ≡ g = same_eq f g (rw e tt) in rw (p, eqb-true i j q)
    go g j true e false q = refl
    go g j false e c q = refl

eqb_flip : (i j : ℕ) → eqb i j ≡ eqb j i
eqb_flip i j = go (eqb j i) refl
  where
    go : (b : Bool) → eqb j i ≡ b → eqb i j ≡ b
    go true e = eq-eqb i j (sym (eqb-true j i e))
    go false e = ne_eqb i j (λ p. eqb-false j i e (sym p))

-- a change at one place
pub change-one : (s : Session) (f : Field) (i v : ℕ) → change s f (λ k. choose (k ≐ i) v (s f k)) ≡ put s f i v
unfolding put change test
change-one s f i v = fun_ext (λ g. fun_ext (λ j. rw (eqb_flip j i) (go g j (same f g) refl)))
  where
    go : (g : Field) (j : ℕ) (b : Bool) → same f g ≡ b
        → pick b (pick (eqb i j) v (s f j)) (s g j) ≡ pick b (pick (eqb i j) v (s g j)) (s g j)
    go g j true e = ap (λ (x : Field). pick (eqb i j) v (s x j)) (same_eq f g (rw e tt))
    go g j false e = refl

-- places where a sweep writes what stood there are passed
pub sweep_skip : (s : Session) (f : Field) (m n : ℕ) (g : ℕ → ℕ) → m ≤ n → ((j : ℕ) → m ≤ j → j < n → g j ≡ s f j)
    → sweep s f m g ≡ sweep s f n g
unfolding sweep
sweep_skip s f m n g l h = fun_ext (λ k. fun_ext (λ j. go k j (same f k) refl (ltb j m) refl (ltb j n) refl))
  where
    go : (k : Field) (j : ℕ) (b : Bool) → same f k ≡ b → (c : Bool) → ltb j m ≡ c → (d : Bool) → ltb j n ≡ d
        → ◌≡◌ {A = ℕ} (pick b (pick c (g j) (s k j)) (s k j)) (pick b (pick d (g j) (s k j)) (s k j))
    go k j true e true p true q = refl
    go k j true e true p false q = omega (arith, ltb-true j m p, ltb-false j n q)
    go k j true e false p true q =
        sym (h j (ltb-false j m p) (ltb-true j n q) ∙ ap (λ (x : Field). s x j) (same_eq f k (rw e tt)))
    go k j true e false p false q = refl
    go k j false e c p d q = refl

-- memory that holds the session s, and then what F makes of it
pub wrote_next : {a b c : List ℕ} {s : Session} (F : Session → Session) → Wrote a b s → Wrote b c (F (read b)) → Wrote a c (F s)
wrote_next F p q = wrote_then p (rw p.reading at q)
