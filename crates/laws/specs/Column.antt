-- One place of a column or a field is written: what stands there, and what the parts of the relation say after it.
use Rattle.std.specs.Prelude.{ℕ, ◌≤◌, ◌≡◌, eqb}
use Rattle.std.proofs.Common.{ap, sym, subst, ◌∙◌, inl, inr, arith, eq-eqb, ne_eqb}
use Rattle.session.specs.Table.{pick}
use Rattle.session.specs.Names.{fired, destroyed_fired}
use Rattle.laws.specs.Places.{Places, places, Places.one, Places.two}
use Rattle.laws.specs.Relation.{Same, Blank, Marks, CountOf, HadFired}

-- f with v at place i (as `put` and `enter` compute, at the field or column that they write)
abbrev pub set : (ℕ → ℕ) → ℕ → ℕ → ℕ → ℕ
set f i v j = pick (eqb i j) v (f j)

pub set_here : (f : ℕ → ℕ) (i v j : ℕ) → i ≡ j → set f i v j ≡ v
set_here f i v j e = rw (eq-eqb i j e)

pub set_there : (f : ℕ → ℕ) (i v j : ℕ) → (i ≡ j → ⊥) → set f i v j ≡ f j
set_there f i v j n = rw (ne_eqb i j n)

-- what stands at place j: v if i is j, else what stood there
pub at_set {ℓ} : (P : ℕ → Type ℓ) (f : ℕ → ℕ) (i v j : ℕ) → (i ≡ j → P v) → ((i ≡ j → ⊥) → P (f j)) → P (set f i v j)
at_set P f i v j h t = go (places i j)
  where
    go : Places i j → P (set f i v j)
    go (one e) = rw (set_here f i v j e) (h e)
    go (two n) = rw (set_there f i v j n) (t n)

pub set_same : {f g : ℕ → ℕ} (i v : ℕ) → Same f g → Same (set f i v) (set g i v)
set_same i v e j = rw (e j)

-- columns that are blank past a place
pub blank-set : {n : ℕ} {f : ℕ → ℕ} (i v : ℕ) → i ≤ n → Blank n f → Blank n (set f i v)
blank-set {f = f} i v l z j m = set_there f i v j (λ e. omega arith) ∙ z j m

pub blank-more : {n m : ℕ} {f : ℕ → ℕ} → n ≤ m → Blank n f → Blank m f
blank-more l z j h = z j (omega arith)

-- a kind that is not the new object's is an old object's
pub was_kind : (kind : ℕ → ℕ) (h k i k' : ℕ) → (k ≡ k' → ⊥) → set kind h k i ≡ k' → (h ≡ i → ⊥) × (kind i ≡ k')
was_kind kind h k i k' n e = go (places h i)
  where
    go : Places h i → (h ≡ i → ⊥) × (kind i ≡ k')
    go (one p) = absurd (n (sym (set_here kind h k i p) ∙ e))
    go (two p) = (p, sym (set_there kind h k i p) ∙ e)

pub counts-new : (k : ℕ) (kind count slots : ℕ → ℕ) (h v w : ℕ) → v ≡ w → CountOf k kind count slots
    → CountOf k (set kind h k) (set count h v) (set slots h w)
counts-new k kind count slots h v w q c i e = go (places h i)
  where
    go : Places h i → set count h v i ≡ set slots h w i
    go (one p) = set_here count h v i p ∙ q ∙ sym (set_here slots h w i p)
    go (two p) = set_there count h v i p ∙ c i (sym (set_there kind h k i p) ∙ e) ∙ sym (set_there slots h w i p)

pub counts-other : (k k' : ℕ) (kind count slots : ℕ → ℕ) (h v : ℕ) → (k ≡ k' → ⊥) → CountOf k' kind count slots
    → CountOf k' (set kind h k) (set count h v) slots
counts-other k k' kind count slots h v n c i e = let w = was_kind kind h k i k' n e in set_there count h v i w.0 ∙ c i w.1

-- a mark whose condition is told in other words
pub marks-told : {P Q : Type 0} {n : ℕ} → (P → Q) → (Q → P) → Marks P n → Marks Q n
marks-told f g m = (λ q. m.0 (g q), λ k. m.1 (λ p. k (f p)))

-- a place moves to a state that makes no difference to the mark
pub marks-at : (Q : ℕ → Type 0) (state : ℕ → ℕ) (t v : ℕ) {i n : ℕ} → (Q (state t) → Q v) → (Q v → Q (state t))
    → Marks (Q (state i)) n → Marks (Q (set state t v i)) n
marks-at Q state t v {i} {n} f g m = at_set (λ (w : ℕ). Marks (Q w) n) state t v i here (λ d. m)
  where
    here : t ≡ i → Marks (Q v) n
    here p = marks-told f g (subst (λ (k : ℕ). Marks (Q (state k)) n) (sym p) m)

-- from a state that is not marked to another that is not
pub marks_none : (Q : ℕ → Type 0) (state : ℕ → ℕ) (t v : ℕ) {i n : ℕ} → (Q (state t) → ⊥) → (Q v → ⊥)
    → Marks (Q (state i)) n → Marks (Q (set state t v i)) n
marks_none Q state t v f g m = marks-at Q state t v (λ q. absurd (f q)) (λ q. absurd (g q)) m

-- a place moves to a state that is marked, and the mark is entered
pub marks-entered : (Q : ℕ → Type 0) (state column : ℕ → ℕ) (t v w : ℕ) {i : ℕ} → Q v → w ≡ 1
    → Marks (Q (state i)) (column i) → Marks (Q (set state t v i)) (set column t w i)
marks-entered Q state column t v w {i} q e m = go (places t i)
  where
    go : Places t i → Marks (Q (set state t v i)) (set column t w i)
    go (one p) = rw (set_here state t v i p, set_here column t w i p) (λ x. e, λ n. absurd (n q))
    go (two n) = rw (set_there state t v i n, set_there column t w i n) m

-- a mark that is entered of an object of one kind stands beside those of another
pub marks_beside : {P : Type 0} (kind column : ℕ → ℕ) {t k i k' : ℕ} → kind t ≡ k → kind i ≡ k' → (k ≡ k' → ⊥)
    → Marks P (column i) → Marks P (set column t 1 i)
marks_beside kind column {t} {i = i} a c n m = rw (set_there column t 1 i (λ p. n (sym a ∙ ap kind p ∙ c))) m

-- an event in another state has not fired
pub unfired : (v : ℕ) → (v ≡ fired → ⊥) → (v ≡ destroyed_fired → ⊥) → HadFired v → ⊥
unfired v a c (inl e) = a e
unfired v a c (inr e) = c e
