-- A local array as a row of numbers: f 0, f 1, .. f (n - 1).
use Rattle.std.specs.Prelude.{ℕ, ◌<◌, ◌≡◌, List, length, get_or, set, replicate}
use Rattle.std.proofs.Common.{sym, ◌∙◌, subst, length-set, get_or-set_same, get_or-set_other}
use Rattle.std.proofs.lemmas.List.{get_or-replicate, length-replicate}
use Rattle.laws.specs.Places.{Places, places, Places.one, Places.two}

pub record Row (a : List ℕ) (n : ℕ) (f : ℕ → ℕ) : Type 0 where
  pub size : length a ≡ n
  pub entry : (p : ℕ) → p < n → get_or a p 0 ≡ f p

-- one entry written
pub row-set : (a : List ℕ) (n : ℕ) (f g : ℕ → ℕ) (i v : ℕ) → Row a n f → i < n → g i ≡ v
    → ((p : ℕ) → p < n → (i ≡ p → ⊥) → g p ≡ f p) → Row (set a i v) n g
row-set a n f g i v r l e same = record { size = length-set a i v ∙ r.size; entry = λ p q. go p q (places i p) }
  where
    go : (p : ℕ) → p < n → Places i p → get_or (set a i v) p 0 ≡ g p
    go p q (one w) =
        subst (λ (k : ℕ). get_or (set a i v) k 0 ≡ g k) w
        (get_or-set_same a i v 0 (subst (λ (k : ℕ). i < k) (sym r.size) l) ∙ sym e)
    go p q (two w) = get_or-set_other a i p v 0 (λ z. w (sym z)) ∙ r.entry p q ∙ sym (same p q w)

-- the same numbers said otherwise
pub row_same : (a : List ℕ) (n : ℕ) (f g : ℕ → ℕ) → Row a n f → ((p : ℕ) → p < n → g p ≡ f p) → Row a n g
row_same a n f g r same = record { size = r.size; entry = λ p q. r.entry p q ∙ sym (same p q) }

pub row_zero : (n : ℕ) (f : ℕ → ℕ) → ((p : ℕ) → p < n → f p ≡ 0) → Row (replicate n 0) n f
row_zero n f zero = record { size = length-replicate n 0; entry = λ p q. get_or-replicate n p 0 0 q ∙ sym (zero p q) }
