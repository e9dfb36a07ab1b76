-- Tables of numbers, a session or a book: a number for each of some names and places. What a change writes are the names under
-- which a table has other numbers after it; what reads none of these stays the same.
use Rattle.std.specs.Prelude.{ℕ, ◌≡◌, refl, Bool, true, false, List, [], ◌∷◌, ◌++◌, T}
use Rattle.std.proofs.Common.{sym, ◌∙◌, subst}
use Rattle.std.proofs.Math.Path.{fun_ext}
use Rattle.session.specs.Table.{pick}

-- names that can be told apart
pub record Keys (I : Type 0) : Type 0 where
  pub is : I → I → Bool
  pub one : (i j : I) → T (is i j) → i ≡ j

module _ {I : Type 0} (x : Keys I) where
  -- a name is one of these
  abbrev pub among_of : I → List I → Bool
  among_of f [] = false
  among_of f (g ∷ gs) = pick (x.is g f) true (among_of f gs)

  -- those of the second list are in the first
  abbrev pub covers_of : List I → List I → Bool
  covers_of vs [] = true
  covers_of vs (f ∷ fs) = pick (among_of f vs) (covers_of vs fs) false

  -- some name of the second list is in the first
  abbrev pub meets_of : List I → List I → Bool
  meets_of ws [] = false
  meets_of ws (f ∷ fs) = pick (among_of f ws) true (meets_of ws fs)

  -- the table with these, and the others 0
  abbrev pub only_of : List I → (I → ℕ → ℕ) → I → ℕ → ℕ
  only_of fs s f = pick (among_of f fs) (s f) (λ i. 0)

-- q is s but under the names written
pub record OutsideOf {I : Type 0} (x : Keys I) (s q : I → ℕ → ℕ) (ws : List I) : Type 0 where
  pub as_was : (f : I) → among_of x f ws ≡ false → q f ≡ s f

pub neither : (a b : Bool) → pick a true b ≡ false → (a ≡ false) × (b ≡ false)
neither true b e = absurd (subst (λ (c : Bool). T c) e tt)
neither false b e = (refl, e)

pub outside_same : {I : Type 0} {x : Keys I} (s : I → ℕ → ℕ) → OutsideOf x s s []
outside_same s = record { as_was = λ f e. refl }

-- one effect after another
pub outside_then : {I : Type 0} {x : Keys I} {s q r : I → ℕ → ℕ} {ws vs : List I} → OutsideOf x s q ws → OutsideOf x q r vs
    → OutsideOf x s r (ws ++ vs)
outside_then {I = I} {x = x} {ws = ws} {vs = vs} o p =
    record {
      as_was =
          λ f e. let n = neither (among_of x f ws) (among_of x f vs) (sym (joined f ws) ∙ e) in
          p.as_was f n.1 ∙ o.as_was f n.0;
    }
  where
    join : (a b c : Bool) → pick a true (pick b true c) ≡ pick (pick a true b) true c
    join true b c = refl
    join false b c = refl

    joined : (f : I) (us : List I) → among_of x f (us ++ vs) ≡ pick (among_of x f us) true (among_of x f vs)
    joined f [] = refl
    joined f (g ∷ us) = rw (joined f us) (join (x.is g f) (among_of x f us) (among_of x f vs))

-- a change that writes some of these writes no others
pub outside_within : {I : Type 0} {x : Keys I} {s q : I → ℕ → ℕ} {ws vs : List I} → OutsideOf x s q ws
    → covers_of x vs ws ≡ true → OutsideOf x s q vs
outside_within {I = I} {x = x} {ws = ws} {vs = vs} o c = record { as_was = λ f e. o.as_was f (not_these f ws c e) }
  where
    not_these : (f : I) (us : List I) → covers_of x vs us ≡ true → among_of x f vs ≡ false → among_of x f us ≡ false
    not_these f [] c e = refl
    not_these f (g ∷ us) c e = go (x.is g f) refl (among_of x g vs) refl c (λ k. not_these f us k e)
      where
        go : (a : Bool) → x.is g f ≡ a → (b : Bool) → among_of x g vs ≡ b → pick b (covers_of x vs us) false ≡ true
            → (covers_of x vs us ≡ true → among_of x f us ≡ false) → pick a true (among_of x f us) ≡ false
        go a y false z c r = absurd (subst (λ (k : Bool). T k) (sym c) tt)
        go false y true z c r = r c
        go true y true z c r = sym z ∙ rw (x.one g f (rw y tt)) e

module _ {I : Type 0} {x : Keys I} {s q : I → ℕ → ℕ} {ws : List I} (o : OutsideOf x s q ws) where
  -- what is read is nothing that is written
  pub unwritten : (f : I) (fs : List I) → meets_of x ws fs ≡ false → among_of x f fs ≡ true → among_of x f ws ≡ false
  unwritten f [] e y = absurd (subst (λ (b : Bool). T b) (sym y) tt)
  unwritten f (g ∷ fs) e y =
      let m = neither (among_of x g ws) (meets_of x ws fs) e in
      go (x.is g f) refl y m.0 (unwritten f fs m.1)
    where
      go : (b : Bool) → x.is g f ≡ b → pick b true (among_of x f fs) ≡ true → among_of x g ws ≡ false
          → (among_of x f fs ≡ true → among_of x f ws ≡ false) → among_of x f ws ≡ false
      go true z y w r = rw (← x.one g f (rw z tt)) w
      go false z y w r = r y

  -- so both tables have the same in what is read
  pub alike : (fs : List I) → meets_of x ws fs ≡ false → only_of x fs q ≡ only_of x fs s
  alike fs e = fun_ext (λ f. go f (among_of x f fs) refl)
    where
      go : (f : I) (b : Bool) → among_of x f fs ≡ b → pick b (q f) (λ i. 0) ≡ pick b (s f) (λ i. 0)
      go f true y = o.as_was f (unwritten f fs e y)
      go f false y = refl
