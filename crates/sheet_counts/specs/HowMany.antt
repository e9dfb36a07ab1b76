-- Laws of `how_many`.
use Rattle.std.specs.Prelude.{ℕ, ◌+◌, ◌≤◌, List, [], ◌∷◌, ◌++◌, ◌≡◌, length}
use Rattle.std.proofs.Common.{sym, arith, zero-add}
use Rattle.rules.specs.Formula.{Formula, choose}
use Rattle.rules.specs.FormulaLaws.{Case, decide, choose_yes, choose_no, choose_case, Case.it_does, Case.it_does_not}
use Rattle.sheet_counts.specs.Answers.{how_many}

-- one more where the formula holds
abbrev pub one : Formula → ℕ
one f = choose f 1 0

pub how_many-next : {A : Type 0} (f : A → Formula) (a : A) (more : List A) → how_many f (a ∷ more) ≡ one (f a) + how_many f more
unfolding how_many
how_many-next f a more = go (decide (f a))
  where
    go : Case (f a) → how_many f (a ∷ more) ≡ one (f a) + how_many f more
    go (it_does h) = rw (choose_yes (f a) (1 + how_many f more) (how_many f more) h, choose_yes {A = ℕ} (f a) 1 0 h)
    go (it_does_not n) =
        rw (choose_no (f a) (1 + how_many f more) (how_many f more) n, choose_no {A = ℕ} (f a) 1 0 n)
        (sym (zero-add (how_many f more)))

pub how_many-both : {A : Type 0} (f : A → Formula) (x y : List A) → how_many f (x ++ y) ≡ how_many f x + how_many f y
unfolding how_many
how_many-both f [] y = sym (zero-add (how_many f y))
how_many-both f (a ∷ x) y = omega (arith, how_many-next f a (x ++ y), how_many-next f a x, how_many-both f x y)

one-most : (f : Formula) → one f ≤ 1
one-most f = choose_case (λ n. n ≤ 1) f 1 0 (λ h. omega arith) (λ h. omega arith)

pub how_many-most : {A : Type 0} (f : A → Formula) (x : List A) → how_many f x ≤ length x
unfolding how_many
how_many-most f [] = omega arith
how_many-most f (a ∷ x) = omega (arith, how_many-next f a x, how_many-most f x, one-most (f a))

pub how_many_last : {A : Type 0} (f : A → Formula) (x : List A) (a : A) → how_many f (x ++ a ∷ []) ≡ how_many f x + one (f a)
unfolding how_many
how_many_last f x a = how_many-both f x (a ∷ [])
