-- A line's words are its numbers, and a printed line has one newline.
use Rattle.std.specs.Prelude.{ℕ, zero, suc, ◌+◌, ◌/◌, ◌%◌, ◌<◌, Bool, true, false, List, [], ◌∷◌, ◌++◌, ◌≡◌, refl, ltb, get_or}
use Rattle.std.proofs.Common.{append_assoc, ap, ◌∙◌, arith, ltb-true, ltb-false, lit<}
use Rattle.decimal.specs.Decimal.{decimal, decimal_in}
use Rattle.decimal.specs.DecimalLaws.{decimal-one, digits_several, digits_some}
use Rattle.lines.specs.Line.{line, marked, space, newline}
use Rattle.rules.specs.Formula.{Formula, Holds, test, not, Formula.◌≐◌}
use Rattle.rules.specs.FormulaLaws.{choose_yes, choose_no, test-same}
use Rattle.sheet_counts.specs.Answers.{how_many}
use Rattle.sheet_counts.specs.HowMany.{how_many-next, how_many-both}
use Rattle.sheet_counts.specs.TextRead.{on_first, pieces, newlines, word_of_zero, is_zero_word, has_refusal}

-- no byte is the mark
abbrev Without : ℕ → List ℕ → Type 0
Without mark [] = Unit {0}
Without mark (b ∷ bytes) = (b ≡ mark → ⊥) × Without mark bytes

without_both : (mark : ℕ) (x y : List ℕ) → Without mark x → Without mark y → Without mark (x ++ y)
without_both mark [] y p q = q
without_both mark (b ∷ x) y p q = (p.0, without_both mark x y p.1 q)

-- Digits are bytes from 48 on.
digit : (mark d : ℕ) → mark < 48 → d + 48 ≡ mark → ⊥
digit mark d h e = omega arith

without_digits : (mark n v : ℕ) → mark < 48 → Without mark (decimal_in n v)
unfolding decimal_in
without_digits mark zero v h = (digit mark v h, tt)
without_digits mark (suc n) v h = go (ltb v 10) (without_digits mark n (v / 10) h)
  where
    go : (b : Bool) → Without mark (decimal_in n (v / 10))
        → Without mark (elim b as (λ _. List ℕ) [ true ↦ (v + 48) ∷ [] | false ↦ decimal_in n (v / 10) ++ (v % 10 + 48) ∷ [] ])
    go true r = (digit mark v h, tt)
    go false r = without_both mark (decimal_in n (v / 10)) ((v % 10 + 48) ∷ []) r (digit mark (v % 10) h, tt)

without_decimal : (mark v : ℕ) → mark < 48 → Without mark (decimal v)
unfolding decimal
without_decimal mark v h = without_digits mark v v h

-- the first piece, and one that is all
pieces-first : (mark : ℕ) (x rest : List ℕ) → Without mark x → pieces mark (x ++ mark ∷ rest) ≡ x ∷ pieces mark rest
unfolding pieces on_first
pieces-first mark [] rest w = choose_yes (mark ≐ mark) _ _ refl
pieces-first mark (b ∷ x) rest w = choose_no (b ≐ mark) _ _ w.0 ∙ ap (on_first b) (pieces-first mark x rest w.1)

pieces_last : (mark : ℕ) (x : List ℕ) → Without mark x → pieces mark x ≡ x ∷ []
unfolding pieces on_first
pieces_last mark [] w = refl
pieces_last mark (b ∷ x) w = choose_no (b ≐ mark) _ _ w.0 ∙ ap (on_first b) (pieces_last mark x w.1)

newlines_none : (x : List ℕ) → Without newline x → newlines x ≡ 0
unfolding how_many
newlines_none [] w = refl
newlines_none (b ∷ x) w = choose_no (b ≐ newline) _ _ w.0 ∙ newlines_none x w.1

-- a line without its newline
abbrev two : ℕ → ℕ → List ℕ
two b c = decimal b ++ (space ∷ decimal c)

abbrev pub body : ℕ → ℕ → ℕ → List ℕ
body a b c = decimal a ++ (space ∷ two b c)

line-body : (a b c : ℕ) (rest : List ℕ) → line a b c ++ rest ≡ body a b c ++ newline ∷ rest
unfolding line marked
line-body a b c rest = simp append_assoc

body-newline : (a b c : ℕ) → Without newline (body a b c)
body-newline a b c =
    let d : (v : ℕ) → Without newline (decimal v) = λ v. without_decimal newline v (lit< tt) in
    let other : space ≡ newline → ⊥ = λ e. omega arith in
    without_both newline (decimal a) (space ∷ two b c) (d a)
    (other, without_both newline (decimal b) (space ∷ decimal c) (d b) (other, d c))

-- a line behind which there is text
pub pieces-line : (a b c : ℕ) (rest : List ℕ) → pieces newline (line a b c ++ rest) ≡ body a b c ∷ pieces newline rest
pieces-line a b c rest = ap (pieces newline) (line-body a b c rest) ∙ pieces-first newline (body a b c) rest (body-newline a b c)

pub newlines-line : (a b c : ℕ) (rest : List ℕ) → newlines (line a b c ++ rest) ≡ 1 + newlines rest
newlines-line a b c rest =
    let is_newline : ℕ → Formula = λ x. x ≐ newline in
    ap newlines (line-body a b c rest)
    ∙ omega (
      arith,
      how_many-both is_newline (body a b c) (newline ∷ rest),
      newlines_none (body a b c) (body-newline a b c),
      how_many-next is_newline newline rest,
      choose_yes {A = ℕ} (newline ≐ newline) 1 0 refl,
    )

words : (a b c : ℕ) → pieces space (body a b c) ≡ decimal a ∷ decimal b ∷ decimal c ∷ []
words a b c =
    let d : (v : ℕ) → Without space (decimal v) = λ v. without_decimal space v (lit< tt) in
    pieces-first space (decimal a) (two b c) (d a)
    ∙ ap (λ (l : List (List ℕ)). decimal a ∷ l)
    (pieces-first space (decimal b) (decimal c) (d b)
    ∙ ap (λ (l : List (List ℕ)). decimal b ∷ l) (pieces_last space (decimal c) (d c)))

-- only 0 is written `0`
zero_word : (v : ℕ) → Holds (is_zero_word (decimal v)) → v ≡ 0
zero_word v h = go (ltb v 10) refl
  where
    go : (b : Bool) → ltb v 10 ≡ b → v ≡ 0
    go true e =
        let d : get_or (decimal v) 0 0 ≡ v + 48 = ap (λ (l : List ℕ). get_or l 0 0) (decimal-one v (ltb-true v 10 e)) in
        omega (arith, d, h.1)
    go false e = absurd (omega (arith, digits_several v (ltb-false v 10 e), digits_some (v / 10), h.0))

word_zero : (v : ℕ) → v ≡ 0 → Holds (is_zero_word (decimal v))
word_zero v z = rw (z, decimal-one 0 (lit< tt)) (refl, refl)

pub refused-line : (a b c : ℕ) → test (has_refusal (body a b c)) ≡ test (not (b ≐ 0))
refused-line a b c =
    let w : get_or (pieces space (body a b c)) 1 word_of_zero ≡ decimal b =
    ap (λ (l : List (List ℕ)). get_or l 1 word_of_zero) (words a b c) in
    rw w (test-same (not (is_zero_word (decimal b))) (not (b ≐ 0)) (λ f z. f (word_zero b z)) (λ f h. f (zero_word b h)))
