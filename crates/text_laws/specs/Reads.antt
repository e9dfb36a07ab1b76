-- What bytes of text lead a reader to: from one mode to another, with these numbers on the way and no bad word. What is shown of
-- the parts of a text so holds of the whole.
use Rattle.std.specs.Prelude.{ℕ, zero, suc, ◌+◌, ◌-◌, ◌*◌, ◌/◌, ◌%◌, ◌≤◌, ◌<◌, Bool, true, false, List, [], ◌∷◌, ◌++◌, ◌≡◌, refl, ltb, length, get_or}
use Rattle.std.proofs.Common.{append_assoc, append-nil, ap, sym, subst, ◌∙◌, arith, ltb-true, ltb-false}
use Rattle.number.specs.Number.{limit32}
use Rattle.decimal.specs.Decimal.{decimal}
use Rattle.decimal.specs.DecimalLaws.{decimal-one, decimal_several}
use Rattle.rules.specs.Formula.{Formula, choose, test, Formula.◌≐◌}
use Rattle.rules.specs.FormulaLaws.{Case, decide, choose_yes, choose_no, Case.it_does, Case.it_does_not}
use Rattle.text.specs.Text.{kind_of, longer, after_word, after_comment, after, is_bad, is_word, ended, numbers_from, line_after}
use Rattle.text.specs.Text.{bad_line_from}
use Rattle.text.specs.TextLaws.{kind_digit, longer-within}
use Rattle.text.specs.declared.Kind.{Kind}
use Rattle.text.specs.declared.Kind.TheVariants.{Newline, Blank, Hash, Digit, Other}
use Rattle.text.specs.declared.Mode.{Mode}
use Rattle.text.specs.declared.Mode.TheVariants.{Between, Word, Comment}

pub data Leads : Mode → List ℕ → List ℕ → Mode → Type 0 where
  stay : {m : Mode} → Leads m [] [] m
  byte : {m n : Mode} (b : ℕ) {bs vs : List ℕ}
      → is_bad (after m b) ≡ false
      → Leads (after m b) bs vs n
      → Leads m (b ∷ bs) (ended m (after m b) ++ vs) n

-- Its numbers are these, and what the last mode leaves; and no line is bad.
pub leads-numbers : {m n : Mode} {bs vs : List ℕ} → Leads m bs vs n → numbers_from m bs ≡ vs ++ ended n Between
unfolding numbers_from
leads-numbers stay = refl
leads-numbers {m} {n} (byte b {bs} {vs} g p) =
    ap (λ (ns : List ℕ). ended m (after m b) ++ ns) (leads-numbers p)
    ∙ sym (append_assoc (ended m (after m b)) vs (ended n Between))

pub leads_good : {m n : Mode} {bs vs : List ℕ} (line : ℕ) → Leads m bs vs n → bad_line_from m line bs ≡ 0
unfolding bad_line_from
leads_good line stay = refl
leads_good {m} line (byte b {bs} g p) = rw g (leads_good (line_after line b) p)

-- Bytes behind bytes, and one byte.
pub leads_then : {l m n : Mode} {bs cs vs ws : List ℕ} → Leads l bs vs m → Leads m cs ws n → Leads l (bs ++ cs) (vs ++ ws) n
leads_then stay q = q
leads_then {l} {m} {n} {cs = cs} {ws = ws} (byte b {bs} {vs} g p) q =
    subst (λ (ns : List ℕ). Leads l (b ∷ (bs ++ cs)) ns n) (sym (append_assoc (ended l (after l b)) vs ws))
    (byte b g (leads_then p q))

pub leads-byte : {m n : Mode} (b : ℕ) {vs : List ℕ} → after m b ≡ n → is_bad n ≡ false → ended m n ≡ vs → Leads m (b ∷ []) vs n
leads-byte {m} {n} b e g h =
    let p = subst (λ (k : Mode). Leads m (b ∷ []) (ended m k ++ []) k) e (byte b (ap is_bad e ∙ g) stay) in
    subst (λ (ns : List ℕ). Leads m (b ∷ []) ns n) (append-nil (ended m n) ∙ h) p

-- A number in decimal is read as that number.
digit_word : (u d : ℕ) → d < 10 → u * 10 + d ≤ limit32 → after_word u (kind_of (d + 48)) ≡ Word (u * 10 + d)
unfolding after_word
digit_word u d h l =
    let same : d + 48 - 48 ≡ d = omega arith in
    ap (after_word u) (kind_digit (d + 48) (omega arith) (omega arith)) ∙ ap (longer u) same ∙ longer-within u d l

one_digit : (v : ℕ) → v < 10 → Leads Between (decimal v) [] (Word v)
unfolding after is_bad ended
one_digit v h =
    let same : 0 * 10 + v ≡ v = omega arith in
    rw (decimal-one v h) (leads-byte (v + 48) (digit_word 0 v h (omega arith) ∙ ap Word same) refl refl)

several_digits : (v : ℕ) → 10 ≤ v → v ≤ limit32 → Leads Between (decimal (v / 10)) [] (Word (v / 10))
    → Leads Between (decimal v) [] (Word v)
unfolding after is_bad ended is_word
several_digits v h l p =
    let same : v / 10 * 10 + v % 10 ≡ v = omega arith in
    rw (decimal_several v h)
    (leads_then p (leads-byte (v % 10 + 48) (digit_word (v / 10) (v % 10) (omega arith) (omega arith) ∙ ap Word same) refl refl))

decimal_below : (n v : ℕ) → v ≤ n → v ≤ limit32 → Leads Between (decimal v) [] (Word v)
decimal_below zero v h l = one_digit v (omega arith)
decimal_below (suc n) v h l = go (ltb v 10) refl (λ k. decimal_below n (v / 10) (omega arith) (omega arith))
  where
    go : (b : Bool) → ltb v 10 ≡ b → (10 ≤ v → Leads Between (decimal (v / 10)) [] (Word (v / 10)))
        → Leads Between (decimal v) [] (Word v)
    go true e tenth = one_digit v (ltb-true v 10 e)
    go false e tenth = several_digits v (ltb-false v 10 e) l (tenth (ltb-false v 10 e))

pub leads-decimal : (v : ℕ) → v ≤ limit32 → Leads Between (decimal v) [] (Word v)
leads-decimal v l = decimal_below v v (omega arith) l

-- A space ends a word, and so does a newline; a `#` between words starts a comment, and a newline ends it.
pub leads-space : (v : ℕ) → Leads (Word v) (32 ∷ []) (v ∷ []) Between
unfolding after after_word kind_of test is_bad ended is_word
leads-space v = leads-byte 32 refl refl refl

pub leads-newline : (v : ℕ) → Leads (Word v) (10 ∷ []) (v ∷ []) Between
unfolding after after_word kind_of test is_bad ended is_word
leads-newline v = leads-byte 10 refl refl refl

pub leads-mark : (v : ℕ) → Leads (Word v) (32 ∷ 32 ∷ 35 ∷ 32 ∷ []) (v ∷ []) Comment
unfolding after after_word after_comment kind_of test is_bad ended is_word
leads-mark v = byte 32 refl (byte 32 refl (byte 35 refl (byte 32 refl stay)))

pub leads-end : Leads Comment (10 ∷ []) [] Between
unfolding after after_comment kind_of test is_bad ended
leads-end = leads-byte 10 refl refl refl

-- A comment goes on while no newline comes.
in_comment : (b : ℕ) → (b ≡ 10 → ⊥) → after_comment (kind_of b) ≡ Comment
unfolding kind_of after_comment
in_comment b n =
    ap after_comment (choose_no (b ≐ 10) Newline _ n)
    ∙ either _ Blank _ refl (either _ Hash _ refl (either _ (Digit (b - 48)) Other refl refl))
  where
    either : (f : Formula) (j k : Kind) → after_comment j ≡ Comment → after_comment k ≡ Comment
        → after_comment (choose f j k) ≡ Comment
    either f j k p q = go (decide f)
      where
        go : Case f → after_comment (choose f j k) ≡ Comment
        go (it_does h) = ap after_comment (choose_yes f j k h) ∙ p
        go (it_does_not h) = ap after_comment (choose_no f j k h) ∙ q

pub leads_comment : (bs : List ℕ) → ((i : ℕ) → i < length bs → get_or bs i 0 ≡ 10 → ⊥) → Leads Comment bs [] Comment
unfolding after is_bad ended
leads_comment [] h = stay
leads_comment (b ∷ bs) h =
    leads_then (leads-byte b (in_comment b (h 0 (omega arith))) refl refl) (leads_comment bs (λ i l. h (suc i) (omega arith)))
