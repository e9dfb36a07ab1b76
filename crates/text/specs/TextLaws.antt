-- What a byte, a word and a text give, case by case and step by step.
use Rattle.std.specs.Prelude.{ℕ, ◌+◌, ◌-◌, ◌*◌, ◌≤◌, ◌<◌, true, false, ◌⊎◌, List, [], ◌∷◌, ◌++◌, ◌≡◌, refl, drop, get_or, Result, Ok, Err}
use Rattle.std.proofs.Common.{⊎_elim, append_assoc, append-nil, ap, sym, ◌∙◌, arith, add-one, length-append, drop_of_length-le}
use Rattle.std.proofs.Math.ListN.{length}
use Rattle.std.proofs.Math.Seq.{drop-cons}
use Rattle.number.specs.Number.{limit32, encode, splice}
use Rattle.number.specs.Splice.{splice_none}
use Rattle.rules.specs.Formula.{choose, test, Formula.◌≐◌, Formula.◌≼◌, Formula.◌and◌, Formula.◌or◌}
use Rattle.rules.specs.FormulaLaws.{Case, decide, choose_yes, choose_no, Case.it_does, Case.it_does_not}
use Rattle.text.specs.Text.{kind_of, longer, after, is_bad, is_word, ended, numbers_from, numbers, line_after, bad_line_from}
use Rattle.text.specs.Text.{bad_line, encode_all, sheet_of, given, answer, memory}
use Rattle.text.specs.declared.Kind.TheVariants.{Newline, Blank, Hash, Digit, Other}
use Rattle.text.specs.declared.Mode.{Mode}
use Rattle.text.specs.declared.Mode.TheVariants.{Between, Word, Comment, Bad}
use Rattle.text.specs.declared.Untyped.{Untyped}
use Rattle.text.specs.declared.Untyped.TheVariants.{BadLine, NoRoom}

-- A byte.
pub kind_newline : (b : ℕ) → b ≡ 10 → kind_of b ≡ Newline
unfolding kind_of
kind_newline b e = choose_yes (b ≐ 10) _ _ e

pub kind_blank : (b : ℕ) → (b ≡ 9) ⊎ (b ≡ 13) ⊎ (b ≡ 32) → kind_of b ≡ Blank
unfolding kind_of
kind_blank b s =
    choose_no (b ≐ 10) _ _ (λ e. ⊎_elim (λ w. omega arith) (⊎_elim (λ w. omega arith) (λ w. omega arith)) s)
    ∙ choose_yes (b ≐ 9 or b ≐ 13 or b ≐ 32) _ _ s

pub kind_hash : (b : ℕ) → b ≡ 35 → kind_of b ≡ Hash
unfolding kind_of test
kind_hash b e = rw e

-- neither a newline, nor a blank, nor the `#`
pub record Plain (b : ℕ) : Type 0 where
  pub no_newline : b ≡ 10 → ⊥
  pub no_blank : (b ≡ 9) ⊎ (b ≡ 13) ⊎ (b ≡ 32) → ⊥
  pub no_hash : b ≡ 35 → ⊥

plain : (b : ℕ) → Plain b → kind_of b ≡ choose (48 ≼ b and b ≼ 57) (Digit (b - 48)) Other
unfolding kind_of
plain b p =
    choose_no (b ≐ 10) _ _ p.no_newline
    ∙ choose_no (b ≐ 9 or b ≐ 13 or b ≐ 32) _ _ p.no_blank
    ∙ choose_no (b ≐ 35) _ _ p.no_hash

pub kind_digit : (b : ℕ) → 48 ≤ b → b ≤ 57 → kind_of b ≡ Digit (b - 48)
kind_digit b l h =
    plain b (record {
      no_newline = λ e. omega arith;
      no_blank = ⊎_elim (λ e. omega arith) (⊎_elim (λ e. omega arith) (λ e. omega arith));
      no_hash = λ e. omega arith;
    })
    ∙ choose_yes (48 ≼ b and b ≼ 57) _ _ (l, h)

pub kind_other : (b : ℕ) → Plain b → ((48 ≤ b) × (b ≤ 57) → ⊥) → kind_of b ≡ Other
kind_other b p n = plain b p ∙ choose_no (48 ≼ b and b ≼ 57) _ _ n

pub ruleset kinds = (kind_newline, kind_blank, kind_hash, kind_digit, kind_other)

pub longer-within : (v d : ℕ) → v * 10 + d ≤ limit32 → longer v d ≡ Word (v * 10 + d)
unfolding longer
longer-within v d h = choose_yes (v * 10 + d ≼ limit32) _ _ h

pub longer-above : (v d : ℕ) → limit32 < v * 10 + d → longer v d ≡ Bad
unfolding longer
longer-above v d h = choose_no (v * 10 + d ≼ limit32) _ _ (λ l. omega arith)

pub ruleset longer_or_bad = (longer-within, longer-above)

-- The bytes of numbers.
pub encode_all_none : encode_all [] ≡ []
unfolding encode_all
encode_all_none = refl

pub encode_all-one : (v : ℕ) → encode_all (v ∷ []) ≡ encode v
unfolding encode_all
encode_all-one v = append-nil (encode v)

pub encode_all-append : (vs ws : List ℕ) → encode_all (vs ++ ws) ≡ encode_all vs ++ encode_all ws
unfolding encode_all
encode_all-append [] ws = refl
encode_all-append (v ∷ vs) ws = rw (encode_all-append vs ws, append_assoc)

-- no number put into memory
pub put_none : (vs : List ℕ) → vs ≡ [] → (out : List ℕ) (at : ℕ)
    → (at ≡ at + length (encode_all vs)) × (out ≡ splice out at (encode_all vs))
put_none vs e out at = rw (e, encode_all_none) (omega arith, sym (splice_none out at))

-- Where a word goes on nothing ended, and where it does not its value did.
pub ended_on : (v : ℕ) (m : Mode) → is_word m ≡ true → ended (Word v) m ≡ []
unfolding ended
ended_on v m e = rw e

pub ended_word : (v : ℕ) (m : Mode) → is_word m ≡ false → ended (Word v) m ≡ v ∷ []
unfolding ended
ended_word v m e = rw e

-- What is no word ends none, and what is not `Bad` is not bad.
pub ended_none : (m then : Mode) → ((v : ℕ) → m ≡ Word v → ⊥) → ended m then ≡ []
unfolding ended
ended_none Between then n = refl
ended_none (Word v) then n = absurd (n v refl)
ended_none Comment then n = refl
ended_none Bad then n = refl

pub not_word : (m : Mode) → ((v : ℕ) → m ≡ Word v → ⊥) → is_word m ≡ false
unfolding is_word
not_word Between n = refl
not_word (Word v) n = absurd (n v refl)
not_word Comment n = refl
not_word Bad n = refl

pub not_bad : (m : Mode) → (m ≡ Bad → ⊥) → is_bad m ≡ false
unfolding is_bad
not_bad Between n = refl
not_bad (Word v) n = refl
not_bad Comment n = refl
not_bad Bad n = absurd (n refl)

-- One byte more.
module _ (text : List ℕ) (m : Mode) (i : ℕ) (h : i < length text) where
  abbrev here : ℕ
  here = get_or text i 0

  pub numbers-step : numbers_from m (drop i text) ≡ ended m (after m here) ++ numbers_from (after m here) (drop (i + 1) text)
  unfolding numbers_from
  numbers-step = rw (add-one, drop-cons text i 0)

  pub bytes-step : (then : Mode)
      → then ≡ after m here
      → encode_all (numbers_from m (drop i text)) ≡ encode_all (ended m then) ++ encode_all (numbers_from then (drop (i + 1) text))
  bytes-step then e =
      rw e (ap encode_all numbers-step
      ∙ encode_all-append (ended m (after m here)) (numbers_from (after m here) (drop (i + 1) text)))

  pub length-step : (then : Mode)
      → then ≡ after m here
      → length (encode_all (numbers_from m (drop i text)))
      ≡ length (encode_all (ended m then)) + length (encode_all (numbers_from then (drop (i + 1) text)))
  length-step then e = ap length (bytes-step then e) ∙ length-append (encode_all (ended m then)) _

  pub bad_here : (line : ℕ) → is_bad (after m here) ≡ true → bad_line_from m line (drop i text) ≡ line
  unfolding bad_line_from
  bad_here line e = rw (drop-cons text i 0, e)

  pub bad_later : (line : ℕ)
      → is_bad (after m here) ≡ false
      → bad_line_from m line (drop i text) ≡ bad_line_from (after m here) (line_after line here) (drop (i + 1) text)
  unfolding bad_line_from
  bad_later line e = rw (add-one, drop-cons text i 0, e)

pub line-more : (line b : ℕ) → b ≡ 10 → line_after line b ≡ line + 1
unfolding line_after
line-more line b e = choose_yes (b ≐ 10) _ _ e

pub line_same : (line b : ℕ) → (b ≡ 10 → ⊥) → line_after line b ≡ line
unfolding line_after
line_same line b n = choose_no (b ≐ 10) _ _ n

-- At the end of the text.
module _ (text : List ℕ) (m : Mode) (i : ℕ) (h : length text ≤ i) where
  pub bytes-end : encode_all (numbers_from m (drop i text)) ≡ encode_all (ended m Between)
  unfolding numbers_from
  bytes-end = rw (drop_of_length-le text h)

  pub bad_none : (line : ℕ) → bad_line_from m line (drop i text) ≡ 0
  unfolding bad_line_from
  bad_none line = rw (drop_of_length-le text h)

pub numbers-start : (text : List ℕ) → encode_all (numbers_from Between (drop 0 text)) ≡ sheet_of text
unfolding sheet_of numbers
numbers-start text = refl

pub bad_start : (text : List ℕ) → bad_line_from Between 1 (drop 0 text) ≡ bad_line text
unfolding bad_line
bad_start text = refl

-- What a text gives.
module _ (text out : List ℕ) where
  module _ (short : length out < length text) where
    pub short_answer : answer text out ≡ Err NoRoom
    unfolding answer given
    short_answer = choose_no (length text ≼ length out) _ _ (λ l. omega arith)

    pub short_memory : memory text out ≡ out
    unfolding memory given
    short_memory = choose_no (length text ≼ length out) _ _ (λ l. omega arith)

  module _ (room : length text ≤ length out) where
    pub bad_answer : 0 < bad_line text → answer text out ≡ Err (BadLine (bad_line text))
    unfolding answer given
    bad_answer h = choose_yes (length text ≼ length out) _ _ room ∙ choose_no (bad_line text ≐ 0) _ _ (λ e. omega arith)

    pub bad_memory : 0 < bad_line text → memory text out ≡ out
    unfolding memory given
    bad_memory h = choose_yes (length text ≼ length out) _ _ room ∙ choose_no (bad_line text ≐ 0) _ _ (λ e. omega arith)

    pub good_answer : bad_line text ≡ 0 → answer text out ≡ Ok (length (sheet_of text))
    unfolding answer given
    good_answer e = choose_yes (length text ≼ length out) _ _ room ∙ choose_yes (bad_line text ≐ 0) _ _ e

    pub good_memory : bad_line text ≡ 0 → memory text out ≡ splice out 0 (sheet_of text)
    unfolding memory given
    good_memory e = choose_yes (length text ≼ length out) _ _ room ∙ choose_yes (bad_line text ≐ 0) _ _ e

pub ruleset what_is_given = (short_answer, short_memory, bad_answer, bad_memory, good_answer, good_memory)

-- What each answer says of the text and of the memory.
abbrev pub Says : List ℕ → List ℕ → Result ℕ Untyped → Type 0
Says text out (Ok n) = (bad_line text ≡ 0) × (n ≡ length (sheet_of text)) × (memory text out ≡ splice out 0 (sheet_of text))
Says text out (Err (BadLine line)) = (0 < line) × (line ≡ bad_line text) × (memory text out ≡ out)
Says text out (Err NoRoom) = length out < length text

pub says : (text out : List ℕ) → Says text out (answer text out)
says text out = go (decide (length text ≼ length out)) (decide (bad_line text ≐ 0))
  where
    go : Case (length text ≼ length out) → Case (bad_line text ≐ 0) → Says text out (answer text out)
    go (it_does room) (it_does good) = rw (good_answer text out room good) (good, refl, good_memory text out room good)
    go (it_does room) (it_does_not bad) =
        let line : 0 < bad_line text = omega (arith, bad) in
        rw (bad_answer text out room line) (line, refl, bad_memory text out room line)
    go (it_does_not short) c = let none : length out < length text = omega (arith, short) in rw (short_answer text out none) none
