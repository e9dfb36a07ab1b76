-- Which blocks some slot holds, kept in a row of marks.
use Rattle.std.specs.Prelude.{ℕ, ◌+◌, ◌<◌, ◌≡◌, refl, List, set, not}
use Rattle.std.proofs.Common.{subst, ◌∙◌}
use native.Mathlib.Omega.{arith}
use Rattle.session.specs.Table.{Session}
use Rattle.session.specs.declared.Field.TheVariants.{SlotMark, SlotPayload}
use Rattle.session.specs.Names.{held, object_places}
use Rattle.rules.specs.Formula.{Formula, Holds, test, choose, Formula.each, Formula.some}
use Rattle.rules.specs.Formula as formula
use Rattle.rules.specs.FormulaLaws.{choose_yes, choose_no, choose-same, test-same}
use Rattle.rules.specs.Bools.{test-not}
use Rattle.rules.specs.Reading.{slot_holds}
use Rattle.laws.specs.Places.{Places, places, Places.one, Places.two}
use Rattle.sound.specs.Row.{Row, row-set, row_same}

-- a formula at one place more
pub some_skip : (i : ℕ) (f : ℕ → Formula) → (Holds (f i) → ⊥) → Holds (some (i + 1) f) → Holds (some i f)
some_skip i f n x = go (places x.0 i)
  where
    go : Places x.0 i → Holds (some i f)
    go (one e) = absurd (n (subst (λ (k : ℕ). Holds (f k)) e x.2))
    go (two w) = (x.0, (let b = x.1 in omega arith), x.2)

pub some_keep : (i : ℕ) (f : ℕ → Formula) → Holds (some i f) → Holds (some (i + 1) f)
some_keep i f x = (x.0, (let b = x.1 in omega arith), x.2)

-- it fails at each place exactly if it holds at none
pub none_each : (n : ℕ) (f : ℕ → Formula) → test (each n (λ k. formula.not (f k))) ≡ not (test (some n f))
none_each n f =
    test-same (each n (λ k. formula.not (f k))) (formula.not (some n f)) (λ h x. h x.0 x.1 x.2)
    (λ h k b x. h (k, b, x)) ∙ test-not (some n f)

module _ (s : Session) where
  -- 1 if one of the first i slots holds block b, else 0
  unfoldable pub held_flag : ℕ → ℕ → ℕ
  held_flag i b = choose (some i (slot_holds s b)) 1 0

  held_same : (i b : ℕ) → (Holds (slot_holds s b i) → ⊥) → held_flag (i + 1) b ≡ held_flag i b
  unfolding held_flag
  held_same i b n =
      choose-same (some (i + 1) (slot_holds s b)) (some i (slot_holds s b)) 1 0 (some_skip i (slot_holds s b) n)
      (some_keep i (slot_holds s b))

  pub held_none : (a : List ℕ) → Row a object_places (λ b. 0) → Row a object_places (held_flag 0)
  unfolding held_flag
  held_none a r =
      row_same a object_places (λ b. 0) (held_flag 0) r
      (λ b q. choose_no (some 0 (slot_holds s b)) 1 0 (λ x. let l = x.1 in omega arith))

  pub held_yes : (a : List ℕ) (i : ℕ) → Row a object_places (held_flag i) → s SlotMark i ≡ held → s SlotPayload i < object_places
      → Row (set a (s SlotPayload i) 1) object_places (held_flag (i + 1))
  unfolding held_flag
  held_yes a i r m l =
      row-set a object_places (held_flag i) (held_flag (i + 1)) (s SlotPayload i) 1 r l
      (choose_yes (some (i + 1) (slot_holds s (s SlotPayload i))) 1 0 (i, omega arith, (m, refl)))
      (λ b q n. held_same i b (λ x. n x.1))

  pub held_no : (a : List ℕ) (i : ℕ) → Row a object_places (held_flag i)
      → (s SlotMark i ≡ held → s SlotPayload i < object_places → ⊥) → Row a object_places (held_flag (i + 1))
  held_no a i r n =
      row_same a object_places (held_flag i) (held_flag (i + 1)) r
      (λ b q. held_same i b (λ x. n x.0 (let e : s SlotPayload i ≡ b = x.1 in omega arith)))
