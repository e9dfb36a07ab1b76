-- A grant: the slots of one task that have a block are held.
use Rattle.std.specs.Prelude.{ℕ, ◌+◌, ◌*◌, ◌/◌, ◌≤◌, ◌<◌, ◌≡◌, refl}
use Rattle.std.proofs.Common.{ap, ◌∙◌, arith}
use Rattle.session.specs.Table.{Session, put, change, sweep}
use Rattle.session.specs.declared.Field.{Field}
use Rattle.session.specs.declared.Field.TheVariants.{TaskState, SlotMark, SlotPayload}
use Rattle.session.specs.Names.{held, granted}
use Rattle.rules.specs.Formula.{choose, Formula.◌≐◌, Formula.◌≼◌, Formula.◌and◌}
use Rattle.rules.specs.FormulaLaws.{choose_yes, choose_no}
use Rattle.rules.specs.Effects.{grant}
use Rattle.laws.specs.Puts.{put_same}
use Rattle.holding.specs.SweepRows.{row, rows, own-end}

unfoldable pub grant_row : ℕ → ℕ → (Field → ℕ) → ℕ
grant_row t i r = choose ((i / 16 ≐ t) and (1 ≼ r SlotPayload)) held (r SlotMark)

unfoldable pub slots_granted : Session → ℕ → Session
unfolding grant_row
slots_granted s t = change s SlotMark (rows (grant_row t) s)

pub grant_row-own : (s : Session) (t j : ℕ) → j < 16 → 1 ≤ s SlotPayload (t * 16 + j)
    → grant_row t (t * 16 + j) (row s (t * 16 + j)) ≡ held
unfolding grant_row
grant_row-own s t j h p =
    choose_yes (((t * 16 + j) / 16 ≐ t) and (1 ≼ s SlotPayload (t * 16 + j))) held (s SlotMark (t * 16 + j)) (omega arith, p)

pub grant_row_empty : (s : Session) (t i : ℕ) → s SlotPayload i < 1 → put s SlotMark i (grant_row t i (row s i)) ≡ s
unfolding grant_row
grant_row_empty s t i n =
    ap (put s SlotMark i)
    (choose_no ((i / 16 ≐ t) and (1 ≼ s SlotPayload i)) held (s SlotMark i) (λ x. let y = x.1 in omega arith))
    ∙ put_same s SlotMark i

pub grant_row-other : (s : Session) (t i : ℕ) → (i / 16 ≡ t → ⊥) → grant_row t i (row s i) ≡ s SlotMark i
unfolding grant_row
grant_row-other s t i n = choose_no ((i / 16 ≐ t) and (1 ≼ s SlotPayload i)) held (s SlotMark i) (λ x. n x.0)

pub granted-end : (s : Session) (t j : ℕ) → j ≡ 16 → sweep s SlotMark (t * 16 + j) (rows (grant_row t) s) ≡ slots_granted s t
unfolding slots_granted
granted-end s t j e = own-end s t (grant_row t) (grant_row-other s t) j e

pub grant-slots : (s : Session) (t : ℕ) → put (slots_granted s t) TaskState t granted ≡ grant s t
unfolding slots_granted grant_row grant
grant-slots s t = refl
