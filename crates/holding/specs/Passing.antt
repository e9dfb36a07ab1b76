-- Handles that a sweep passes: it writes only where a field has a certain value, and none of them has it there.
use Rattle.std.specs.Prelude.{ℕ, ◌≡◌}
use Rattle.std.proofs.Common.{ap, ◌∙◌}
use Rattle.session.specs.Table.{Session, sweep}
use Rattle.session.specs.TableLaws.{sweep_past}
use Rattle.session.specs.declared.Field.{Field}
use Rattle.reading.specs.Finding.{Passed}
use Rattle.laws.specs.Puts.{sweep_skip}

-- a sweep of field f that changes only places with v in field k goes on past others
pub sweep_passed : (s r : Session) (f k : Field) (v m n : ℕ) (g : ℕ → ℕ) → r ≡ sweep s f m g → Passed r k v m n
    → ((j : ℕ) → (s k j ≡ v → ⊥) → g j ≡ s f j) → sweep s f m g ≡ sweep s f n g
sweep_passed s r f k v m n g p q stays =
    sweep_skip s f m n g q.onward
    (λ j a l. stays j (λ x. q.others j a l (ap (λ (y : Session). y k j) p ∙ sweep_past s f m g k j a ∙ x)))
