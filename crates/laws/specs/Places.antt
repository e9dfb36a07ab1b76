-- What stands at a place after one place was written.
use Rattle.std.specs.Prelude.{ℕ, ◌≡◌, refl, Bool, true, false, eqb}
use Rattle.std.proofs.Common.{eq-eqb, ne_eqb, eqb-true}
use Rattle.std.proofs.lemmas.Bool.{eqb-false}
use Rattle.session.specs.Table.{Session, put, change}
use Rattle.session.specs.declared.Field.{Field}
use Rattle.session.specs.TableLaws.{same_refl}

-- two places are one, or they are not
pub data Places (i j : ℕ) : Type 0 where
  one : i ≡ j → Places i j
  two : (i ≡ j → ⊥) → Places i j

pub places : (i j : ℕ) → Places i j
places i j = go (eqb i j) refl
  where
    go : (b : Bool) → eqb i j ≡ b → Places i j
    go true e = one (eqb-true i j e)
    go false e = two (eqb-false i j e)

-- the place that was written, and any other
pub put-here : (s : Session) (f : Field) (i j v : ℕ) → i ≡ j → put s f i v f j ≡ v
unfolding put
put-here s f i j v e = rw (same_refl f, eq-eqb i j e)

pub put_there : (s : Session) (f : Field) (i j v : ℕ) → (i ≡ j → ⊥) → put s f i v f j ≡ s f j
unfolding put
put_there s f i j v n = rw (same_refl f, ne_eqb i j n)

-- a field that was changed
pub change-here : (s : Session) (f : Field) (g : ℕ → ℕ) (j : ℕ) → change s f g f j ≡ g j
unfolding change
change-here s f g j = rw (same_refl f)
