-- What is read of a stream whose bytes are known is its front, as long as the memory is or, where it ends before, all of it.
use Rattle.std.specs.Prelude.{ℕ, ◌≤◌, ◌<◌, List, [], ◌++◌, ◌≡◌, ◌⊎◌, Option, None, Some, IfSome, length, take}
use Rattle.std.proofs.Common.{inl, inr, ap, sym, subst, ◌∙◌, arith, append-nil, take_all, take_at}
use Rattle.std.proofs.lemmas.Bool.{cases_lt}
use Rattle.std.specs.Io.KnownBytes.{Consumes, IsAtEnd}

front_is : (input bytes rest : List ℕ) (most : ℕ) → input ≡ bytes ++ rest → length bytes ≤ most → (length bytes < most → rest ≡ [])
    → take most input ≡ bytes
front_is input bytes rest most e short ended = go (cases_lt (length bytes) most)
  where
    go : (length bytes < most) ⊎ (most ≤ length bytes) → take most input ≡ bytes
    go (inl h) =
        ap (take most) (e ∙ ap (λ (l : List ℕ). bytes ++ l) (ended h) ∙ append-nil bytes) ∙ take_all most bytes short
    go (inr h) = ap (take most) e ∙ take_at bytes rest most (omega arith)

-- What holds of the bytes that were read, `most` at most and fewer only at the end, holds of the stream's front.
pub of_front : (old new : Option (List ℕ)) (bytes : List ℕ) (most : ℕ) (P Q : List ℕ → Type 0)
    → ((input : List ℕ) → P (take most input) → Q input)
    → Consumes old new bytes → length bytes ≤ most → (length bytes < most → IsAtEnd new) → P bytes → IfSome old Q
of_front None new bytes most P Q then came short ended p = tt
of_front (Some xs) None bytes most P Q then came short ended p = absurd came
of_front (Some xs) (Some ys) bytes most P Q then came short ended p =
    then xs (subst P (sym (front_is xs bytes ys most came short ended)) p)
