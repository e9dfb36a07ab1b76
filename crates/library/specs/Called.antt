-- A single call in numbers: the refusal and what was made.
use Rattle.std.specs.Prelude.{ℕ, ◌≡◌, Bool, true, false, List, [], ◌∷◌, leb, length, Result, Result.Ok, Result.Err, MatchResult}
use Rattle.std.proofs.Common.{ap, ◌∙◌}
use Rattle.session.specs.Table.{Wrote, read, words, pick}
use Rattle.rules.specs.declared.Operation.{Operation}
use Rattle.rules.specs.Answer.{Answer}
use Rattle.rules.specs.Answer.{Answer.Refused}
use Rattle.rules.specs.Answer.{answer_told, refused_of, made_of}
use Rattle.rules.specs.declared.refusals.Refusal.{Refusal}
use Rattle.rules.specs.Refusals.{number}
use Rattle.rules.specs.Step.{step}
use Rattle.engine.specs.Played.{Replied, Answered, numbers}

abbrev pub operation : ℕ → ℕ → ℕ → ℕ → ℕ → ℕ → Operation
operation code f0 f1 f2 f3 f4 = record { code = code; fields = f0 ∷ f1 ∷ f2 ∷ f3 ∷ f4 ∷ [] }

-- what `step` says of a session that memory holds
pub record CalledSound (before after : List ℕ) (op : Operation) (refused made : ℕ) : Type 0 where
  pub says : refused ≡ (step (read before) op).refused
  pub makes : made ≡ (step (read before) op).made
  pub leaves : Wrote before after (step (read before) op).leaves
  pub stays : (refused ≡ 0 → ⊥) → after ≡ before

-- and of memory that is too short: refusal 1, and nothing changed
abbrev pub Called : List ℕ → List ℕ → Operation → ℕ → ℕ → Type 0
Called before after op refused made =
    pick (leb words (length before)) (CalledSound before after op refused made) ((refused ≡ 1) × (made ≡ 0) × (after ≡ before))

-- of an answer of the engine's, in which a refusal becomes its number, `tell` gives the answer's two numbers
pub tells_refused : (r : Result ℕ Refusal) (n : ℕ) → MatchResult r (λ _. n ≡ 0) (λ e. n ≡ number e) → n ≡ refused_of (answer_told r)
unfolding refused_of
tells_refused (Ok m) n h = h
tells_refused (Err e) n h = h

pub tells_made : (r : Result ℕ Refusal) (n : ℕ) → MatchResult r (λ m. n ≡ m) (λ _. n ≡ 0) → n ≡ made_of (answer_told r)
unfolding made_of
tells_made (Ok m) n h = h
tells_made (Err e) n h = h

-- an answer's two numbers are those of the reply
pub told : (before after : List ℕ) (op : Operation) (r : Answer) → Replied before after r (step (read before) op)
    → CalledSound before after op (refused_of r) (made_of r)
told before after op r p =
    let n = numbers (read before) op p in
    record { says = n.0; makes = n.1; leaves = p.leaves; stays = λ z. p.stays (λ e. z (n.0 ∙ e)) }

pub called : (before after : List ℕ) (op : Operation) (r : Answer) → Answered before after op r
    → Called before after op (refused_of r) (made_of r)
unfolding refused_of made_of
called before after op r p = go (leb words (length before)) p
  where
    go : (b : Bool) → pick b (Replied before after r (step (read before) op)) ((r ≡ Refused 1) × (after ≡ before))
        → pick b (CalledSound before after op (refused_of r) (made_of r)) ((refused_of r ≡ 1) × (made_of r ≡ 0) × (after ≡ before))
    go true p = told before after op r p
    go false p = (ap refused_of p.0, ap made_of p.0, p.1)
