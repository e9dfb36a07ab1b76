-- What a call answers: a reply's refusal and what it made, as one of the two answers that a caller can tell apart.
use Rattle.std.specs.Prelude.{ℕ, ◌≡◌, Result, Result.Ok, Result.Err}
use Rattle.std.proofs.Math.Path.{ap, sym}
use Rattle.std.proofs.Common.{◌∙◌}
use Rattle.rules.specs.declared.refusals.Refusal.{Refusal}
use Rattle.rules.specs.Refusals.{number}
use Rattle.rules.specs.Formula.{choose, Formula.◌≐◌}
use Rattle.rules.specs.FormulaLaws.{Case, decide, choose_yes, choose_no, Case.it_does, Case.it_does_not}
use Rattle.rules.specs.Step.{Reply}

-- What a caller can tell apart: what an accepted call made or the steps climbed, or the number of the check that failed.
pub data Answer : Type 0 where
  Accepted : ℕ → Answer
  Refused : ℕ → Answer

-- the answer that a function gives
abbrev pub answer_told : Result ℕ Refusal → Answer
answer_told (Ok made) = Accepted made
answer_told (Err r) = Refused (number r)

-- An answer in document 01's numbers: the refusal, 0 if accepted ..
unfoldable pub refused_of : Answer → ℕ
refused_of (Accepted m) = 0
refused_of (Refused n) = n

-- .. and the handle or link made, or the steps climbed: "A refusal returns its number and 0".
unfoldable pub made_of : Answer → ℕ
made_of (Accepted m) = m
made_of (Refused n) = 0

-- The answer of a reply: an accepted call, which no check refuses, answers "the handle or link made"; "A refusal returns its number and 0"
unfoldable pub answer_of : Reply → Answer
answer_of reply = choose (reply.refused ≐ 0) (Accepted reply.made) (Refused reply.refused)

module _ (reply : Reply) where
  pub answer-accepted : reply.refused ≡ 0 → answer_of reply ≡ Accepted reply.made
  unfolding answer_of
  answer-accepted z = choose_yes (reply.refused ≐ 0) (Accepted reply.made) (Refused reply.refused) z

  pub answer-refused : (reply.refused ≡ 0 → ⊥) → answer_of reply ≡ Refused reply.refused
  unfolding answer_of
  answer-refused n = choose_no (reply.refused ≐ 0) (Accepted reply.made) (Refused reply.refused) n

  -- the answer's two numbers are the reply's
  pub refused-told : refused_of (answer_of reply) ≡ reply.refused
  unfolding refused_of
  refused-told = go (decide (reply.refused ≐ 0))
    where
      go : Case (reply.refused ≐ 0) → refused_of (answer_of reply) ≡ reply.refused
      go (it_does z) = ap refused_of (answer-accepted z) ∙ sym z
      go (it_does_not n) = ap refused_of (answer-refused n)

  pub made_told : ((reply.refused ≡ 0 → ⊥) → reply.made ≡ 0) → made_of (answer_of reply) ≡ reply.made
  unfolding made_of
  made_told none = go (decide (reply.refused ≐ 0))
    where
      go : Case (reply.refused ≐ 0) → made_of (answer_of reply) ≡ reply.made
      go (it_does z) = ap made_of (answer-accepted z)
      go (it_does_not n) = ap made_of (answer-refused n) ∙ sym (none n)
