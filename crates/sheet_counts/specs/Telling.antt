-- One operation's answer, counted.
use Rattle.std.specs.Prelude.{ℕ, ◌≡◌, refl, Bool, true, false, eqb}
use Rattle.std.proofs.Common.{◌∙◌, arith}
use Rattle.std.specs.Int.{from_bool}
use Rattle.session.specs.Table.{pick}
use Rattle.rules.specs.Answer.{Answer.Accepted, Answer.Refused}
use Rattle.rules.specs.Formula.{Formula, test, not, Formula.◌≐◌, Formula.◌and◌}
use Rattle.rules.specs.FormulaLaws.{Case, decide, passes, fails, test-same, Case.it_does, Case.it_does_not}
use Rattle.rules.specs.Bools.{test_eq}
use Rattle.rules.specs.Answer.{answer_of, answer-accepted, answer-refused}
use Rattle.rules.specs.Step.{Reply}
use Rattle.sheet_counts.specs.declared.Told.{Told}
use Rattle.sheet_counts.specs.HowMany.{one}

-- whether it is refused, and whether it is an accepted start
abbrev pub told : ℕ → ℕ → Told
told refused code = record { refused = test (not (refused ≐ 0)); start = test (code ≐ 11 and refused ≐ 0) }

told_as : (refused code : ℕ) (x y : Bool) → test (not (refused ≐ 0)) ≡ x → test (code ≐ 11 and refused ≐ 0) ≡ y
    → record { refused = x; start = y } ≡ told refused code
told_as refused code x y e f = rw (e, f)

-- counted: 1 where it is so, else 0
pub counted_one : (f : Formula) → from_bool (test f) ≡ one f
counted_one f = go (test f)
  where
    go : (b : Bool) → from_bool b ≡ pick {A = ℕ} b 1 0
    go true = refl
    go false = refl

module _ (reply : Reply) (code : ℕ) where
  pub told-refused : (n : ℕ) → Refused n ≡ answer_of reply → record { refused = true; start = false } ≡ told reply.refused code
  told-refused n e = go (decide (reply.refused ≐ 0))
    where
      go : Case (reply.refused ≐ 0) → record { refused = true; start = false } ≡ told reply.refused code
      go (it_does_not f) =
          told_as reply.refused code true false
          (passes (not (reply.refused ≐ 0)) f)
          (fails (code ≐ 11 and reply.refused ≐ 0) (λ h. f h.1))
      go (it_does z) =
          let y : ◌≡◌ {A = ℕ} 0 1 = cc (answer-accepted reply z, e) in
          absurd (omega arith)

  none : (m : ℕ) → Accepted m ≡ answer_of reply → reply.refused ≡ 0
  none m e = go (decide (reply.refused ≐ 0))
    where
      go : Case (reply.refused ≐ 0) → reply.refused ≡ 0
      go (it_does z) = z
      go (it_does_not f) =
          let y : ◌≡◌ {A = ℕ} 0 1 = cc (answer-refused reply f, e) in
          absurd (omega arith)

  pub told-accepted : (m : ℕ) → Accepted m ≡ answer_of reply → record { refused = false; start = eqb code 11 } ≡ told reply.refused code
  told-accepted m e =
      let z = none m e in
      let same : test (code ≐ 11 and reply.refused ≐ 0) ≡ eqb code 11 =
      test-same (code ≐ 11 and reply.refused ≐ 0) (code ≐ 11) (λ h. h.0) (λ h. (h, z)) ∙ test_eq code 11 in
      told_as reply.refused code false (eqb code 11) (fails (not (reply.refused ≐ 0)) (λ f. f z)) same
