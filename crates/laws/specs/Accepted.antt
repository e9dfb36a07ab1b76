-- A call by cases: refused, and the session stays; or accepted, and the session and what is made are as the operation's row says.
use Rattle.std.specs.Prelude.{ℕ, ◌≡◌, get_or}
use Rattle.std.proofs.Common.{ap, sym, ◌∙◌, arith}
use Rattle.session.specs.Table.{Session}
use Rattle.rules.specs.declared.Operation.{Operation}
use Rattle.rules.specs.Formula.{Holds, Formula.◌≐◌}
use Rattle.rules.specs.FormulaLaws.{Case, decide, choose_yes, choose_no, Case.it_does, Case.it_does_not}
use Rattle.rules.specs.Checks.{refusal}
use Rattle.rules.specs.Sound.{sound}
use Rattle.rules.specs.Step.{rule_of, rules, unknown, answer, after, outcome, step, Reply}

-- an accepted operation: no check of its row fails, and what it leaves and makes is its row's
pub record Accepted (s : Session) (o : Operation) : Type 0 where
  pub none_fails : refusal ((rule_of o).asks s o) ≡ 0
  pub leaves : after s o ≡ (rule_of o).does s o
  pub makes : outcome s o ≡ (rule_of o).makes s o

-- what the checks from 6 on say of an operation
pub data Answered (s : Session) (o : Operation) : Type 0 where
  turned_down : (answer s o ≡ 0 → ⊥) → after s o ≡ s → outcome s o ≡ 0 → Answered s o
  taken : answer s o ≡ 0 → Accepted s o → Answered s o

pub answered : (s : Session) (o : Operation) → Answered s o
unfolding answer after outcome
answered s o = go (decide (answer s o ≐ 0))
  where
    does : Session
    does = (rule_of o).does s o

    makes : ℕ
    makes = (rule_of o).makes s o

    go : Case (answer s o ≐ 0) → Answered s o
    go (it_does a) =
        taken a (record {
          none_fails = a;
          leaves = choose_yes (answer s o ≐ 0) does s a;
          makes = choose_yes (answer s o ≐ 0) makes 0 a;
        })
    go (it_does_not n) =
        turned_down n (choose_no (answer s o ≐ 0) does s n) (choose_no (answer s o ≐ 0) makes 0 n)

-- the row of a code
pub rule_at : (o : Operation) (k : ℕ) → o.code ≡ k → rule_of o ≡ get_or rules k unknown
unfolding rules
rule_at o k c = ap (λ (n : ℕ). get_or rules n unknown) c

-- a single call: check 2 and the others
pub data Called (s : Session) (o : Operation) : Type 0 where
  refused : ((step s o).refused ≡ 0 → ⊥) → (step s o).made ≡ 0 → (step s o).leaves ≡ s → Called s o
  accepted : Holds (sound s) → (step s o).refused ≡ 0 → (step s o).made ≡ outcome s o → (step s o).leaves ≡ after s o
      → Accepted s o → Called s o

-- the reply of the checks from 6 on, and that of check 2
abbrev pub checked : Session → Operation → Reply
checked s o = record { refused = answer s o; made = outcome s o; leaves = after s o }

abbrev pub unsound : Session → Reply
unsound s = record { refused = 2; made = 0; leaves = s }

pub step-unsound : (s : Session) (o : Operation) → (Holds (sound s) → ⊥) → step s o ≡ unsound s
unfolding step
step-unsound s o n = choose_no (sound s) (checked s o) (unsound s) n

pub step-sound : (s : Session) (o : Operation) → Holds (sound s) → step s o ≡ checked s o
unfolding step
step-sound s o h = choose_yes (sound s) (checked s o) (unsound s) h

pub called : (s : Session) (o : Operation) → Called s o
called s o = go (decide (sound s))
  where
    replies : {r : Reply} → step s o ≡ r
        → ((step s o).refused ≡ r.refused) × ((step s o).made ≡ r.made) × ((step s o).leaves ≡ r.leaves)
    replies x = (ap (λ (r : Reply). r.refused) x, ap (λ (r : Reply). r.made) x, ap (λ (r : Reply). r.leaves) x)

    no_2 : ◌≡◌ {A = ℕ} 2 0 → ⊥
    no_2 q = omega arith

    from_6 : Holds (sound s) → Answered s o → Called s o
    from_6 h (turned_down n a m) =
        let x = replies (step-sound s o h) in refused (λ e. n (sym x.0 ∙ e)) (x.1 ∙ m) (x.2 ∙ a)
    from_6 h (taken a m) = let x = replies (step-sound s o h) in accepted h (x.0 ∙ a) x.1 x.2 m

    go : Case (sound s) → Called s o
    go (it_does h) = from_6 h (answered s o)
    go (it_does_not n) = let x = replies (step-unsound s o n) in refused (λ e. no_2 (sym x.0 ∙ e)) x.1 x.2
