-- The numbers of a reply are small, so that its line takes less than the 32 bytes that check 1 asks for.
use Rattle.std.specs.Prelude.{◌≤◌, ◌<◌, ◌≡◌}
use Rattle.std.proofs.Common.{ap, sym, ◌∙◌, arith}
use Rattle.session.specs.Table.{Session}
use Rattle.rules.specs.declared.Operation.{Operation}
use Rattle.rules.specs.Formula.{Holds}
use Rattle.rules.specs.Sound.{sound}
use Rattle.rules.specs.Step.{Reply, rule_of, answer, step}
use Rattle.rules.specs.Arity.{field_count, fields-counted}
use Rattle.rules.specs.Checks.{last_refusal}
use Rattle.laws.specs.Met.{refusal_few}
use Rattle.laws.specs.Accepted.{Called, called, step-sound, Called.refused, Called.accepted}
use Rattle.laws.specs.Operations.{proved, made_few, made_none}

pub answer_small : (s : Session) (o : Operation) → answer s o ≤ last_refusal
unfolding answer
answer_small s o = refusal_few ((rule_of o).asks s o) ((proved o).numbers s o)

pub reply_small : (s : Session) (o : Operation) → Holds (sound s) → ((step s o).refused < 100) × ((step s o).made < 10000)
reply_small s o h =
    (rw (ap (λ (r : Reply). r.refused) (step-sound s o h)) (let a = answer_small s o in omega arith), go (called s o))
  where
    go : Called s o → (step s o).made < 10000
    go (refused n w e) = rw w (omega arith)
    go (accepted i n w e a) = rw w (let b = made_few s o a i in omega arith)

-- an operation with one field makes nothing
pub reply_nothing : (s : Session) (o : Operation) → field_count o.code ≡ 1 → (step s o).made ≡ 0
reply_nothing s o e = go (called s o)
  where
    go : Called s o → (step s o).made ≡ 0
    go (refused n w q) = w
    go (accepted i n w q a) = w ∙ made_none s o a (sym (fields-counted o) ∙ e)
