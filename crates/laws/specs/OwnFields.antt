-- What an operation is takes in its code and the fields that its code has: the fields past them change nothing.
use Rattle.std.specs.Prelude.{ℕ, ◌<◌, ◌≡◌, List, get_or}
use Rattle.std.proofs.Common.{ap}
use Rattle.session.specs.Table.{Session}
use Rattle.rules.specs.declared.Operation.{Operation}
use Rattle.rules.specs.Arity.{field_count, fields-counted}
use Rattle.rules.specs.Formula.{choose, Formula.◌≐◌}
use Rattle.rules.specs.Checks.{refusal}
use Rattle.rules.specs.Sound.{sound}
use Rattle.rules.specs.Step.{rule_of, answer, after, outcome, step}
use Rattle.laws.specs.Operations.{Same, proved}

abbrev with_fields : ℕ → List ℕ → Operation
with_fields code fields = record { code = code; fields = fields }

same_step : (s : Session) (code : ℕ) (fs gs : List ℕ)
    → Same (rule_of (with_fields code fs)) s (with_fields code fs) (with_fields code gs)
    → step s (with_fields code fs) ≡ step s (with_fields code gs)
unfolding step answer after outcome
same_step s code fs gs e =
    let a : answer s (with_fields code fs) ≡ answer s (with_fields code gs) = ap refusal e.asks in
    λ i. choose (sound s)
    (record {
      refused = a i;
      made = choose (a i ≐ 0) (e.makes i) 0;
      leaves = choose (a i ≐ 0) (e.does i) s;
    })
    (record { refused = 2; made = 0; leaves = s })

-- operations of one code that agree in the fields that the code has are answered alike and leave the same session
pub own-fields : (s : Session) (code : ℕ) (fs gs : List ℕ) → ((k : ℕ) → k < field_count code → get_or fs k 0 ≡ get_or gs k 0)
    → step s (record { code = code; fields = fs }) ≡ step s (record { code = code; fields = gs })
own-fields s code fs gs e =
    let o = with_fields code fs in
    same_step s code fs gs ((proved o).own s o (with_fields code gs) (rw (fields-counted o) at e))
