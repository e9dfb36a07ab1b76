-- The calls of `faltxigor_apply` on one memory, begun by `faltxigor_fresh`: they are the list that demand 3 is about.
use Rattle.std.specs.Prelude.{ℕ, ◌≤◌, ◌≡◌, refl, Bool, List, eqb, length}
use Rattle.std.proofs.Common.{le-leb}
use Rattle.session.specs.Table.{Wrote, read, words}
use Rattle.session.specs.Fresh.{Leaves, fresh_session}
use Rattle.rules.specs.declared.Operation.{Operation}
use Rattle.rules.specs.Formula.{test}
use Rattle.rules.specs.Step.{Reply, step}
use Rattle.engine.specs.Calls.{Chain, FromFresh, chain_demand}
use Rattle.library.specs.Called.{Called}

-- what a call told: the refusal, 0 if accepted, and what was made
pub record Numbers : Type 0 where
  pub refused : ℕ
  pub made : ℕ

abbrev pub numbers_of : Reply → Numbers
numbers_of reply = record { refused = reply.refused; made = reply.made }

abbrev pub is_accepted : Numbers → Bool
is_accepted n = eqb n.refused 0

abbrev pub CalledWith : List ℕ → List ℕ → Operation → Numbers → Type 0
CalledWith before after op n = Called before after op n.refused n.made

pub called_demand : {lent first after : List ℕ} {os : List Operation} {ns : List Numbers} → words ≤ length lent
    → Leaves lent first fresh_session
    → Chain CalledWith first os ns after → FromFresh numbers_of is_accepted lent os ns after
unfolding test
called_demand = chain_demand CalledWith numbers_of is_accepted told (λ reply. refl)
  where
    same : (n m : Numbers) → n.refused ≡ m.refused → n.made ≡ m.made → n ≡ m
    same n m p q = rw (p, q)

    told : (before after : List ℕ) (o : Operation) (n : Numbers) → words ≤ length before → CalledWith before after o n
        → (n ≡ numbers_of (step (read before) o)) × Wrote before after (step (read before) o).leaves
    told before after o n h d = let p = rw (le-leb words (length before) h) at d in (same n _ p.says p.makes, p.leaves)
