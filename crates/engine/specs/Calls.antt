-- The calls on one memory, "each working on what the last one left": they are the list that demand 3 is about.
use Rattle.std.specs.Prelude.{ℕ, ◌≤◌, ◌≡◌, Bool, true, false, length}
use Rattle.std.proofs.Math.Path.{refl}
use Rattle.std.proofs.Common.{ap, arith, le-leb}
use mathlib.Core.List.{List, [], ◌∷◌}
use Rattle.session.specs.Table.{Session, Wrote, read, words, pick}
use Rattle.session.specs.TableLaws.{wrote_none, wrote_then}
use Rattle.session.specs.Fresh.{Leaves}
use Rattle.rules.specs.declared.Operation.{Operation}
use Rattle.rules.specs.Answer.{Answer}
use Rattle.rules.specs.Answer.{Answer.Accepted, Answer.Refused}
use Rattle.rules.specs.Formula.{test, Formula.◌≐◌}
use Rattle.rules.specs.Answer.{answer_of}
use Rattle.rules.specs.Step.{Reply, fresh_session, step}
use Rattle.rules.specs.Book.{opening}
use Rattle.rules.specs.Demand.{Demand3, accepted, next, run, calls, session_after, book_after, Call, book}
use Rattle.laws.specs.Demand.{demand_3}
use Rattle.engine.specs.Played.{Answered}

-- Calls on one memory, one after the other: the memory before the first, the operations, what each answered, and the memory
-- after the last. `Does` is the contract of one call: of the memory before and after it, its operation and its answer.
pub data Chain {A : Type 0} (Does : List ℕ → List ℕ → Operation → A → Type 0) : List ℕ → List Operation → List A → List ℕ
    → Type 0 where
  none : {memory : List ℕ} → Chain Does memory [] [] memory
  call : {before between after : List ℕ} {o : Operation} {os : List Operation} {r : A} {rs : List A}
      → Does before between o r → Chain Does between os rs after → Chain Does before (o ∷ os) (r ∷ rs) after

module _ {A : Type 0} where
  -- what `step` answers along a list
  unfoldable pub answers : (Reply → A) → Session → List Operation → List A
  answers says s [] = []
  answers says s (o ∷ os) = says (step s o) ∷ answers says (next s o) os

  -- "The book is fed the calls in order and which were accepted": by their answers
  unfoldable pub fed : (A → Bool) → List Operation → List A → List Call
  fed accepts [] rs = []
  fed accepts (o ∷ os) [] = []
  fed accepts (o ∷ os) (r ∷ rs) = record { operation = o; accepted = accepts r } ∷ fed accepts os rs

  -- What calls from a fresh session on are, the refused ones among them. `says` is the answer of a reply, `accepts` whether an
  -- answer is that of an accepted call.
  pub record FromFresh (says : Reply → A) (accepts : A → Bool) (lent : List ℕ) (os : List Operation) (rs : List A)
      (after : List ℕ) : Type 0 where
    -- the memory holds the session after the list; past the layout it is as it was lent
    pub leaves : Wrote lent after (session_after os)
    -- each answered what `step` says of the session that the calls before it left
    pub answered : rs ≡ answers says fresh_session os
    -- the book is that of the calls accepted by their answers
    pub booked : book_after os ≡ book opening (fed accepts os rs)
    pub demand : Demand3 os

-- Any calls are such a list whose contract says: on memory that is long enough, the answer is that of `step`, and its session is left.
module _ {A : Type 0} (Does : List ℕ → List ℕ → Operation → A → Type 0) (says : Reply → A) (accepts : A → Bool)
    (told : (before after : List ℕ) (o : Operation) (r : A) → words ≤ length before → Does before after o r
    → (r ≡ says (step (read before) o)) × Wrote before after (step (read before) o).leaves)
    (agrees : (reply : Reply) → accepts (says reply) ≡ test (reply.refused ≐ 0)) where
  pub chain_run : {before after : List ℕ} {os : List Operation} {rs : List A} → words ≤ length before
      → Chain Does before os rs after
      → (rs ≡ answers says (read before) os) × Wrote before after (run (read before) os)
  unfolding answers run next
  chain_run h none = (refl, wrote_none _)
  chain_run h (call d c) =
      let t = told _ _ _ _ h d in
      let more = rw t.1.reading at (chain_run (omega (arith, t.1.same_length)) c) in
      (cc (t.0, more.0), wrote_then t.1 more.1)

  fed-calls : (s : Session) (os : List Operation) → calls s os ≡ fed accepts os (answers says s os)
  unfolding fed answers calls accepted
  fed-calls s [] = refl
  fed-calls s (o ∷ os) = rw (agrees (step s o), fed-calls (next s o) os)

  pub chain_demand : {lent first after : List ℕ} {os : List Operation} {rs : List A} → words ≤ length lent
      → Leaves lent first fresh_session
      → Chain Does first os rs after → FromFresh says accepts lent os rs after
  chain_demand {lent} {first} {after} {os} {rs} h f c =
      let w : Wrote lent first fresh_session = rw (le-leb words (length lent) h) at f in
      let r = rw w.reading at (chain_run (omega (arith, w.same_length)) c) in
      record {
        leaves = wrote_then w r.1;
        answered = r.0;
        booked = rw r.0 (ap (book opening) (fed-calls fresh_session os));
        demand = demand_3 os;
      }

-- So are those of `engine::apply` on memory that `session::write_fresh` wrote.
unfoldable pub is_accepted : Answer → Bool
is_accepted (Accepted m) = true
is_accepted (Refused n) = false

pub apply_demand : {lent first after : List ℕ} {os : List Operation} {rs : List Answer} → words ≤ length lent
    → Leaves lent first fresh_session
    → Chain Answered first os rs after → FromFresh answer_of is_accepted lent os rs after
unfolding answer_of is_accepted
apply_demand = chain_demand Answered answer_of is_accepted told (λ reply. agrees reply (test (reply.refused ≐ 0)))
  where
    told : (before after : List ℕ) (o : Operation) (r : Answer) → words ≤ length before → Answered before after o r
        → (r ≡ answer_of (step (read before) o)) × Wrote before after (step (read before) o).leaves
    told before after o r h d = let p = rw (le-leb words (length before) h) at d in (p.answer, p.leaves)

    agrees : (reply : Reply) (b : Bool) → is_accepted (pick b (Accepted reply.made) (Refused reply.refused)) ≡ b
    agrees reply true = refl
    agrees reply false = refl
