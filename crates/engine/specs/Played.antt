-- What running an operation on lent memory answers and leaves.
use Rattle.std.specs.Prelude.{ℕ, ◌≤◌, ◌<◌, ◌≡◌, refl, true, false, List, ◌++◌, length, take, drop, leb, Result, Result.Ok, Result.Err}
use Rattle.std.proofs.Common.{ap, sym, subst, ◌∙◌, arith, le-leb}
use Rattle.std.proofs.Math.ListN.{get_or-eq_default}
use Rattle.std.proofs.lemmas.Bool.{lt-leb}
use Rattle.std.proofs.lemmas.List.{take-append-drop}
use Rattle.std.specs.Result.{IsErrAnd}
use Rattle.session.specs.Table.{Session, Wrote, read, words, pick}
use Rattle.session.specs.TableLaws.{wrote_none}
use Rattle.session.specs.First.{read_first, wrote_first}
use Rattle.rules.specs.declared.Operation.{Operation}
use Rattle.rules.specs.Answer.{Answer, answer_told, Answer.Accepted, Answer.Refused}
use Rattle.rules.specs.Formula.{Holds, test, choose, Formula.◌≐◌}
use Rattle.rules.specs.FormulaLaws.{choose_yes, choose_no, passed, failed}
use Rattle.rules.specs.Checks.{refusal}
use Rattle.rules.specs.declared.refusals.Refusal.{Refusal}
use Rattle.rules.specs.Refusals.{number, number_some}
use Rattle.rules.specs.Answer.{refused_of, made_of, answer_of, answer-accepted, answer-refused, refused-told, made_told}
use Rattle.rules.specs.Sound.{sound}
use Rattle.rules.specs.Step.{Reply, Rule, rules, last_code, rule_of, unknown, answer, after, outcome, step}
use Rattle.sound.specs.RulesInOrder.{sound_memory, memory_tested}
use Rattle.laws.specs.Accepted.{step-sound, step-unsound}
use Rattle.laws.specs.OneCall.{refusal_makes_nothing}

-- What a call answers and leaves in memory: the reply's answer; its session, the words past the layout as they were; and where the
-- reply is a refusal every word as it was.
pub record Replied (before after : List ℕ) (r : Answer) (reply : Reply) : Type 0 where
  pub answer : r ≡ answer_of reply
  pub leaves : Wrote before after reply.leaves
  pub stays : (reply.refused ≡ 0 → ⊥) → after ≡ before

-- What a single call promises of any memory: check 1 ("Session memory is shorter than docs/ says"), then `step`, with check 2 and
-- the others.
abbrev pub Answered : List ℕ → List ℕ → Operation → Answer → Type 0
Answered before after op r =
    pick (leb words (length before)) (Replied before after r (step (read before) op)) ((r ≡ Refused 1) × (after ≡ before))

-- an operation by its row, on a sound session: the first check that fails, or what it does and makes
unfoldable pub reply_by : Rule → Session → Operation → Reply
reply_by rule s o =
    let refused = refusal (rule.asks s o) in
    record { refused = refused; made = choose (refused ≐ 0) (rule.makes s o) 0; leaves = choose (refused ≐ 0) (rule.does s o) s }

abbrev pub Played : Rule → Operation → List ℕ → List ℕ → Answer → Type 0
Played rule o before after r = Replied before after r (reply_by rule (read before) o)

-- the operation of a code and its fields
abbrev pub operation_of : ℕ → List ℕ → Operation
operation_of code fields = record { code = code; fields = fields }

-- What the function of a row promises of the words lent to it, called with these fields: its row looks at no code.
abbrev pub Plays : Rule → List ℕ → List ℕ → List ℕ → Answer → Type 0
Plays rule fields ws ws' r = Played rule (operation_of 0 fields) ws ws' r

-- the operation of this code, by the row that it has
abbrev pub PlayedBy : ℕ → List ℕ → List ℕ → List ℕ → Answer → Type 0
PlayedBy code fields = let o = operation_of code fields in Played (rule_of o) o

-- What a function promises that takes the code too.
abbrev pub PlaysCode : ℕ → List ℕ → List ℕ → List ℕ → Answer → Type 0
PlaysCode code fields ws ws' r = PlayedBy code fields ws ws' r

-- a refusal
pub played_refused : (rule : Rule) (o : Operation) (ws : List ℕ) (n : ℕ) → n ≡ refusal (rule.asks (read ws) o) → (n ≡ 0 → ⊥)
    → Played rule o ws ws (Refused n)
unfolding reply_by
played_refused rule o ws n e z =
    let checks = rule.asks (read ws) o in
    let f : refusal checks ≡ 0 → ⊥ = λ q. z (e ∙ q) in
    record {
      answer = ap Refused e ∙ sym (answer-refused (reply_by rule (read ws) o) f);
      leaves = rw (choose_no (refusal checks ≐ 0) (rule.does (read ws) o) (read ws) f) (wrote_none ws);
      stays = λ _. refl;
    }

-- the same, as a function gives it that passes on the refusal of its checks
pub played_err : (rule : Rule) (o : Operation) (ws : List ℕ) (r : Refusal) (result : Result ℕ Refusal)
    → number r ≡ refusal (rule.asks (read ws) o) → IsErrAnd result (λ q. q ≡ r) → Played rule o ws ws (answer_told result)
played_err rule o ws r (Ok m) e x = absurd x
played_err rule o ws r (Err q) e x =
    played_refused rule o ws (number q) (ap number x ∙ e) (λ z. let some = number_some q in omega arith)

-- an operation accepted
pub played_accepted : (rule : Rule) (o : Operation) (before after : List ℕ) (m : ℕ) → refusal (rule.asks (read before) o) ≡ 0
    → m ≡ rule.makes (read before) o → Wrote before after (rule.does (read before) o) → Played rule o before after (Accepted m)
unfolding reply_by
played_accepted rule o before after m e q w =
    let s = read before in
    let accepted = refusal (rule.asks s o) ≐ 0 in
    record {
      answer = ap Accepted (q ∙ sym (choose_yes accepted (rule.makes s o) 0 e)) ∙ sym (answer-accepted (reply_by rule s o) e);
      leaves = rw (choose_yes accepted (rule.does s o) s e) w;
      stays = λ n. absurd (n e);
    }

-- a code that there is not
pub played_unknown : (ws : List ℕ) (code : ℕ) (fields : List ℕ) → last_code < code → PlayedBy code fields ws ws (Refused 6)
unfolding rules refusal test
played_unknown ws code fields h =
    let o = operation_of code fields in
    let e : rule_of o ≡ unknown = get_or-eq_default rules unknown h in
    subst (λ (r : Rule). Played r o ws ws (Refused 6)) (sym e) (played_refused unknown o ws 6 refl (λ z. omega arith))

pub played_none : (ws : List ℕ) (code : ℕ) (fields : List ℕ) → code ≡ 0 → PlayedBy code fields ws ws (Refused 6)
unfolding rules refusal test
played_none ws code fields e = rw e (played_refused unknown (operation_of 0 fields) ws 6 refl (λ z. omega arith))

-- from the operation's checks and effect to one step of a sound session
pub replied : (before after : List ℕ) (r : Answer) (op : Operation) → Holds (sound (read before))
    → PlayedBy op.code op.fields before after r
    → Replied before after r (step (read before) op)
unfolding reply_by answer after outcome
replied before after r op h p = rw (step-sound (read before) op h) p

-- what was played on the first words was played on the memory
pub replied_first : (ws ws' : List ℕ) (r : Answer) (op : Operation) → words ≤ length ws
    → Replied (take words ws) ws' r (step (read (take words ws)) op)
    → Replied ws (ws' ++ drop words ws) r (step (read ws) op)
replied_first ws ws' r op long p =
    let q : Replied (take words ws) ws' r (step (read ws) op) = rw (read_first ws) at p in
    record {
      answer = q.answer;
      leaves = wrote_first ws ws' _ long q.leaves;
      stays = λ n. rw (q.stays n) (take-append-drop words ws);
    }

-- memory too short, a session not sound, and one that is
pub answered_short : (ws : List ℕ) (op : Operation) → length ws < words → Answered ws ws op (Refused 1)
answered_short ws op h = rw (lt-leb words (length ws) h) (refl, refl)

pub answered-unsound : (ws : List ℕ) (op : Operation) → words ≤ length ws → (Holds (sound (read ws)) → ⊥)
    → Answered ws ws op (Refused 2)
unfolding answer_of test
answered-unsound ws op h n =
    rw (le-leb words (length ws) h, step-unsound (read ws) op n)
    (record { answer = refl; leaves = wrote_none ws; stays = λ _. refl })

pub answered-sound : (before after : List ℕ) (op : Operation) (r : Answer) → words ≤ length before
    → Replied before after r (step (read before) op)
    → Answered before after op r
answered-sound before after op r h p = rw (le-leb words (length before) h) p

-- the answer's two numbers are those of `step`
pub numbers : {before after : List ℕ} {r : Answer} (s : Session) (op : Operation) → Replied before after r (step s op)
    → (refused_of r ≡ (step s op).refused) × (made_of r ≡ (step s op).made)
numbers s op p = (
  ap refused_of p.answer ∙ refused-told (step s op),
  ap made_of p.answer ∙ made_told (step s op)
      (refusal_makes_nothing s op),
)

pub memory-sound : (ws : List ℕ) → words ≤ length ws → sound_memory ws ≡ true → Holds (sound (read ws))
memory-sound ws h e = passed (sound (read ws)) (sym (memory_tested ws h) ∙ e)

pub memory-unsound : (ws : List ℕ) → words ≤ length ws → sound_memory ws ≡ false → Holds (sound (read ws)) → ⊥
memory-unsound ws h e = failed (sound (read ws)) (sym (memory_tested ws h) ∙ e)
