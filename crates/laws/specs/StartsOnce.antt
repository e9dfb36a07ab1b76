-- Two claims of demand 3: a task starts at most once, and only when each of its pre-slots has been satisfied exactly once.
use Rattle.std.specs.Prelude.{ℕ, ◌+◌, ◌≤◌, ◌<◌, ◌≡◌, List}
use Rattle.std.proofs.Common.{sym, ap, subst, ◌∙◌, arith}
use Rattle.session.specs.Table.{Session, at}
use Rattle.session.specs.declared.Field.TheVariants.{Objects, Kind, TaskState, TaskSlots}
use Rattle.session.specs.Names.{task, resolved, granted, running, ended, task_destroyed}
use Rattle.rules.specs.declared.Operation.{Operation}
use Rattle.rules.specs.Formula.{Formula, Holds, Formula.◌≼◌, Formula.◌and◌}
use Rattle.rules.specs.FormulaLaws.{Case, decide, Case.it_does, Case.it_does_not}
use Rattle.rules.specs.Checks.{refusal, start_checks}
use Rattle.rules.specs.Sound.{kept}
use Rattle.rules.specs.Step.{arg, answer, rules, Rule, Reply}
use Rattle.rules.specs.Book.{Book, Column}
use Rattle.rules.specs.Demand.{accepted, session_after, book_after}
use Rattle.laws.specs.Met.{Checked, all_met_lem, by_number}
use Rattle.laws.specs.Rows.Name.{states}
use Rattle.laws.specs.ByName.{by_name}
use Rattle.laws.specs.Conjuncts.{state_by_name, State.later_full}
use Rattle.laws.specs.Accepted.{rule_at}
use Rattle.laws.specs.StepKeeps.{kept_step}
use Rattle.laws.specs.Runs.{always_kept}
use Rattle.laws.specs.Relation.{Related}
use Rattle.laws.specs.Relation.Clause.{task_counts, slots_agree, starts_agree}
use Rattle.laws.specs.RelatedRuns.{always_related}

once_at_most : (s : Session) (b : Book) → Related s b → (t : ℕ) → b Column.Starts t ≤ 1
once_at_most s b r t = go (decide started) (r starts_agree t)
  where
    started : Formula
    started = running ≼ s TaskState t and s TaskState t ≼ ended

    go : Case started → (Holds started → b Column.Starts t ≡ 1) × ((Holds started → ⊥) → b Column.Starts t ≡ 0)
        → b Column.Starts t ≤ 1
    go (it_does x) m = let e = m.0 x in omega arith
    go (it_does_not n) m = let e = m.1 n in omega arith

-- demand 3's `starts_once`
pub starts_once : (os : List Operation) (t : ℕ) → book_after os Column.Starts t ≤ 1
starts_once os t = once_at_most (session_after os) (book_after os) (always_related os) t

-- a call that a kept session accepts passes the checks from 6 on
pub accepted-answer : (s : Session) (o : Operation) → Holds (kept s) → Holds (accepted s o) → answer s o ≡ 0
unfolding accepted
accepted-answer s o k a = sym (ap (λ (r : Reply). r.refused) (kept_step s o k)) ∙ a

start-met : (s : Session) (o : Operation) → o.code ≡ 11 → answer s o ≡ 0 → Checked (start_checks s (arg o 0))
unfolding answer rules
start-met s o c a =
    let cs = start_checks s (arg o 0) in
    by_number cs (all_met_lem cs tt (subst (λ (r : Rule). refusal (r.asks s o) ≡ 0) (rule_at o 11 c) a))

ready_at : (s : Session) (b : Book) → Holds (kept s) → Related s b → (t : ℕ) → Checked (start_checks s t) → (j : ℕ)
    → j < b Column.Count t → b Column.Times (at t j) ≡ 1
ready_at s b k r t c j l =
    let satisfied = state_by_name t s (by_name s k states t made_low kind) later_full full j has in
    ((r slots_agree t made_low kind alive j has).1 satisfied).0
  where
    kind : s Kind t ≡ task
    kind = c 10

    was : s TaskState t ≡ granted
    was = c 16

    alive : s TaskState t ≡ task_destroyed → ⊥
    alive e = let w = was in omega arith

    full : (resolved ≤ s TaskState t) × (s TaskState t ≤ ended)
    full = let w = was in omega arith

    made_low : t < s Objects 0 + 1
    made_low = let m = (c 9).1 in omega arith

    has : j < s TaskSlots t
    has = let e = r task_counts t (c 10) in omega arith

-- demand 3's `starts_ready`: from the calls before
pub starts_ready : (before : List Operation) (o : Operation) → o.code ≡ 11 → Holds (accepted (session_after before) o)
    → (j : ℕ) → j < book_after before Column.Count (arg o 0) → book_after before Column.Times (at (arg o 0) j) ≡ 1
starts_ready before o c a =
    let s = session_after before in
    let k = always_kept before in
    ready_at s (book_after before) k (always_related before) (arg o 0) (start-met s o c (accepted-answer s o k a))
