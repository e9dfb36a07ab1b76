-- What is proved of every operation is proved row by row: a record of proofs for each row of `rules`, one table of them, and
-- what follows of every accepted call. A new operation adds its record here.
use Rattle.std.specs.Prelude.{ℕ, zero, suc, ◌+◌, ◌≤◌, ◌<◌, ◌≡◌, refl, List, [], ◌∷◌, T, get_or}
use Rattle.std.proofs.Common.{arith}
use Rattle.session.specs.Table.{Session}
use Rattle.session.specs.Names.{event, task, counted, most_links}
use Rattle.session.specs.declared.Field.TheVariants.{Objects, Links, TaskCreator}
use Rattle.rules.specs.declared.Operation.{Operation}
use Rattle.rules.specs.Formula.{Holds, choose, test, Formula.◌≐◌, Formula.◌≼◌, Formula.◌and◌, not}
use Rattle.rules.specs.EventTypes.{fires_at_first}
use Rattle.rules.specs.FormulaLaws.{choose_case}
use Rattle.rules.specs.Reading.{made, is_kind}
use Rattle.rules.specs.Descendants.{climbed, is_over}
use Rattle.rules.specs.Checks.{Check, makes_link, task_slots}
use Rattle.rules.specs.Checks.{template_checks, task_checks, event_checks, block_checks, dependence_checks, satisfy_checks}
use Rattle.rules.specs.Checks.{release_checks, destroy_checks, deliver_checks, grant_checks, start_checks, end_checks, counted_checks}
use Rattle.rules.specs.Effects.{new_template, new_event, make_task, new_block, depend, satisfy_event, release, destroy, deliver}
use Rattle.rules.specs.Effects.{grant, start, end}
use Rattle.rules.specs.Sound.{kept, sound}
use Rattle.rules.specs.Book.{Book, Column, enter, enter_object, enter_task, enter_link, satisfies, strike, enter_destroy}
use Rattle.rules.specs.Book.{enter_deliver, enter_start, enter_end}
use Rattle.rules.specs.Demand.{moves}
use Rattle.rules.specs.Step.{Rule, rules, rule_of, unknown, arg, after, outcome, entered}
use Rattle.rules.specs.Step.{template_rule, task_rule, event_rule, block_rule, dependence_rule, satisfy_rule, release_rule, destroy_rule}
use Rattle.rules.specs.Step.{deliver_rule, grant_rule, start_rule, end_rule, counted_rule, end_climbs, destroy_climbs}
use Rattle.laws.specs.Rows.Name.{counts}
use Rattle.laws.specs.Keeping.{Kept}
use Rattle.laws.specs.Met.{Checked, numbered, all_met_lem, by_number}
use Rattle.laws.specs.Accepted.{Accepted}
use Rattle.laws.specs.Climbing.{climb_few}
use Rattle.laws.specs.ByName.{by_name, sound_by_name, kept_of}
use Rattle.laws.specs.Lasting.{Later, later_same}
use Rattle.laws.specs.LastingEffects.{later_new_template, later_new_event, later_new_block, later_make_task}
use Rattle.laws.specs.LastingOperations.{later_depend, later_satisfaction, later_release, later_destroy}
use Rattle.laws.specs.LastingOperations.{later_deliver, later_grant, later_start, later_end}
use Rattle.laws.specs.Relation.{Related}
use Rattle.laws.specs.RelatedMake.{related-template, related-task, related-event, related-block}
use Rattle.laws.specs.RelatedLink.{related-dependence, related_satisfaction}
use Rattle.laws.specs.RelatedState.{related-release, related-grant, related-start}
use Rattle.laws.specs.RelatedDestroy.{related-destroy}
use Rattle.laws.specs.RelatedDeliver.{related_delivery}
use Rattle.laws.specs.RelatedEnd.{related-end}
use Rattle.laws.specs.Left.{left}
use Rattle.laws.specs.Falling.{deliver_falls, grant_falls, start_falls, end_falls}
use Rattle.laws.specs.Template.{template_keeps}
use Rattle.laws.specs.Task.{task_keeps}
use Rattle.laws.specs.Event.{event_keeps, counted_keeps}
use Rattle.laws.specs.Block.{block_keeps}
use Rattle.laws.specs.Dependence.{dependence_keeps}
use Rattle.laws.specs.Satisfy.{satisfy_keeps}
use Rattle.laws.specs.Release.{release_keeps}
use Rattle.laws.specs.Destroy.{destroy_keeps}
use Rattle.laws.specs.Deliver.{deliver_keeps}
use Rattle.laws.specs.Grant.{grant_keeps}
use Rattle.laws.specs.Start.{start_keeps}
use Rattle.laws.specs.End.{end_keeps}

-- A list of rows has something of each of its rows, with the row's code, from 0 on.
abbrev pub Each : (ℕ → Rule → Type 0) → List Rule → Type 0
Each P [] = Unit {0}
Each P (r ∷ rs) = P 0 r × Each (λ n. P (suc n)) rs

pub each_at : (P : ℕ → Rule → Type 0) (rs : List Rule) (d : Rule) → Each P rs → ((n : ℕ) → P n d) → (n : ℕ) → P n (get_or rs n d)
each_at P [] d e past n = past n
each_at P (r ∷ rs) d e past zero = e.0
each_at P (r ∷ rs) d e past (suc n) = each_at (λ k. P (suc k)) rs d e.1 (λ k. past (suc k)) n

-- two operations agree in the first n fields
abbrev pub Agree : ℕ → Operation → Operation → Type 0
Agree n o p = (k : ℕ) → k < n → arg o k ≡ arg p k

-- what a row asks, does and makes is the same of two operations
pub record Same (r : Rule) (s : Session) (o p : Operation) : Type 0 where
  pub asks : r.asks s o ≡ r.asks s p
  pub does : r.does s o ≡ r.does s p
  pub makes : r.makes s o ≡ r.makes s p

-- a delivery, a grant, a start or an end, by its code
abbrev Moves : ℕ → Type 0
Moves code = Holds (9 ≼ code and code ≼ 12)

-- what is proved of the operation of a code
pub record Proved (code : ℕ) (r : Rule) : Type 0 where
  -- its checks are numbered
  pub numbers : (s : Session) (o : Operation) → T (numbered (r.asks s o))
  -- it looks at no field past those that it has
  pub own : (s : Session) (o p : Operation) → Agree r.arity o p → Same r s o p
  -- it keeps a session kept
  pub keeps : (s : Session) (o : Operation) → Checked (r.asks s o) → Kept s → Kept (r.does s o)
  -- it undoes nothing that lasts
  pub undoes_nothing : (s : Session) (o : Operation) → Checked (r.asks s o) → Holds (sound s) → Later s (r.does s o)
  -- what it enters keeps the book related to the session
  pub relates : (s : Session) (b : Book) (o : Operation) → Checked (r.asks s o) → Holds (kept s) → Related s b
      → Related (r.does s o) (r.enters b o)
  -- a move takes exactly one step from what is left
  pub falls : Moves code → (s : Session) (o : Operation) → Checked (r.asks s o) → Holds (kept s)
      → left s ≡ 1 + left (r.does s o)
  -- only a start is entered as one
  pub starts : (code ≡ 11 → ⊥) → (b : Book) (o : Operation) (h : ℕ) → r.enters b o Column.Starts h ≡ b Column.Starts h
  -- what is made is a handle or a link, or steps are climbed; with one field nothing is
  pub makes_few : (s : Session) (o : Operation) → Checked (r.asks s o) → Holds (sound s) → r.makes s o ≤ most_links
  pub makes_none : r.arity ≡ 1 → (s : Session) (o : Operation) → r.makes s o ≡ 0

template_proved : Proved 1 template_rule
unfolding enter enter_object test
template_proved =
    record {
      numbers = λ s o. tt;
      own = λ s o p e.
          let a0 = e 0 (omega arith) in
          let a1 = e 1 (omega arith) in
          record {
            asks = λ i. template_checks s (a0 i) (a1 i);
            does = λ i. new_template s (a1 i);
            makes = refl;
          };
      keeps = λ s o m k. template_keeps s _ _ m k;
      undoes_nothing = λ s o m h. later_new_template s _;
      relates = λ s b o m k r. related-template s b _ r;
      falls = λ m. absurd (omega arith);
      starts = λ n b o h. refl;
      makes_few = λ s o m h. let room = m 20 in omega arith;
      makes_none = λ e. absurd (omega arith);
    }

task_proved : Proved 2 task_rule
unfolding enter enter_object enter_task test
task_proved =
    record {
      numbers = λ s o. tt;
      own = λ s o p e.
          let a0 = e 0 (omega arith) in
          let a1 = e 1 (omega arith) in
          let a2 = e 2 (omega arith) in
          let a3 = e 3 (omega arith) in
          let a4 = e 4 (omega arith) in
          record {
            asks = λ i. task_checks s (a0 i) (a1 i) (a2 i) (a3 i) (a4 i);
            does = λ i. make_task s (a0 i) (task_slots s (a1 i) (a2 i)) (a3 i) (a4 i);
            makes = refl;
          };
      keeps = λ s o m k. task_keeps s _ _ _ _ _ m k;
      undoes_nothing = λ s o m h. later_make_task s _ _ _ _;
      relates = λ s b o m k r. related-task s b _ _ _ _ _ m k r;
      falls = λ m. absurd (omega arith);
      starts =
          λ n b o h. choose_case (λ (c : Book). c Column.Starts h ≡ b Column.Starts h) (arg o 4 ≐ 1) _ _ (λ _. refl) (λ _. refl);
      makes_few = λ s o m h. let room = m 20 in omega arith;
      makes_none = λ e. absurd (omega arith);
    }

event_proved : Proved 3 event_rule
unfolding enter enter_object test
event_proved =
    record {
      numbers = λ s o. tt;
      own = λ s o p e.
          let a0 = e 0 (omega arith) in
          let a1 = e 1 (omega arith) in
          record {
            asks = λ i. event_checks s (a0 i) (a1 i);
            does = λ i. new_event s (s Objects 0 + 1) (a1 i) 0;
            makes = refl;
          };
      keeps = λ s o m k. event_keeps s _ _ m k;
      undoes_nothing = λ s o m h. later_new_event _ _ _ (later_same s) (omega arith);
      relates = λ s b o m k r. related-event s b _ _ r;
      falls = λ m. absurd (omega arith);
      starts = λ n b o h. refl;
      makes_few = λ s o m h. let room = m 20 in omega arith;
      makes_none = λ e. absurd (omega arith);
    }

block_proved : Proved 4 block_rule
unfolding enter enter_object test
block_proved =
    record {
      numbers = λ s o. tt;
      own = λ s o p e.
          let a0 = e 0 (omega arith) in
          let a1 = e 1 (omega arith) in
          record {
            asks = λ i. block_checks s (a0 i) (a1 i);
            does = λ i. new_block s (a0 i) (a1 i);
            makes = refl;
          };
      keeps = λ s o m k. block_keeps s _ _ m k;
      undoes_nothing = λ s o m h. later_new_block s _ _;
      relates = λ s b o m k r. related-block s b _ _ r;
      falls = λ m. absurd (omega arith);
      starts = λ n b o h. refl;
      makes_few = λ s o m h. let room = m 20 in omega arith;
      makes_none = λ e. absurd (omega arith);
    }

-- a satisfaction enters no start
satisfies_none : (b : Book) (d j p h : ℕ) → satisfies b d j p Column.Starts h ≡ b Column.Starts h
unfolding satisfies enter test
satisfies_none b d j p h =
    let P : Book → Type 0 = λ c. c Column.Starts h ≡ b Column.Starts h in
    choose_case P (b Column.Kind d ≐ task) _ _ (λ _. refl)
    (λ _. choose_case P (fires_at_first (b Column.EventType d) and not (b Column.Satisfied d ≐ 1)) _ _ (λ _. refl) (λ _. refl))

dependence_proved : Proved 5 dependence_rule
unfolding enter enter_link test
dependence_proved =
    record {
      numbers = λ s o. tt;
      own = λ s o p e.
          let a0 = e 0 (omega arith) in
          let a1 = e 1 (omega arith) in
          let a2 = e 2 (omega arith) in
          let a3 = e 3 (omega arith) in
          let a4 = e 4 (omega arith) in
          record {
            asks = λ i. dependence_checks s (a0 i) (a1 i) (a2 i) (a3 i) (a4 i);
            does = λ i. depend s (a1 i) (a2 i) (a3 i) (a4 i);
            makes = λ i. choose (makes_link s (a1 i)) (s Links 0 + 1) 0;
          };
      keeps = λ s o m k. dependence_keeps s _ _ _ _ _ m k;
      undoes_nothing = λ s o m h. later_depend s (sound_by_name s h) _ _ _ _ _ m;
      relates = λ s b o m k r. related-dependence s b _ _ _ _ _ m k r;
      falls = λ m. absurd (omega arith);
      starts =
          λ n b o h.
          choose_case (λ (c : Book). c Column.Starts h ≡ b Column.Starts h) (b Column.Kind (arg o 1) ≐ event) _ _ (λ _. refl)
          (λ _. satisfies_none b _ _ _ h);
      makes_few =
          λ s o m h. choose_case (λ (n : ℕ). n ≤ most_links) (makes_link s (arg o 1)) _ _ (λ k. m 21 k) (λ _. omega arith);
      makes_none = λ e. absurd (omega arith);
    }

satisfy_proved : Proved 6 satisfy_rule
satisfy_proved =
    record {
      numbers = λ s o. tt;
      own = λ s o p e.
          let a0 = e 0 (omega arith) in
          let a1 = e 1 (omega arith) in
          let a2 = e 2 (omega arith) in
          let a3 = e 3 (omega arith) in
          record {
            asks = λ i. satisfy_checks s (a0 i) (a1 i) (a2 i) (a3 i);
            does = λ i. satisfy_event s (a1 i) (a3 i) (a2 i);
            makes = refl;
          };
      keeps = λ s o m k. satisfy_keeps s _ _ _ _ m k;
      undoes_nothing = λ s o m h. later_satisfaction s (sound_by_name s h) _ _ _ _ m;
      relates = λ s b o m k r. related_satisfaction s b _ _ _ _ m k r;
      falls = λ m. absurd (omega arith);
      starts = λ n b o h. satisfies_none b _ _ _ h;
      makes_few = λ s o m h. omega arith;
      makes_none = λ e s o. refl;
    }

release_proved : Proved 7 release_rule
release_proved =
    record {
      numbers = λ s o. tt;
      own = λ s o p e.
          let a0 = e 0 (omega arith) in
          let a1 = e 1 (omega arith) in
          record {
            asks = λ i. release_checks s (a0 i) (a1 i);
            does = λ i. release s (a0 i) (a1 i);
            makes = refl;
          };
      keeps = λ s o m k. release_keeps s _ _ m k;
      undoes_nothing = λ s o m h. later_release s _ _;
      relates = λ s b o m k r. related-release s b _ _ r;
      falls = λ m. absurd (omega arith);
      starts = λ n b o h. refl;
      makes_few = λ s o m h. omega arith;
      makes_none = λ e s o. refl;
    }

-- no more steps are climbed than there are handles
climbed_low : (s r : Session) (t : ℕ) → Holds (sound s) → Holds (made s t) → climbed r t ≤ most_links
climbed_low s r t h m =
    let few = (sound_by_name s h counts).1.0 in
    let low = climb_few (r TaskCreator) (is_over r) t t in
    omega arith

destroy_proved : Proved 8 destroy_rule
unfolding enter strike enter_destroy test
destroy_proved =
    record {
      numbers = λ s o. tt;
      own = λ s o p e.
          let a0 = e 0 (omega arith) in
          let a1 = e 1 (omega arith) in
          record {
            asks = λ i. destroy_checks s (a0 i) (a1 i);
            does = λ i. destroy s (a0 i) (a1 i);
            makes = λ i. destroy_climbs s (a0 i) (a1 i);
          };
      keeps = λ s o m k. destroy_keeps s _ _ m k;
      undoes_nothing = λ s o m h. later_destroy s (sound_by_name s h) _ _ m;
      relates = λ s b o m k r. related-destroy s b _ _ m k r;
      falls = λ m. absurd (omega arith);
      starts =
          λ n b o h.
          let P : Book → Type 0 = λ c. c Column.Starts h ≡ b Column.Starts h in
          let d = arg o 1 in
          choose_case P (b Column.Kind d ≐ event) _ _ (λ _. refl)
          (λ _. choose_case P (b Column.Kind d ≐ task and b Column.Output d ≐ 1) _ _ (λ _. refl) (λ _. refl));
      makes_few =
          λ s o m h.
          choose_case (λ (n : ℕ). n ≤ most_links) (is_kind s task (arg o 1)) _ 0
          (λ _. climbed_low s (destroy s (arg o 0) (arg o 1)) (arg o 1) h (m 9)) (λ _. omega arith);
      makes_none = λ e. absurd (omega arith);
    }

deliver_proved : Proved 9 deliver_rule
unfolding enter enter_deliver test
deliver_proved =
    record {
      numbers = λ s o. tt;
      own = λ s o p e.
          let a0 = e 0 (omega arith) in
          record {
            asks = λ i. deliver_checks s (a0 i);
            does = λ i. deliver s (a0 i);
            makes = refl;
          };
      keeps = λ s o m k. deliver_keeps s _ m k;
      undoes_nothing = λ s o m h. later_deliver s (sound_by_name s h) _ m;
      relates = λ s b o m k r. related_delivery s b _ m k r;
      falls = λ _ s o m k. deliver_falls s _ m k;
      starts = λ n b o h. satisfies_none (enter b Column.Struck (arg o 0) 1) _ _ _ h;
      makes_few = λ s o m h. omega arith;
      makes_none = λ e s o. refl;
    }

grant_proved : Proved 10 grant_rule
grant_proved =
    record {
      numbers = λ s o. tt;
      own = λ s o p e.
          let a0 = e 0 (omega arith) in
          record {
            asks = λ i. grant_checks s (a0 i);
            does = λ i. grant s (a0 i);
            makes = refl;
          };
      keeps = λ s o m k. grant_keeps s _ m k;
      undoes_nothing = λ s o m h. later_grant s _ m;
      relates = λ s b o m k r. related-grant s b _ m k r;
      falls = λ _ s o m k. grant_falls s _ m;
      starts = λ n b o h. refl;
      makes_few = λ s o m h. omega arith;
      makes_none = λ e s o. refl;
    }

start_proved : Proved 11 start_rule
unfolding enter_start
start_proved =
    record {
      numbers = λ s o. tt;
      own = λ s o p e.
          let a0 = e 0 (omega arith) in
          record {
            asks = λ i. start_checks s (a0 i);
            does = λ i. start s (a0 i);
            makes = refl;
          };
      keeps = λ s o m k. start_keeps s _ m k;
      undoes_nothing = λ s o m h. later_start s _ m;
      relates = λ s b o m k r. related-start s b _ m r;
      falls = λ _ s o m k. start_falls s _ m;
      starts = λ n. absurd (n refl);
      makes_few = λ s o m h. omega arith;
      makes_none = λ e s o. refl;
    }

end_proved : Proved 12 end_rule
unfolding enter enter_end test
end_proved =
    record {
      numbers = λ s o. tt;
      own = λ s o p e.
          let a0 = e 0 (omega arith) in
          let a1 = e 1 (omega arith) in
          record {
            asks = λ i. end_checks s (a0 i) (a1 i);
            does = λ i. end s (a0 i) (a1 i);
            makes = λ i. end_climbs s (a0 i) (a1 i);
          };
      keeps = λ s o m k. end_keeps s _ _ m k;
      undoes_nothing = λ s o m h. later_end s (sound_by_name s h) _ _ m;
      relates = λ s b o m k r. related-end s b _ _ m k r;
      falls = λ _ s o m k. end_falls s _ _ m;
      starts =
          λ n b o h.
          choose_case (λ (c : Book). c Column.Starts h ≡ b Column.Starts h) (b Column.Output (arg o 0) ≐ 1) _ _ (λ _. refl)
          (λ _. refl);
      makes_few = λ s o m h. climbed_low s (end s (arg o 0) (arg o 1)) (arg o 0) h (m 9).0;
      makes_none = λ e. absurd (omega arith);
    }

counted_proved : Proved 13 counted_rule
unfolding enter enter_object test
counted_proved =
    record {
      numbers = λ s o. tt;
      own = λ s o p e.
          let a0 = e 0 (omega arith) in
          let a1 = e 1 (omega arith) in
          record {
            asks = λ i. counted_checks s (a0 i) (a1 i);
            does = λ i. new_event s (s Objects 0 + 1) counted (a1 i);
            makes = refl;
          };
      keeps = λ s o m k. counted_keeps s _ _ m k;
      undoes_nothing = λ s o m h. later_new_event _ _ _ (later_same s) (omega arith);
      relates = λ s b o m k r. related-event s b _ _ r;
      falls = λ m. absurd (omega arith);
      starts = λ n b o h. refl;
      makes_few = λ s o m h. let room = m 20 in omega arith;
      makes_none = λ e. absurd (omega arith);
    }

-- a code that there is not is never accepted
unknown_proved : (code : ℕ) → Proved code unknown
unknown_proved code =
    record {
      numbers = λ s o. tt;
      own = λ s o p e. record { asks = refl; does = refl; makes = refl };
      keeps = λ s o m k. absurd (m 6);
      undoes_nothing = λ s o m h. absurd (m 6);
      relates = λ s b o m k r. absurd (m 6);
      falls = λ _ s o m k. absurd (m 6);
      starts = λ n b o h. refl;
      makes_few = λ s o m h. absurd (m 6);
      makes_none = λ e s o. refl;
    }

all_proved : Each Proved rules
unfolding rules
all_proved = (
  unknown_proved 0,
  (
    template_proved,
    (
      task_proved,
      (
        event_proved,
        (
          block_proved,
          (
            dependence_proved,
            (
              satisfy_proved,
              (
                release_proved,
                (destroy_proved, (deliver_proved, (grant_proved, (start_proved, (end_proved, (counted_proved, tt)))))),
              ),
            ),
          ),
        ),
      ),
    ),
  ),
)

pub proved : (o : Operation) → Proved o.code (rule_of o)
unfolding rules
proved o = each_at Proved rules unknown all_proved unknown_proved o.code

-- So of every accepted call:
module _ (s : Session) (o : Operation) (a : Accepted s o) where
  -- it met its checks
  pub checks_met : Checked ((rule_of o).asks s o)
  checks_met = by_number asks (all_met_lem asks ((proved o).numbers s o) a.none_fails)
    where
      asks : List Check
      asks = (rule_of o).asks s o

  pub accepted_keeps : Holds (kept s) → Holds (kept (after s o))
  accepted_keeps k = rw a.leaves (kept_of ((rule_of o).does s o) ((proved o).keeps s o checks_met (by_name s k)))

  pub accepted_later : Holds (sound s) → Later s (after s o)
  accepted_later h = rw a.leaves ((proved o).undoes_nothing s o checks_met h)

  pub accepted-related : (b : Book) → Holds (kept s) → Related s b → Related (after s o) (entered b o)
  unfolding entered
  accepted-related b k r = rw a.leaves ((proved o).relates s b o checks_met k r)

  pub moves_fall : Holds (moves o) → Holds (kept s) → left s ≡ 1 + left (after s o)
  moves_fall c k = rw a.leaves ((proved o).falls c s o checks_met k)

  pub made_few : Holds (sound s) → outcome s o ≤ most_links
  made_few h = rw a.makes ((proved o).makes_few s o checks_met h)

  pub made_none : (rule_of o).arity ≡ 1 → outcome s o ≡ 0
  made_none e = rw a.makes ((proved o).makes_none e s o)
