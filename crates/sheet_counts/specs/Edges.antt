-- Small sheets, and their counts by hand: the definitions compute the same.
use Rattle.std.specs.Prelude.{ℕ, List, [], ◌∷◌, ◌≡◌, refl}
use Rattle.std.proofs.Common.{◌∙◌}
use Rattle.number.specs.Number.{more, value, last_byte, shortest, judged, read_first, read_at, refusal_of, value_of}
use Rattle.session.specs.Table.{put, change}
use Rattle.session.specs.Fresh.{fresh_session}
use Rattle.rules.specs.Formula.{test, count}
use Rattle.rules.specs.Checks.{refusal}
use Rattle.rules.specs.EventTypes.{of_type}
use Rattle.rules.specs.Effects.{new, new_template, new_event, new_task, make_task, fire, fire_one, satisfy_slot, tally, satisfy_event}
use Rattle.rules.specs.Effects.{satisfy, claim, new_link, depend, bury_doomed, let_go, destroy_event, fire_finished, destroy_task}
use Rattle.rules.specs.Effects.{destroy, drops, expire, bring, deliver, grant, start}
use Rattle.rules.specs.Step.{rules, answer, after}
use Rattle.rules.specs.Descendants.{under}
use Rattle.record.specs.RecordReading.{behind, place, five, answered, record_in}
use Rattle.sheet_counts.specs.declared.Tally.{Tally}
use Rattle.sheet_counts.specs.Answers.{counts_of}
use Rattle.sheet_counts.specs.Plain.{plain_from, plain_counts, counts_plain}

abbrev counts : ℕ → ℕ → ℕ → ℕ → Tally
counts records refused starts dropped = record { records = records; refused = refused; starts = starts; dropped = dropped }

-- grant 2, start 2
abbrev pub main_starts_sheet : List ℕ
main_starts_sheet = 1 ∷ 10 ∷ 2 ∷ 11 ∷ 2 ∷ []

-- grant 3, which there is not
abbrev pub not_made_sheet : List ℕ
not_made_sheet = 1 ∷ 10 ∷ 3 ∷ []

-- start 2, which is not granted
abbrev pub not_granted : List ℕ
not_granted = 1 ∷ 11 ∷ 2 ∷ []

-- no record
abbrev pub head_alone_sheet : List ℕ
head_alone_sheet = 1 ∷ []

-- grant 2, and a start that is cut short
abbrev pub cut_short_sheet : List ℕ
cut_short_sheet = 1 ∷ 10 ∷ 2 ∷ 11 ∷ []

-- a first number that is no edition
abbrev pub other_head_sheet : List ℕ
other_head_sheet = 3 ∷ 10 ∷ 2 ∷ []

-- main runs; event 3, template 4, task 5 and link 1 from 3 to 5; 5 is destroyed, 3 fires, and the delivery is dropped
abbrev pub one_dropped_sheet : List ℕ
one_dropped_sheet =
    1 ∷ 10 ∷ 2 ∷ 11 ∷ 2 ∷ 3 ∷ 2 ∷ 3 ∷ 1 ∷ 2 ∷ 1 ∷ 2 ∷ 2 ∷ 4 ∷ 17 ∷ 0 ∷ 0
    ∷ 5 ∷ 2 ∷ 3 ∷ 5 ∷ 0 ∷ 1 ∷ 8 ∷ 2 ∷ 5 ∷ 6 ∷ 2 ∷ 3 ∷ 0 ∷ 0 ∷ 9 ∷ 1 ∷ []

pub record Edges : Type 0 where
  pub main_starts : counts_of main_starts_sheet ≡ counts 2 0 1 0
  pub not_made : counts_of not_made_sheet ≡ counts 1 1 0 0
  pub not_granted_lem : counts_of not_granted ≡ counts 1 1 0 0
  pub empty : counts_of [] ≡ counts 1 1 0 0
  pub head_alone : counts_of head_alone_sheet ≡ counts 0 0 0 0
  pub cut_short : counts_of cut_short_sheet ≡ counts 2 1 0 0
  pub other_head : counts_of other_head_sheet ≡ counts 1 1 0 0
  pub one_dropped : counts_of one_dropped_sheet ≡ counts 9 0 1 1

short : (plain_counts main_starts_sheet ≡ counts 2 0 1 0) × (plain_counts not_made_sheet ≡ counts 1 1 0 0)
    × (plain_counts not_granted ≡ counts 1 1 0 0)
    × (plain_counts [] ≡ counts 1 1 0 0) × (plain_counts head_alone_sheet ≡ counts 0 0 0 0) × (plain_counts cut_short_sheet ≡ counts 2 1 0 0)
    × (plain_counts other_head_sheet ≡ counts 1 1 0 0)
unfolding plain_counts plain_from record_in answered five place behind refusal test refusal_of value_of read_at read_first judged
    shortest last_byte value more answer after rules fresh_session new put change grant start
short = (refl, refl, refl, refl, refl, refl, refl)

dropped : plain_counts one_dropped_sheet ≡ counts 9 0 1 1
unfolding plain_counts plain_from record_in answered five place behind refusal test of_type count under refusal_of value_of read_at
    read_first judged shortest last_byte value more answer after rules fresh_session new put change grant start new_template new_event
    new_task make_task fire fire_one satisfy_slot tally satisfy_event satisfy claim new_link depend bury_doomed let_go destroy_event
    fire_finished destroy_task destroy drops expire bring deliver
dropped = refl

pub edges_hold : Edges
edges_hold =
    record {
      main_starts = counts_plain main_starts_sheet ∙ short.0;
      not_made = counts_plain not_made_sheet ∙ short.1;
      not_granted_lem = counts_plain not_granted ∙ short.2;
      empty = counts_plain [] ∙ short.3;
      head_alone = counts_plain head_alone_sheet ∙ short.4;
      cut_short = counts_plain cut_short_sheet ∙ short.5;
      other_head = counts_plain other_head_sheet ∙ short.6;
      one_dropped = counts_plain one_dropped_sheet ∙ dropped;
    }
