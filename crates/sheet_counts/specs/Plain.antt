-- The four counts by a recursion that never asks whether the session is sound, since it always is: so it can be computed.
use Prim.Native.Nat.{ℕ, zero, suc, ◌+◌, ◌≤◌, ◌<◌}
use Rattle.std.specs.Prelude.{List, [], ◌∷◌, ◌≡◌, length}
use Rattle.std.proofs.Math.Path.{refl}
use Rattle.std.proofs.Common.{ap, ◌∙◌, arith}
use Rattle.session.specs.Table.{Session}
use Rattle.session.specs.Fresh.{fresh_session}
use Rattle.rules.specs.Formula.{Formula.◌and◌, Holds, choose, not, Formula.◌≐◌, Formula.◌≼◌}
use Rattle.rules.specs.FormulaLaws.{Case, decide, choose_yes, choose_no, Case.it_does, Case.it_does_not}
use Rattle.rules.specs.Sound.{kept}
use Rattle.rules.specs.Step.{answer, after, step}
use Rattle.rules.specs.LastLine.{dropped_count}
use Rattle.record.specs.RecordReading.{record_at}
use Rattle.record.specs.Sheet.{head_refusal, first_record}
use Rattle.laws.specs.FreshKept.{fresh_kept}
use Rattle.laws.specs.ByName.{kept-sound}
use Rattle.laws.specs.StepKeeps.{step_keeps, kept_step}
use Rattle.sheet.specs.RunLaws.{below}
use Rattle.sheet.specs.SheetPrinted.{Printed, print_from}
use Rattle.sheet.specs.PrintLaws.{print_end, print_refused, print_on, print_head, print_records}
use Rattle.sheet_counts.specs.declared.Tally.{Tally}
use Rattle.sheet_counts.specs.Answers.{Answered, answer_to, answers_from, is_refused, is_start, how_many, counts_in, counts_of}
use Rattle.sheet_counts.specs.HowMany.{one, how_many-next}
use Rattle.sheet_counts.specs.AnswerCases.{answers-end, answers-refused, answers_on_lem, answers-head, answers_records}
use Rattle.sheet_counts.specs.FreshSheet.{fresh-sound}

-- one answer more
abbrev pub with_one_more : ℕ → ℕ → Tally → Tally
with_one_more refused code t =
    record {
      records = suc t.records;
      refused = one (not (refused ≐ 0)) + t.refused;
      starts = one (code ≐ 11 and refused ≐ 0) + t.starts;
      dropped = t.dropped;
    }

abbrev pub nothing_more : Session → Tally
nothing_more s = record { records = 0; refused = 0; starts = 0; dropped = dropped_count s }

unfoldable pub plain_from : List ℕ → ℕ → ℕ → Session → Tally
plain_from sheet zero at s = nothing_more s
plain_from sheet (suc n) at s =
    let r = record_at sheet at in
    choose (length sheet ≼ at) (nothing_more s)
    (choose (not (r.refused ≐ 0)) (with_one_more r.refused 0 (nothing_more s))
    (with_one_more (answer s r.operation) r.operation.code (plain_from sheet n r.next (after s r.operation))))

unfoldable pub plain_counts : List ℕ → Tally
plain_counts sheet =
    choose (not (head_refusal sheet ≐ 0)) (with_one_more (head_refusal sheet) 0 (nothing_more fresh_session))
    (plain_from sheet (length sheet) (first_record sheet) fresh_session)

next_more : (a : Answered) (list : List Answered) (s : Session)
    → counts_in (a ∷ list) s ≡ with_one_more a.refused a.code (counts_in list s)
unfolding counts_in
next_more a list s = rw (how_many-next is_refused a list, how_many-next is_start a list)

none : (s : Session) → counts_in [] s ≡ nothing_more s
unfolding counts_in how_many
none s = refl

-- an answer alone
last_more : (a : Answered) (s : Session) → counts_in (a ∷ []) s ≡ with_one_more a.refused a.code (nothing_more s)
last_more a s = next_more a [] s ∙ ap (with_one_more a.refused a.code) (none s)

-- the counts from a place on, one law for each case
module _ (sheet : List ℕ) (at : ℕ) (s : Session) where
  plain_end : (n : ℕ) → length sheet ≤ at → plain_from sheet n at s ≡ nothing_more s
  unfolding plain_from
  plain_end zero h = refl
  plain_end (suc n) h = choose_yes (length sheet ≼ at) _ _ h

  module _ (n : ℕ) (before : at < length sheet) where
    begun : length sheet ≤ at → ⊥
    begun h = omega arith

    plain_refused : ((record_at sheet at).refused ≡ 0 → ⊥)
        → plain_from sheet (suc n) at s ≡ with_one_more (record_at sheet at).refused 0 (nothing_more s)
    unfolding plain_from
    plain_refused f = choose_no (length sheet ≼ at) _ _ begun ∙ choose_yes (not ((record_at sheet at).refused ≐ 0)) _ _ f

    plain_on : (record_at sheet at).refused ≡ 0
        → plain_from sheet (suc n) at s
        ≡ with_one_more (answer s (record_at sheet at).operation) (record_at sheet at).operation.code
        (plain_from sheet n (record_at sheet at).next (after s (record_at sheet at).operation))
    unfolding plain_from
    plain_on z = choose_no (length sheet ≼ at) _ _ begun ∙ choose_no (not ((record_at sheet at).refused ≐ 0)) _ _ (λ f. f z)

-- the counts from a place on
abbrev counts_at : List ℕ → ℕ → ℕ → ℕ → Session → Tally
counts_at sheet n at k s = counts_in (answers_from sheet n at k s) (print_from sheet n at k s).session

abbrev Again : List ℕ → ℕ → Type 0
Again sheet n = (at k : ℕ) (s : Session) → Holds (kept s) → counts_at sheet n at k s ≡ plain_from sheet n at s

abbrev left : Printed → Session
left p = p.session

counts_zero : (sheet : List ℕ) → Again sheet zero
unfolding plain_from counts_in how_many answers_from print_from
counts_zero sheet at k s h = refl

counts-from : (sheet : List ℕ) (n : ℕ) → Again sheet n
counts-from sheet zero at k s h = counts_zero sheet at k s h
counts-from sheet (suc n) at k s h = ends (decide (length sheet ≼ at)) (counts-from sheet n)
  where
    reads : at < length sheet → Case ((record_at sheet at).refused ≐ 0) → Again sheet n
        → counts_at sheet (suc n) at k s ≡ plain_from sheet (suc n) at s
    reads b (it_does_not f) again =
        let i = kept-sound s h in
        rw (answers-refused sheet at k s n b i f, ap left (print_refused sheet at k s n b i f), plain_refused sheet at s n b f)
        (last_more _ s)
    reads b (it_does z) again =
        let i = kept-sound s h in
        let op = (record_at sheet at).operation in
        let w = again (record_at sheet at).next (k + 1) (step s op).leaves (step_keeps s op h) in
        rw (answers_on_lem sheet at k s n b i z, ap left (print_on sheet at k s n b i z), plain_on sheet at s n b z)
        (next_more (answer_to k s op) _ _ ∙ ap (with_one_more (step s op).refused op.code) w ∙ rw (kept_step s op h))

    ends : Case (length sheet ≼ at) → Again sheet n → counts_at sheet (suc n) at k s ≡ plain_from sheet (suc n) at s
    ends (it_does e) again =
        rw (answers-end sheet at k s (suc n) e, ap left (print_end sheet at k s (suc n) e), plain_end sheet at s (suc n) e)
        (none s)
    ends (it_does_not f) again = reads (below sheet at f) (decide ((record_at sheet at).refused ≐ 0)) again

-- the cases of a whole sheet
plain_head : (sheet : List ℕ) → (head_refusal sheet ≡ 0 → ⊥)
    → plain_counts sheet ≡ with_one_more (head_refusal sheet) 0 (nothing_more fresh_session)
unfolding plain_counts
plain_head sheet f = choose_yes (not (head_refusal sheet ≐ 0)) _ _ f

plain_records : (sheet : List ℕ) → head_refusal sheet ≡ 0
    → plain_counts sheet ≡ plain_from sheet (length sheet) (first_record sheet) fresh_session
unfolding plain_counts
plain_records sheet z = choose_no (not (head_refusal sheet ≐ 0)) _ _ (λ f. f z)

pub counts_plain : (sheet : List ℕ) → counts_of sheet ≡ plain_counts sheet
unfolding counts_of
counts_plain sheet = go (decide (head_refusal sheet ≐ 0))
  where
    go : Case (head_refusal sheet ≐ 0) → counts_of sheet ≡ plain_counts sheet
    go (it_does z) =
        rw (
          answers_records sheet fresh_session fresh-sound z,
          ap left (print_records sheet fresh_session fresh-sound z),
          plain_records sheet z,
        )
        (counts-from sheet (length sheet) (first_record sheet) 0 fresh_session fresh_kept)
    go (it_does_not f) =
        rw (
          answers-head sheet fresh_session fresh-sound f,
          ap left (print_head sheet fresh_session fresh-sound f),
          plain_head sheet f,
        )
        (last_more _ fresh_session)
