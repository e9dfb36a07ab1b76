-- The operations that a sheet runs are those that its bytes say, up to its end or to the first of refusals 3 to 6. So what is
-- left from a fresh session, and demand 3 of it, are about the sheet's own list of operations.
use Rattle.std.specs.Prelude.{ℕ, zero, suc, ◌+◌, ◌*◌, ◌≤◌, ◌<◌, List, [], ◌∷◌, ◌++◌, ◌≡◌, refl, length}
use Rattle.std.proofs.Common.{ap, sym, ◌∙◌, arith}
use Rattle.session.specs.Table.{Session, read}
use Rattle.session.specs.Fresh.{fresh_session}
use Rattle.rules.specs.declared.Operation.{Operation}
use Rattle.rules.specs.Demand.{Demand3, next, run, session_after}
use Rattle.rules.specs.Formula.{Holds, test, Formula.◌≐◌, Formula.◌≼◌}
use Rattle.rules.specs.FormulaLaws.{Case, decide, choose_yes, choose_no, Case.it_does, Case.it_does_not}
use Rattle.rules.specs.Sound.{kept}
use Rattle.record.specs.RecordReading.{record_at}
use Rattle.record.specs.Sheet.{Contents, stopped, followed, head_refusal, first_record, records_from, contents}
use Rattle.laws.specs.Prefixes.{session_parts}
use Rattle.laws.specs.Runs.{always_kept}
use Rattle.laws.specs.ByName.{kept-sound}
use Rattle.laws.specs.StepKeeps.{step_keeps}
use Rattle.laws.specs.Demand.{demand_3}
use Rattle.sheet.specs.declared.Next.TheVariants.{At}
use Rattle.sheet.specs.Run.{Lines, run_sheet}
use Rattle.sheet.specs.SheetPrinted.{Printed, print_from, print_sheet, print_at, print_next}
use Rattle.sheet.specs.PrintLaws.{print_end, print_refused, print_on, print_head, print_records}
use Rattle.sheet.specs.Printing.{Chain, chain_printed}
use Rattle.sheet.specs.Output.{whole-printed}
use Rattle.sheet.specs.RunLaws.{below}

module _ (sheet : List ℕ) (n at : ℕ) where
  -- at the sheet's end
  said-end : length sheet ≤ at → records_from sheet (suc n) at ≡ stopped 0
  unfolding records_from
  said-end h = choose_yes (length sheet ≼ at) _ _ h

  module _ (before : at < length sheet) where
    said-begun : records_from sheet (suc n) at ≡ followed (record_at sheet at) (records_from sheet n (record_at sheet at).next)
    unfolding records_from
    said-begun = choose_no (length sheet ≼ at) _ _ (λ h. omega arith)

    -- a record that is refused as it is read
    said-refused : ((record_at sheet at).refused ≡ 0 → ⊥) → records_from sheet (suc n) at ≡ stopped (record_at sheet at).refused
    said-refused f = said-begun ∙ choose_no ((record_at sheet at).refused ≐ 0) _ _ f

    -- one more record
    said_on : (record_at sheet at).refused ≡ 0
        → (records_from sheet (suc n) at).operations
        ≡ (record_at sheet at).operation ∷ (records_from sheet n (record_at sheet at).next).operations
    said_on z = ap (λ (c : Contents). c.operations) (said-begun ∙ choose_yes ((record_at sheet at).refused ≐ 0) _ _ z)

-- the session after printing, and after the operations of a sheet's contents
abbrev leaves : Printed → Session
leaves p = p.session

abbrev through : Session → Contents → Session
through s c = run s c.operations

-- what holds of the records after one
abbrev Again : List ℕ → ℕ → Type 0
Again sheet n =
    (at k : ℕ) (s : Session) → Holds (kept s) → (print_from sheet n at k s).session ≡ run s (records_from sheet n at).operations

-- From a kept session, the operations run are those read.
printed-said : (sheet : List ℕ) (n : ℕ) → Again sheet n
unfolding print_from records_from run next
printed-said sheet zero at k s c = refl
printed-said sheet (suc n) at k s c = ends (decide (length sheet ≼ at)) (printed-said sheet n)
  where
    reads : at < length sheet → Case ((record_at sheet at).refused ≐ 0) → Again sheet n
        → (print_from sheet (suc n) at k s).session ≡ run s (records_from sheet (suc n) at).operations
    reads b (it_does_not f) again =
        ap leaves (print_refused sheet at k s n b (kept-sound s c) f) ∙ sym (ap (through s) (said-refused sheet n at b f))
    reads b (it_does z) again =
        ap leaves (print_on sheet at k s n b (kept-sound s c) z)
        ∙ again (record_at sheet at).next (k + 1) (next s (record_at sheet at).operation)
        (step_keeps s (record_at sheet at).operation c)
        ∙ sym (ap (run s) (said_on sheet n at b z))

    ends : Case (length sheet ≼ at) → Again sheet n
        → (print_from sheet (suc n) at k s).session ≡ run s (records_from sheet (suc n) at).operations
    ends (it_does h) again = ap leaves (print_end sheet at k s (suc n) h) ∙ sym (ap (through s) (said-end sheet n at h))
    ends (it_does_not f) again = reads (below sheet at f) (decide ((record_at sheet at).refused ≐ 0)) again

-- and of a whole sheet
sheet_said : (sheet : List ℕ) (s : Session) → Holds (kept s) → (print_sheet sheet s).session ≡ run s (contents sheet).operations
unfolding contents run
sheet_said sheet s c = heads (decide (head_refusal sheet ≐ 0))
  where
    heads : Case (head_refusal sheet ≐ 0) → (print_sheet sheet s).session ≡ run s (contents sheet).operations
    heads (it_does_not f) =
        ap leaves (print_head sheet s (kept-sound s c) f)
        ∙ sym (ap (through s)
        (choose_no (head_refusal sheet ≐ 0) (records_from sheet (length sheet) (first_record sheet))
        (stopped (head_refusal sheet)) f))
    heads (it_does z) =
        ap leaves (print_records sheet s (kept-sound s c) z)
        ∙ printed-said sheet (length sheet) (first_record sheet) 0 s c
        ∙ sym (ap (through s)
        (choose_yes (head_refusal sheet ≐ 0) (records_from sheet (length sheet) (first_record sheet))
        (stopped (head_refusal sheet)) z))

-- A session is that after a list of calls and then a sheet's operations, and demand 3 holds of them all.
abbrev pub After : List Operation → List ℕ → Session → Type 0
After os sheet s = (s ≡ session_after (os ++ (contents sheet).operations)) × Demand3 (os ++ (contents sheet).operations)

-- What is left where a sheet is printed on what any list of calls left.
pub printed_further : (os : List Operation) (sheet : List ℕ) → After os sheet (print_sheet sheet (session_after os)).session
printed_further os sheet = (
  sheet_said sheet (session_after os) (always_kept os) ∙ sym (session_parts os (contents sheet).operations),
  demand_3 (os ++ (contents sheet).operations),
)

-- The same of a chain of parts.
pub chain_contents : (os : List Operation) (sheet memory bytes last : List ℕ) → read memory ≡ session_after os
    → Chain sheet (At 0 0) memory bytes last
    → After os sheet (read last)
unfolding print_next print_at test
chain_contents os sheet memory bytes last here c =
    let p = printed_further os sheet in
    (ap leaves (chain_printed sheet (At 0 0) memory bytes last c ∙ ap (print_next sheet (At 0 0)) here) ∙ p.0, p.1)

-- The same of a run over lines memory with room for all.
pub contents_further : (os : List Operation) (sheet : List ℕ) (l : Lines) → length sheet < 100000
    → 2 * l.used + 11 * length sheet + 128 ≤ 2 * length l.bytes
    → After os sheet (run_sheet sheet (session_after os) l).session
contents_further os sheet l small h =
    let p = printed_further os sheet in
    (ap leaves (whole-printed sheet (session_after os) l small h) ∙ p.0, p.1)

-- What the sheet program leaves is the session after the list of the sheet's operations, and demand 3 holds of them.
pub printed-contents : (sheet : List ℕ)
    → ((print_sheet sheet fresh_session).session ≡ session_after (contents sheet).operations) × Demand3 (contents sheet).operations
unfolding run
printed-contents sheet = printed_further [] sheet

-- The same of a run from fresh over lines memory with room for all.
pub sheet_contents : (sheet : List ℕ) (l : Lines) → length sheet < 100000
    → 2 * l.used + 11 * length sheet + 128 ≤ 2 * length l.bytes
    → ((run_sheet sheet fresh_session l).session ≡ session_after (contents sheet).operations) × Demand3 (contents sheet).operations
unfolding run
sheet_contents sheet l small h = contents_further [] sheet l small h
