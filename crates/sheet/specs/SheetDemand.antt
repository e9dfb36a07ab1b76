-- A sheet's run is a list of single operations: they leave the session that the run leaves, and demand 3 holds of them and of the
-- calls before.
use Rattle.std.specs.Prelude.{ℕ, zero, suc, ◌+◌, List, [], ◌∷◌, ◌++◌, ◌≡◌, refl, length}
use Rattle.std.proofs.Common.{ap, sym, ◌∙◌}
use Rattle.session.specs.Table.{Session}
use Rattle.rules.specs.declared.Operation.{Operation}
use Rattle.rules.specs.Formula.{Formula, choose, not, Formula.◌≐◌, Formula.◌≼◌}
use Rattle.rules.specs.FormulaLaws.{Case, decide, choose_yes, choose_no, Case.it_does, Case.it_does_not}
use Rattle.rules.specs.Sound.{sound}
use Rattle.rules.specs.Step.{fresh_session, step}
use Rattle.rules.specs.Demand.{Demand3, next, run, session_after}
use Rattle.record.specs.RecordReading.{record_at}
use Rattle.record.specs.Sheet.{head_refusal, first_record}
use Rattle.laws.specs.Demand.{demand_3}
use Rattle.laws.specs.Prefixes.{session_parts}
use Rattle.sheet.specs.Run.{Lines, has_room, with_line, Run, ended_by, run_from, run_sheet}

-- The operations that a run ran, by the same recursion as `run_from`.
unfoldable pub ran_from : List ℕ → ℕ → ℕ → ℕ → Session → Lines → List Operation
ran_from sheet zero at k s l = []
ran_from sheet (suc steps) at k s l =
    let r = record_at sheet at in
    let reply = step s r.operation in
    choose (length sheet ≼ at) []
    (choose (not (has_room l)) []
    (choose (not (sound s)) []
    (choose (not (r.refused ≐ 0)) []
    (r.operation ∷ ran_from sheet steps r.next (k + 1) reply.leaves (with_line l (k + 1) reply.refused reply.made)))))

unfoldable pub ran_sheet : List ℕ → Session → Lines → List Operation
ran_sheet sheet s l =
    choose (not (has_room l)) []
    (choose (not (sound s)) []
    (choose (not (head_refusal sheet ≐ 0)) []
    (ran_from sheet (length sheet) (first_record sheet) 0 s l)))

-- two choices by the same formula
alike : (f : Formula) (a b : Run) (x y : List Operation) (s : Session) → a.session ≡ run s x → b.session ≡ run s y
    → (choose f a b).session ≡ run s (choose f x y)
alike f a b x y s p q = go (decide f)
  where
    go : Case f → (choose f a b).session ≡ run s (choose f x y)
    go (it_does h) = ap (λ (r : Run). r.session) (choose_yes f a b h) ∙ p ∙ ap (run s) (sym (choose_yes f x y h))
    go (it_does_not n) = ap (λ (r : Run). r.session) (choose_no f a b n) ∙ q ∙ ap (run s) (sym (choose_no f x y n))

pub ran-leaves : (sheet : List ℕ) (n at k : ℕ) (s : Session) (l : Lines)
    → (run_from sheet n at k s l).session ≡ run s (ran_from sheet n at k s l)
unfolding run_from ran_from ended_by run next
ran-leaves sheet zero at k s l = refl
ran-leaves sheet (suc n) at k s l =
    alike (length sheet ≼ at) _ _ _ _ s refl
    (alike (not (has_room l)) _ _ _ _ s refl
    (alike (not (sound s)) _ _ _ _ s refl
    (alike (not ((record_at sheet at).refused ≐ 0)) _ _ _ _ s refl (ran-leaves sheet n _ _ _ _))))

pub sheet_leaves : (sheet : List ℕ) (s : Session) (l : Lines) → (run_sheet sheet s l).session ≡ run s (ran_sheet sheet s l)
unfolding run_sheet ran_sheet ended_by run
sheet_leaves sheet s l =
    alike (not (has_room l)) _ _ _ _ s refl
    (alike (not (sound s)) _ _ _ _ s refl
    (alike (not (head_refusal sheet ≐ 0)) _ _ _ _ s refl (ran-leaves sheet (length sheet) (first_record sheet) 0 s l)))

-- A sheet run on what any list of calls left: its records are further calls of the same list.
pub sheet_further : (os : List Operation) (sheet : List ℕ) (l : Lines)
    → ((run_sheet sheet (session_after os) l).session ≡ session_after (os ++ ran_sheet sheet (session_after os) l))
    × Demand3 (os ++ ran_sheet sheet (session_after os) l)
sheet_further os sheet l =
    let more = ran_sheet sheet (session_after os) l in
    (sheet_leaves sheet (session_after os) l ∙ sym (session_parts os more), demand_3 (os ++ more))

-- From fresh.
pub sheet_demand : (sheet : List ℕ) (l : Lines)
    → ((run_sheet sheet fresh_session l).session ≡ session_after (ran_sheet sheet fresh_session l))
    × Demand3 (ran_sheet sheet fresh_session l)
unfolding run
sheet_demand sheet l = sheet_further [] sheet l
