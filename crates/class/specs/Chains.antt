-- Steps one behind the other: from the start until nothing is left they print the report.
use Prim.Native.Nat.{ℕ, zero, suc, ◌+◌, ◌*◌, ◌-◌, ◌≤◌, ◌<◌}
use mathlib.Core.List.{List, [], ◌∷◌, ◌++◌, append_assoc, append-nil}
use Rattle.std.specs.Prelude.{◌≡◌, take, drop, Option, None, Some}
use Rattle.std.proofs.Math.Path.{refl, ap, sym}
use Rattle.std.proofs.Common.{◌∙◌, length-drop}
use native.Mathlib.Omega.{arith}
use Rattle.std.proofs.Math.ListN.{length}
use Rattle.session.specs.Table.{Session}
use Rattle.rules.specs.FormulaLaws.{choose_case}
use Rattle.class.specs.declared.Report.{Report}
use Rattle.class.specs.declared.Stage.{Stage}
use Rattle.class.specs.declared.Stage.TheVariants.{Head, Count, Learner, Turn, Length, Sheet, Line, Last, Nothing}
use Rattle.class.specs.declared.Turned.{Turned}
use Rattle.class_rules.specs.Report.{report}
use Rattle.class.specs.StillPrinted.{text_at, report_from}
use Rattle.class.specs.Begun.{begun-report}
use Rattle.class.specs.Steps.{begun, entry_or_line, going, byte, Did, closed, after, taken, sheet_taken, asks_at, does_at, does}
use Rattle.class.specs.Steps.{handed}
use Rattle.class.specs.StepLaws.{step-prints}

-- Where a report of a file stands: its place in the file, the report, and the session in memory.
pub record State : Type 0 where
  pub at : ℕ
  pub report : Report
  pub session : Session

abbrev pub state : ℕ → Report → Session → State
state at r s = record { at = at; report = r; session = s }

-- How many steps may come before the next byte is taken.
unfoldable rank : Stage → ℕ
rank Head = 4
rank Count = 3
rank Learner = 3
rank Turn = 3
rank Length = 3
rank Sheet = 4
rank Line = 2
rank Last = 1
rank Nothing = 0

-- four at most
rank_most : (stage : Stage) → rank stage ≤ 4
unfolding rank
rank_most Head = omega arith
rank_most Count = omega arith
rank_most Learner = omega arith
rank_most Turn = omega arith
rank_most Length = omega arith
rank_most Sheet = omega arith
rank_most Line = omega arith
rank_most Last = omega arith
rank_most Nothing = omega arith

-- behind a sheet come the next entry or the pending sheet's line, and behind that line the last one
module _ (file : List ℕ) (r : Report) (s : Session) where
  abbrev BehindSheet : Did → Type 0
  BehindSheet d = rank d.report.stage ≤ 3

  entry-rank : (left : ℕ) → rank (entry_or_line left) ≤ 3
  unfolding rank entry_or_line
  entry-rank zero = omega arith
  entry-rank (suc left) = omega arith

  taken-rank : (at : ℕ) (p : Option Turned) → BehindSheet (taken file r s at p)
  unfolding taken after going rank entry_or_line
  taken-rank at None = entry-rank (r.left - 1)
  taken-rank at (Some p) =
      choose_case BehindSheet _ _ _
      (λ _. choose_case BehindSheet _ _ _ (λ _. entry-rank (r.left - 1)) (λ _. entry-rank (r.left - 1))) (λ _. entry-rank 0)

  sheet_rank : (at : ℕ) (bytes : List ℕ) → BehindSheet (sheet_taken file r s at bytes)
  unfolding sheet_taken rank entry_or_line
  sheet_rank at bytes = choose_case BehindSheet _ _ _ (λ _. taken-rank at r.pending) (λ _. entry-rank 0)

  closed_last : (p : Option Turned) → (closed file r s p).report.stage ≡ Last
  unfolding closed
  closed_last None = refl
  closed_last (Some p) = refl

module _ (file : List ℕ) where
  -- the next step, what it prints, and where the report stands behind it
  abbrev pub step_of : ℕ → Report → Session → Did
  step_of at r s = does file at (handed file at r) r s

  abbrev pub said : State → List ℕ
  said x = (step_of x.at x.report x.session).text

  abbrev pub onward : State → State
  onward x =
      let d = step_of x.at x.report x.session in
      state (x.at + length (handed file x.at x.report)) d.report d.session

  pub data Went (x : State) : List ℕ → State → Type 0 where
    still : Went x [] x
    further : (bytes : List ℕ) (y : State) → Went x bytes y → Went x (bytes ++ said y) (onward y)

  pub went_prints : (x : State) (bytes : List ℕ) (y : State) → Went x bytes y
      → bytes ++ report_from file y.at y.report ≡ report_from file x.at x.report
  went_prints x _ _ still = refl
  went_prints x _ _ (further bytes y w) =
      append_assoc bytes (said y) _ ∙ ap (λ (l : List ℕ). bytes ++ l) (step-prints file y.at y.report y.session)
      ∙ went_prints x bytes y w

  -- The theorem: steps from the start until nothing is left print the report, whatever the memory held.
  pub went_report : (s : Session) (bytes : List ℕ) (y : State) → Went (state 0 begun s) bytes y → y.report.stage ≡ Nothing
      → bytes ≡ report file
  unfolding report_from
  went_report s bytes y w e =
      sym (append-nil bytes)
      ∙ ap (λ (stage : Stage). bytes ++ text_at file y.at y.report stage) (sym e)
      ∙ went_prints (state 0 begun s) bytes y w
      ∙ begun-report file

  -- How many steps are left at most: each takes a byte, or goes on without one, which it does no more than four times in a row.
  unfoldable pub steps_left : ℕ → Report → ℕ
  unfolding rank
  steps_left at r = 5 * (length file - at) + rank r.stage

  -- at a later place no more are left, at the same stage
  pub no_more : (at next : ℕ) (r q : Report) → at ≤ next → q.stage ≡ r.stage → steps_left next q ≤ steps_left at r
  unfolding steps_left
  no_more at next r q h e = omega (arith, ap rank e)

  -- nor at a sheet behind an entry's numbers
  pub sheet_fewer : (at next : ℕ) (r q : Report) → at < next → next ≤ length file → r.stage ≡ Learner → q.stage ≡ Sheet
      → steps_left next q ≤ steps_left at r
  unfolding steps_left rank
  sheet_fewer at next r q h inside e f = omega (arith, ap rank e, ap rank f)

  module _ (at : ℕ) (r : Report) (s : Session) where
    -- fewer steps are left than at a stage
    abbrev Fewer : List ℕ → Report → Stage → Type 0
    Fewer bytes next stage = 5 * (length file - (at + length bytes)) + rank next.stage < 5 * (length file - at) + rank stage

    number_fewer : (stage : Stage) → 3 ≤ rank stage → (rest : List ℕ) → drop at file ≡ rest
        → Fewer (take 1 rest) (byte r stage (take 1 rest)) stage
    unfolding byte rank
    number_fewer stage h [] e = omega arith
    number_fewer stage h (b ∷ bs) e =
        let n : length file - at ≡ suc (length bs) = sym (length-drop at file) ∙ ap length e in
        let m = rank_most (byte r stage (b ∷ [])).stage in
        omega arith

    fewer_at : (stage : Stage) → (stage ≡ Nothing → ⊥)
        → let bytes = take (asks_at r stage) (drop at file) in Fewer bytes (does_at file at bytes r s stage).report stage
    unfolding asks_at does_at rank
    fewer_at Head n = omega arith
    fewer_at Count n = number_fewer Count (omega arith) (drop at file) refl
    fewer_at Learner n = number_fewer Learner (omega arith) (drop at file) refl
    fewer_at Turn n = number_fewer Turn (omega arith) (drop at file) refl
    fewer_at Length n = number_fewer Length (omega arith) (drop at file) refl
    fewer_at Sheet n = let m = sheet_rank file r s at (take (asks_at r Sheet) (drop at file)) in omega arith
    fewer_at Line n = rw (closed_last file r s r.pending) (omega arith)
    fewer_at Last n = omega arith
    fewer_at Nothing n = absurd (n refl)

  -- where something is left, a step leaves less
  pub steps_fewer : (at : ℕ) (r : Report) (s : Session) → (r.stage ≡ Nothing → ⊥)
      → steps_left (at + length (handed file at r)) (step_of at r s).report < steps_left at r
  unfolding steps_left
  steps_fewer at r s n = fewer_at at r s r.stage n
