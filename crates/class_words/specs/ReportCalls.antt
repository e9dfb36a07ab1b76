-- The calls of `report_on` on one file, begun with words that are 0: their lines, one behind the other, are the report.
use Prim.Native.Nat.{ℕ, ◌+◌, ◌≤◌, ◌<◌}
use mathlib.Core.List.{List, [], ◌++◌}
use Rattle.std.specs.Prelude.{◌≡◌, Bool, true, false, ◌⊎◌}
use Rattle.std.proofs.Math.Path.{refl, ap, sym}
use Rattle.std.proofs.Common.{◌∙◌, inl, inr, arith, add-zero, length-take, length-drop, take-append-drop}
use Rattle.std.proofs.Math.ListN.{length, take, drop, replicate}
use Rattle.rules.specs.Formula.{Holds, test, Formula.◌≼◌}
use Rattle.rules.specs.FormulaLaws.{Case, decide, passes, fails, choose_yes, choose_no, Case.it_does, Case.it_does_not}
use Rattle.session.specs.Table.{Session, read}
use Rattle.session.specs.Fresh.{fresh_session}
use Rattle.class.specs.declared.Stage.{Stage}
use Rattle.class.specs.declared.Stage.TheVariants.{Nothing}
use Rattle.class_rules.specs.Report.{report}
use Rattle.class.specs.StillPrinted.{report_from}
use Rattle.class.specs.Steps.{begun, asks, asks_at, does_at, fed_to, is_over, over_nothing, not-over}
use Rattle.class.specs.Begun.{begun-report}
use Rattle.class.specs.Chains.{State, state, Went, still, further, said, onward, steps_left, steps_fewer}
use Rattle.turns.specs.MemoryPlaces.{least}
use Rattle.class_parts.specs.ReportParts.{Reported, part-prints}
use Rattle.number.specs.Fed.{start}
use Rattle.class_parts.specs.declared.Part.{Part}
use Rattle.class.specs.declared.Report.{Report}
use Rattle.class_words.specs.Words.{words_of_class, code_in, code_of, stage_of, place_of, pending_of, report_of, code-nothing}
use Rattle.class_words.specs.Words.{lends_words, Continued, Reports}

-- Calls one behind the other until the first word is 7, each on the words that the one before left, with any memory and any
-- lines; a call that is refused may be among them. The bytes are those of their lines.
pub data Chain (file : List ℕ) : List ℕ → List ℕ → Type 0 where
  done : (state : List ℕ) → code_in state ≡ 7 → Chain file state []
  more : (state state' before after lines lines' : List ℕ) (used refused : ℕ) (bytes : List ℕ)
      → Reports file state state' before after lines lines' used refused
      → Chain file state' bytes
      → Chain file state (take used lines' ++ bytes)

-- what is still printed from where the words stand
abbrev pub prints_from : List ℕ → List ℕ → List ℕ
prints_from file state = report_from file (place_of state) (report_of state)

module _ (file : List ℕ) where
  -- steps stay inside the file
  went_inside : (x : State) (bytes : List ℕ) (y : State) → Went file x bytes y → x.at ≤ length file → y.at ≤ length file
  went_inside x _ _ still h = h
  went_inside x _ _ (further bytes y w) h =
      let z = went_inside x bytes y w h in
      omega (arith, length-take (asks y.report) (drop y.at file), length-drop y.at file)

  -- A call's lines, and what is printed from where it ends, are what is printed from where it began.
  pub call-prints : (state state' before after lines lines' : List ℕ) (used refused : ℕ)
      → place_of state ≤ length file
      → Reports file state state' before after lines lines' used refused
      → (place_of state' ≤ length file) × (take used lines' ++ prints_from file state' ≡ prints_from file state)
  unfolding Reports
  call-prints state state' before after lines lines' used refused h x = go (decide (lends_words state before lines))
    where
      go : Case (lends_words state before lines)
          → (place_of state' ≤ length file) × (take used lines' ++ prints_from file state' ≡ prints_from file state)
      go (it_does y) =
          let z : Continued file state state' before after lines lines' used refused =
          rw (passes (lends_words state before lines) y) at x in
          let r = rw (choose_yes (place_of state ≼ length file) (place_of state) (length file) h) at z.reported in
          (went_inside _ _ _ r.went h, part-prints file _ _ _ _ _ _ _ r)
      go (it_does_not n) =
          let z = rw (fails (lends_words state before lines) n) at x in
          (rw z.0 h, rw (z.3, z.0) refl)

  pub chain_prints : (state bytes : List ℕ) → Chain file state bytes → place_of state ≤ length file → bytes ≡ prints_from file state
  unfolding report_from
  chain_prints state _ (done _ e) h = rw (code-nothing state e) refl
  chain_prints state _ (more _ state' before after lines lines' used refused bytes x c) h =
      let y = call-prints state state' before after lines lines' used refused h x in
      ap (λ (l : List ℕ). take used lines' ++ l) (chain_prints state' bytes c y.0) ∙ y.1

  -- eighteen words that are 0, which is how a report begins
  abbrev pub Cleared : List ℕ → Type 0
  Cleared state = take words_of_class state ≡ replicate words_of_class 0

  pub cleared-prints : (state : List ℕ) → Cleared state → (place_of state ≡ 0) × (prints_from file state ≡ report file)
  unfolding place_of report_of pending_of stage_of report_from begun test
  cleared-prints state e =
      let past = drop words_of_class state in
      let s : state ≡ replicate words_of_class 0 ++ past =
      sym (take-append-drop words_of_class state) ∙ ap (λ (l : List ℕ). l ++ past) e in
      (ap place_of s, ap (prints_from file) s ∙ begun-report file)

  -- The theorem: from words that are 0 until the first word is 7, the lines of the calls are the report.
  pub chain_report : (state bytes : List ℕ) → Cleared state → Chain file state bytes → bytes ≡ report file
  chain_report state bytes e c =
      let b = cleared-prints state e in
      chain_prints state bytes c (omega (arith, b.0)) ∙ b.1

  -- How many steps are left at most: where nothing is left to print, a step changes nothing of it.
  abbrev left_at : State → ℕ
  left_at x = steps_left file x.at x.report

  over-same : (at : ℕ) (r : Report) (s : Session) → r.stage ≡ Nothing → left_at (onward file (state at r s)) ≡ steps_left file at r
  unfolding steps_left asks_at does_at
  over-same at r s e =
      ap (λ (stage : Stage). let bytes = take (asks_at r stage) (drop at file) in
      steps_left file (at + length bytes) (does_at file at bytes r s stage).report) e
      ∙ ap (λ (n : ℕ). steps_left file n (fed_to r Nothing start)) (add-zero at)
      ∙ ap (λ (stage : Stage). steps_left file at (fed_to r stage start)) (sym e)

  step-most : (x : State) → left_at (onward file x) ≤ left_at x
  step-most x = go (is_over x.report.stage) refl
    where
      go : (b : Bool) → is_over x.report.stage ≡ b → left_at (onward file x) ≤ left_at x
      go true e = omega (arith, over-same x.at x.report x.session (over_nothing x.report.stage e))
      go false e = omega (arith, steps_fewer file x.at x.report x.session (not-over x.report.stage e))

  -- steps from where something is left leave less, or there were none
  went_fewer : (x : State) (bytes : List ℕ) (y : State) → Went file x bytes y → (x.report.stage ≡ Nothing → ⊥)
      → (left_at y < left_at x) ⊎ ((y ≡ x) × (bytes ≡ []))
  went_fewer x _ _ still n = inr (refl, refl)
  went_fewer x _ _ (further bytes y w) n = go (went_fewer x bytes y w n)
    where
      go : (left_at y < left_at x) ⊎ ((y ≡ x) × (bytes ≡ []))
          → (left_at (onward file y) < left_at x) ⊎ ((onward file y ≡ x) × (bytes ++ said file y ≡ []))
      go (inl h) = inl (omega (arith, step-most y))
      go (inr e) = inl (rw e.0 (steps_fewer file x.at x.report x.session n))

  -- a place past the end is the end
  least-left : (at : ℕ) (r : Report) → steps_left file (least at (length file)) r ≡ steps_left file at r
  unfolding steps_left
  least-left at r = go (decide (at ≼ length file))
    where
      go : Case (at ≼ length file) → steps_left file (least at (length file)) r ≡ steps_left file at r
      go (it_does h) = ap (λ (n : ℕ). steps_left file n r) (choose_yes (at ≼ length file) at (length file) h)
      go (it_does_not h) = rw (choose_no (at ≼ length file) at (length file) h) (omega arith)

  abbrev stood : ℕ → List ℕ → Session → State
  stood at w s = state at (report_of w) s

  -- So calls come to an end: where something is left and check 1 is met, a call leaves fewer steps.
  pub call_fewer : (state state' before after lines lines' : List ℕ) (used refused : ℕ)
      → Holds (lends_words state before lines)
      → ((report_of state).stage ≡ Nothing → ⊥)
      → Reports file state state' before after lines lines' used refused
      → steps_left file (place_of state') (report_of state') < steps_left file (place_of state) (report_of state)
  unfolding Reports
  call_fewer state state' before after lines lines' used refused l n x = go (went_fewer _ _ _ r.went n)
    where
      at : ℕ
      at = least (place_of state) (length file)

      x₀ : State
      x₀ = stood at state fresh_session

      y₀ : State
      y₀ = stood (place_of state') state' (read after)

      p : Part
      p = record { used = used; place = place_of state'; report = report_of state' }

      r : Reported file at (report_of state) before after lines lines' p
      r =
          let z : Continued file state state' before after lines lines' used refused =
          rw (passes (lends_words state before lines) l) at x in
          z.reported

      over : ((report_of state').stage ≡ Nothing) ⊎ (length lines' < used + 128) → report_of state' ≡ report_of state → r.text ≡ []
          → ⊥
      over (inl e) same none = n (ap (λ (q : Report). q.stage) (sym same) ∙ e)
      over (inr e) same none = omega (arith, e, r.line.place, ap length none, r.long, l.1.0)

      go : (left_at y₀ < left_at x₀) ⊎ ((y₀ ≡ x₀) × (r.text ≡ []))
          → steps_left file (place_of state') (report_of state') < steps_left file (place_of state) (report_of state)
      go (inl e) = omega (arith, e, least-left (place_of state) (report_of state))
      go (inr e) = absurd (over r.ends (ap (λ (y : State). y.report) e.0) e.1)

  -- Where nothing is left, whatever the code, it is 7 after the call.
  went_over : (x : State) (bytes : List ℕ) (y : State) → Went file x bytes y → x.report.stage ≡ Nothing
      → y.report.stage ≡ Nothing
  unfolding asks_at does_at
  went_over x _ _ still e = e
  went_over x _ _ (further bytes y w) e =
      ap (λ (stage : Stage). (does_at file y.at (take (asks_at y.report stage) (drop y.at file)) y.report
      y.session stage).report.stage)
      (went_over x bytes y w e)

  pub call-over : (state state' before after lines lines' : List ℕ) (used refused : ℕ)
      → Holds (lends_words state before lines)
      → (report_of state).stage ≡ Nothing
      → Reports file state state' before after lines lines' used refused
      → code_in state' ≡ 7
  unfolding Reports code_of
  call-over state state' before after lines lines' used refused l e x =
      let z : Continued file state state' before after lines lines' used refused =
      rw (passes (lends_words state before lines) l) at x in
      z.code ∙ ap code_of (went_over _ _ _ z.reported.went e)
