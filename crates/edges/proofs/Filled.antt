-- P5 holds: it is too long to be computed, but each template is one more object, and main runs on.
use Rattle.std.specs.Prelude.{ℕ, zero, suc, ◌+◌, ◌≤◌, ◌<◌, List, [], ◌∷◌, ◌++◌, ◌≡◌, refl}
use Rattle.std.proofs.Common.{◌∙◌}
use native.Mathlib.Omega.{arith}
use borrow.Author.Tests.{ne_eqb}
use Rattle.session.specs.Table.{Session, put, change}
use Rattle.session.specs.declared.Field.TheVariants.{Objects, Kind, TaskState}
use Rattle.session.specs.Names.{task, running, most_objects}
use Rattle.rules.specs.declared.Operation.{Operation}
use Rattle.rules.specs.Formula.{Formula, Holds, test, Formula.◌≐◌, Formula.◌≼◌}
use Rattle.rules.specs.FormulaLaws.{choose_yes, choose_no}
use Rattle.rules.specs.Reading.{is_running}
use Rattle.rules.specs.Checks.{refusal, template_checks}
use Rattle.rules.specs.Effects.{new, new_template, grant, start}
use Rattle.rules.specs.Step.{fresh_session, rules, answer, after, outcome}
use Rattle.rules.specs.Edges.{Expected, refused, plays, is_met, running_main}
use Rattle.laws.specs.Met.{none_fails}
use Rattle.edges.specs.Filled.{making, handles_left, p5}

abbrev template : Operation
template = record { code = 1; fields = 2 ∷ 0 ∷ [] }

-- h objects, and main runs
record Runs (s : Session) (h : ℕ) : Type 0 where
  objects : s Objects 0 ≡ h
  kind : s Kind 2 ≡ task
  state : s TaskState 2 ≡ running

module _ (s : Session) (h : ℕ) (r : Runs s h) (low : 2 ≤ h) where
  main_runs : Holds (is_running s 2)
  main_runs = ((omega arith, let o = r.objects in omega arith), (r.kind, r.state))

  takes : h < most_objects → answer s template ≡ 0
  unfolding answer rules
  takes l = none_fails (template_checks s 2 0) (omega arith, (main_runs, ((let o = r.objects in omega arith), tt)))

  -- the last check is the first that fails
  full : h ≡ most_objects → answer s template ≡ 20
  unfolding answer rules refusal
  full e =
      choose_yes (0 ≼ 17) _ _ (omega arith) ∙ choose_yes (is_running s 2) _ _ main_runs
      ∙ choose_no (s Objects 0 + 1 ≼ most_objects) _ _ (λ l. let o = r.objects in omega arith)

  makes : h < most_objects → outcome s template ≡ h + 1
  unfolding outcome rules
  makes l = choose_yes (answer s template ≐ 0) (s Objects 0 + 1) 0 (takes l) ∙ (let o = r.objects in omega arith)

  leaves : h < most_objects → Runs (after s template) (h + 1)
  unfolding after rules new_template new put
  leaves l =
      rw (choose_yes (answer s template ≐ 0) (new_template s 0) s (takes l)) (
      let o = r.objects in
      let other = ne_eqb (s Objects 0 + 1) 2 (λ e. omega arith) in
      record { objects = omega arith; kind = rw other r.kind; state = r.state }
      )

runs_as : (s : Session) (h k : ℕ) → Runs s h → h ≡ k → Runs s k
runs_as s h k r e = record { objects = r.objects ∙ e; kind = r.kind; state = r.state }

-- n templates more, and then what the session with them shows
fills : (n h : ℕ) (s : Session) (es : List Expected) (shows : Session → Formula) → Runs s h → 2 ≤ h → n + h ≤ most_objects
    → ((f : Session) → Runs f (n + h) → Holds (plays f es shows)) → Holds (plays s (making n (h + 1) ++ es) shows)
unfolding making plays
fills zero h s es shows r low l last = last s (runs_as s h (0 + h) r (omega arith))
fills (suc n) h s es shows r low l last =
    let more = leaves s h r low (omega arith) in
    let rest = fills n (h + 1) (after s template) es shows more (omega arith) (omega arith)
    (λ f x. last f (runs_as f (n + (h + 1)) (suc n + h) x (omega arith))) in
    (takes s h r low (omega arith), (makes s h r low (omega arith), rest))

-- at 512 objects, the refusal of the next, which leaves the session as it was
refuses : (f : Session) → Runs f most_objects → Holds (plays f (refused 1 (2 ∷ 0 ∷ []) 20 ∷ []) (λ s. s Objects 0 ≐ most_objects))
unfolding plays after outcome rules
refuses f r =
    let e = full f most_objects r (omega arith) refl in
    let no : answer f template ≡ 0 → ⊥ = λ z. omega arith in
    (e, (choose_no (answer f template ≐ 0) _ 0 no, rw (choose_no (answer f template ≐ 0) (new_template f 0) f no) r.objects))

-- main granted and started
main_started : (es : List Expected) (shows : Session → Formula) → ((s : Session) → Runs s 2 → Holds (plays s es shows))
    → Holds (is_met (running_main es shows))
unfolding plays after answer outcome rules refusal test fresh_session new put change grant start
main_started es shows rest = (refl, (refl, (refl, (refl, rest _ (record { objects = refl; kind = refl; state = refl })))))

pub filled : Holds (is_met p5)
filled =
    main_started _ _
    (λ s r. fills handles_left 2 s (refused 1 (2 ∷ 0 ∷ []) 20 ∷ []) (λ s. s Objects 0 ≐ most_objects) r (omega arith) (omega arith)
    (λ f x. refuses f x))
