-- The parts that a destroying and an end are made of.
use Rattle.std.specs.Prelude.{ℕ, ◌+◌, ◌≤◌, ◌<◌, ◌≡◌, refl, List}
use Rattle.std.proofs.Common.{sym, ap, ◌∙◌, inl, inr, arith}
use Rattle.session.specs.Table.{Session, read, put, change}
use Rattle.session.specs.declared.Field.TheVariants.{Objects, Kind, TemplateState, TaskState, TaskFinish, TaskOutput, BlockState}
use Rattle.session.specs.Names.{most_objects, template, task, event, template_destroyed, running, ended, task_destroyed, doomed}
use Rattle.session.specs.Names.{block_destroyed}
use Rattle.rules.specs.Formula.{Holds, choose, Formula.◌≐◌, Formula.◌and◌}
use Rattle.rules.specs.FormulaLaws.{choose_yes, choose_no, choose_case}
use Rattle.rules.specs.Reading.{made, is_held}
use Rattle.rules.specs.Sound.{sound, task_part}
use Rattle.rules.specs.Sound as rule
use Rattle.laws.specs.Rows.Name.{counts, task_parts, outputs}
use Rattle.laws.specs.Keeping.{Sound}
use Rattle.laws.specs.ByName.{sound_by_name}
use Rattle.laws.specs.Conjuncts.{no_task as fields-of-none, output_by_name, Output.output_made}
use Rattle.rules.specs.Descendants.{climbed}
use Rattle.rules.specs.Step.{destroy_climbs}
use Rattle.laws.specs.Places.{put-here}
use Rattle.rules.specs.Effects.{let_go, bury_doomed, release, fire, fire_one, fire_finished, destroy_event, destroy_task, destroy_block}
use Rattle.rules.specs.Effects.{destroy, end}
use Rattle.laws.specs.Standing.{handle_made}
use Rattle.retiring.specs.TidyUnderWay.{Tidy, tidy, tidy_state, tidy_let_go, tidy_fire_one, tidy_destroy_event}

-- a task's output event is destroyed
unfoldable pub output_destroyed : Session → ℕ → Session
output_destroyed s t = choose (s TaskOutput t ≐ 1) (destroy_event s (t + 1)) s

pub tidy_output_destroyed : (s : Session) (t : ℕ) → Tidy s → Tidy (output_destroyed s t)
unfolding output_destroyed
tidy_output_destroyed s t x =
    choose_case Tidy (s TaskOutput t ≐ 1) (destroy_event s (t + 1)) s (λ _. tidy_destroy_event s x (t + 1)) (λ _. x)

pub destroy_task-parts : (s : Session) (t : ℕ)
    → fire_finished (output_destroyed (put s TaskState t task_destroyed) t) ≡ destroy_task s t
unfolding output_destroyed destroy_task put
destroy_task-parts s t = refl

-- the output event of a plain task that ends fires
unfoldable pub output_fired : Session → ℕ → ℕ → Session
output_fired s t b = choose (s TaskOutput t ≐ 1 and s TaskFinish t ≐ 0) (fire_one s (t + 1) b) s

pub tidy_output_fired : (s : Session) (t b : ℕ) → Tidy s → Tidy (output_fired s t b)
unfolding output_fired
tidy_output_fired s t b x =
    choose_case Tidy (s TaskOutput t ≐ 1 and s TaskFinish t ≐ 0) (fire_one s (t + 1) b) s (λ _. tidy_fire_one s x (t + 1) b)
    (λ _. x)

abbrev pub ending : Session → ℕ → Session
ending s t = put (let_go s t (λ k. 0 ≐ 0)) TaskState t ended

pub end-parts : (s : Session) (t b : ℕ) → fire_finished (output_fired (ending s t) t b) ≡ end s t b
unfolding output_fired end put let_go bury_doomed change
end-parts s t b = refl

-- what each part asks of the one before
abbrev pub OutputLow : Session → ℕ → Type 0
OutputLow s t = s TaskOutput t ≡ 1 → t < most_objects

pub low_state : (s : Session) (t v : ℕ) → OutputLow s t → OutputLow (put s TaskState t v) t
unfolding put
low_state s t v l = l

pub low_ending : (s : Session) (t : ℕ) → OutputLow s t → OutputLow (ending s t) t
unfolding put let_go bury_doomed change
low_ending s t l = l

pub tidy_ending : (s : Session) (t : ℕ) → Tidy s → Tidy (ending s t)
tidy_ending s t x = tidy_state (let_go s t (λ k. 0 ≐ 0)) (tidy_let_go s x t (λ k. 0 ≐ 0)) t ended (omega arith)

-- what is done with the output event changes no task's state
fired_keeps : (s : Session) (t b u : ℕ) → output_fired s t b TaskState u ≡ s TaskState u
unfolding output_fired fire_one fire change
fired_keeps s t b u =
    choose_case (λ q. q TaskState u ≡ s TaskState u) (s TaskOutput t ≐ 1 and s TaskFinish t ≐ 0) (fire_one s (t + 1) b) s
    (λ _. refl) (λ _. refl)

destroyed_keeps : (s : Session) (t u : ℕ) → output_destroyed s t TaskState u ≡ s TaskState u
unfolding output_destroyed destroy_event put change
destroyed_keeps s t u =
    choose_case (λ q. q TaskState u ≡ s TaskState u) (s TaskOutput t ≐ 1) (destroy_event s (t + 1)) s (λ _. refl) (λ _. refl)

-- so the task is not live
pub ended-over : (s : Session) (t b : ℕ) → output_fired (ending s t) t b TaskState t ≤ running → ⊥
ended-over s t b l =
    let e : output_fired (ending s t) t b TaskState t ≡ ended =
    fired_keeps (ending s t) t b t ∙ put-here (let_go s t (λ k. 0 ≐ 0)) TaskState t t ended refl in
    omega arith

pub destroyed_over : (s : Session) (t : ℕ) → output_destroyed (put s TaskState t task_destroyed) t TaskState t ≤ running → ⊥
destroyed_over s t l =
    let e : output_destroyed (put s TaskState t task_destroyed) t TaskState t ≡ task_destroyed =
    destroyed_keeps (put s TaskState t task_destroyed) t t ∙ put-here s TaskState t t task_destroyed refl in
    omega arith

-- a block's state once it is destroyed
unfoldable pub fate : Session → ℕ → ℕ
fate s b = choose (is_held s b) doomed block_destroyed

pub destroy_block-parts : (s : Session) (t b : ℕ) → put (release s t b) BlockState b (fate (release s t b) b) ≡ destroy_block s t b
unfolding fate destroy_block
destroy_block-parts s t b = refl

pub few_release : (s : Session) (t b : ℕ) → s Objects 0 ≤ most_objects → release s t b Objects 0 ≤ most_objects
unfolding release let_go bury_doomed change
few_release s t b f = f

-- each part by its cases
pub output_yes : (s : Session) (t : ℕ) → s TaskOutput t ≡ 1 → output_destroyed s t ≡ destroy_event s (t + 1)
unfolding output_destroyed
output_yes s t e = choose_yes (s TaskOutput t ≐ 1) (destroy_event s (t + 1)) s e

pub output_no : (s : Session) (t : ℕ) → (s TaskOutput t ≡ 1 → ⊥) → output_destroyed s t ≡ s
unfolding output_destroyed
output_no s t n = choose_no (s TaskOutput t ≐ 1) (destroy_event s (t + 1)) s n

pub fires_yes : (s : Session) (t b : ℕ) → s TaskOutput t ≡ 1 → s TaskFinish t ≡ 0 → output_fired s t b ≡ fire_one s (t + 1) b
unfolding output_fired
fires_yes s t b e f = choose_yes (s TaskOutput t ≐ 1 and s TaskFinish t ≐ 0) (fire_one s (t + 1) b) s (e, f)

pub fires_no : (s : Session) (t b : ℕ) → ((s TaskOutput t ≡ 1) × (s TaskFinish t ≡ 0) → ⊥) → output_fired s t b ≡ s
unfolding output_fired
fires_no s t b n = choose_no (s TaskOutput t ≐ 1 and s TaskFinish t ≐ 0) (fire_one s (t + 1) b) s n

module _ (s : Session) (t h : ℕ) where
  abbrev of_template : Session
  of_template = put s TemplateState h template_destroyed

  abbrev of_event : Session
  of_event = choose (s Kind h ≐ event) (destroy_event s h) (destroy_block s t h)

  abbrev of_task : Session
  of_task = choose (s Kind h ≐ task) (destroy_task s h) of_event

  no_template : (s Kind h ≡ template → ⊥) → destroy s t h ≡ of_task
  unfolding destroy
  no_template n = choose_no (s Kind h ≐ template) of_template of_task n

  no_task : (s Kind h ≡ template → ⊥) → (s Kind h ≡ task → ⊥) → destroy s t h ≡ of_event
  no_task n m = no_template n ∙ choose_no (s Kind h ≐ task) (destroy_task s h) of_event m

  pub destroys_template : s Kind h ≡ template → destroy s t h ≡ put s TemplateState h template_destroyed
  unfolding destroy
  destroys_template e = choose_yes (s Kind h ≐ template) of_template of_task e

  pub destroys_task : s Kind h ≡ task → destroy s t h ≡ destroy_task s h
  destroys_task e = no_template (λ q. omega arith) ∙ choose_yes (s Kind h ≐ task) (destroy_task s h) of_event e

  pub destroys_event : s Kind h ≡ event → destroy s t h ≡ destroy_event s h
  destroys_event e =
      no_task (λ q. omega arith) (λ q. omega arith) ∙ choose_yes (s Kind h ≐ event) (destroy_event s h) (destroy_block s t h) e

  -- the steps that are answered: of a task those climbed, of anything else none
  pub task_climbs : s Kind h ≡ task → climbed (destroy_task s h) h ≡ destroy_climbs s t h
  task_climbs e =
      ap (λ (q : Session). climbed q h) (sym (destroys_task e))
      ∙ sym (choose_yes (s Kind h ≐ task) (climbed (destroy s t h) h) 0 e)

  pub other_climbs : (s Kind h ≡ task → ⊥) → 0 ≡ destroy_climbs s t h
  other_climbs n = sym (choose_no (s Kind h ≐ task) (climbed (destroy s t h) h) 0 n)

  pub destroys_block : (s Kind h ≡ template → ⊥) → (s Kind h ≡ task → ⊥) → (s Kind h ≡ event → ⊥)
      → destroy s t h ≡ destroy_block s t h
  destroys_block n m k = no_task n m ∙ choose_no (s Kind h ≐ event) (destroy_event s h) (destroy_block s t h) k

-- an output event follows its task
output_low : (s : Session) → Holds (sound s) → (h : ℕ) → Holds (made s h) → OutputLow s h
output_low s x h m e = go (r task_parts h (omega (arith, (r counts).1.0)))
  where
    r : Sound s
    r = sound_by_name s x

    go : Holds (task_part s h) → h < most_objects
    go (inl y) =
        let n = (output_by_name h s ((r outputs h (omega arith)).0 (y.0, e)) output_made).1 in
        let c = (r counts).1.0 in
        omega arith
    go (inr y) = let z = (fields-of-none s h y.0 (inr y)).no_output in absurd (omega arith)

-- what a sound session gives of an object that is destroyed, or a task that ends
pub record Retirable (s : Session) (h : ℕ) : Type 0 where
  pub handle : h ≤ most_objects
  pub tidy : Tidy s
  pub low : OutputLow s h
  pub outputs : Holds (rule.outputs s)

pub retirable : (ws : List ℕ) (h : ℕ) → Holds (sound (read ws)) → Holds (made (read ws) h) → Retirable (read ws) h
retirable ws h good m =
    let s = read ws in
    record {
      handle = handle_made s h (sound_by_name s good) m;
      tidy = tidy ws good;
      low = output_low s good h m;
      outputs = sound_by_name s good outputs;
    }
