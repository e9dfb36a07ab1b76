-- An accepted destroying, of whatever kind of object, keeps a session. That of a template is shown here: it writes one field,
-- which one of the rules reads.
use Rattle.std.specs.Prelude.{ℕ, ◌≤◌, ◌≡◌, [], ◌∷◌}
use Rattle.std.proofs.Common.{ap, sym, ◌∙◌, inl, inr}
use native.Mathlib.Omega.{arith}
use Rattle.session.specs.Table.{Session, put}
use Rattle.session.specs.declared.Field.TheVariants.{Kind, TemplateState, EventState}
use Rattle.session.specs.Names.{template, task, event, block, template_destroyed, fired}
use Rattle.rules.specs.Formula.{Holds, choose, Formula.◌≼◌}
use Rattle.rules.specs.FormulaLaws.{Case, decide, choose_case, Case.it_does, Case.it_does_not}
use Rattle.rules.specs.Reading.{made, is_kind, is_gone}
use Rattle.rules.specs.Checks.{destroy_checks}
use Rattle.rules.specs.Effects.{destroy, destroy_task, destroy_event, destroy_block}
use Rattle.rules.specs.Sound.{template_part}
use Rattle.laws.specs.Outside.{outside_same, outside_put}
use Rattle.laws.specs.Frame.{Shown.due}
use Rattle.laws.specs.Rows.{Name, says}
use Rattle.laws.specs.Rows.Name.{kinds, template_parts}
use Rattle.laws.specs.Keeping.{Due, kept_by, Kept}
use Rattle.laws.specs.Places.{Places, places, put-here, put_there, Places.one, Places.two}
use Rattle.laws.specs.Met.{Checked}
use Rattle.laws.specs.DestroyEvent.{destroy_event_keeps}
use Rattle.laws.specs.DestroyTask.{destroy_task_keeps}
use Rattle.laws.specs.DestroyBlock.{destroy_block_keeps}

-- template h destroyed
abbrev gone : Session → ℕ → Session
gone s h = put s TemplateState h template_destroyed

module _ (s : Session) (h : ℕ) (kind : Holds (is_kind s template h)) (r : Kept s) where
  gone-part : (i : ℕ) → Holds (template_part s i) → Holds (template_part (gone s h) i)
  unfolding put
  gone-part i x = go (places h i) x
    where
      go : Places h i → Holds (template_part s i) → Holds (template_part (gone s h) i)
      go (two n) x = rw (put_there s TemplateState h i template_destroyed n) x
      go (one p) (inl (k, (low, (high, count)))) =
          rw (put-here s TemplateState h i template_destroyed p) (inl (k, (omega arith, (omega arith, count))))
      go (one p) (inr x) = absurd (x.0 (ap (s Kind) (sym p) ∙ kind))

  shows : (n : Name) → Due (TemplateState ∷ []) [] n → Holds (says n (gone s h))
  shows template_parts due = λ i l. gone-part i (r template_parts i l)
  shows Rattle.laws.specs.Rows.counts x' = elim x' [ ]
  shows kinds x'' = elim x'' [ ]
  shows Rattle.laws.specs.Rows.task_parts x3 = elim x3 [ ]
  shows Rattle.laws.specs.Rows.event_parts x4 = elim x4 [ ]
  shows Rattle.laws.specs.Rows.block_parts x5 = elim x5 [ ]
  shows Rattle.laws.specs.Rows.roots x6 = elim x6 [ ]
  shows Rattle.laws.specs.Rows.creators x7 = elim x7 [ ]
  shows Rattle.laws.specs.Rows.outputs x8 = elim x8 [ ]
  shows Rattle.laws.specs.Rows.slots x9 = elim x9 [ ]
  shows Rattle.laws.specs.Rows.links x10 = elim x10 [ ]
  shows Rattle.laws.specs.Rows.one_link x11 = elim x11 [ ]
  shows Rattle.laws.specs.Rows.states x12 = elim x12 [ ]
  shows Rattle.laws.specs.Rows.blocks x13 = elim x13 [ ]
  shows Rattle.laws.specs.Rows.compatible x14 = elim x14 [ ]
  shows Rattle.laws.specs.Rows.latches x15 = elim x15 [ ]
  shows Rattle.laws.specs.Rows.counted_events x16 = elim x16 [ ]
  shows Rattle.laws.specs.Rows.dropped x17 = elim x17 [ ]
  shows Rattle.laws.specs.Rows.free_slots x18 = elim x18 [ ]
  shows Rattle.laws.specs.Rows.free_links x19 = elim x19 [ ]
  shows Rattle.laws.specs.Rows.settled x20 = elim x20 [ ]

  destroy_template_keeps : Kept (gone s h)
  destroy_template_keeps = kept_by [] (outside_put h template_destroyed (outside_same s)) r shows

-- an object that is no template, task or event is a block
block_else : (s : Session) (h : ℕ) → Holds (says kinds s) → Holds (made s h) → (s Kind h ≡ template → ⊥)
    → (s Kind h ≡ task → ⊥) → (s Kind h ≡ event → ⊥) → s Kind h ≡ block
block_else s h k m a b c = let low = m.0 in let high = m.1 in let x = k.1.0 h (omega arith) low in omega arith

-- an event that is not gone is not destroyed
not_destroyed : (s : Session) (h : ℕ) → Holds (is_kind s event h) → (Holds (is_gone s h) → ⊥) → s EventState h ≤ fired
not_destroyed s h k n = go (decide (3 ≼ s EventState h))
  where
    go : Case (3 ≼ s EventState h) → s EventState h ≤ fired
    go (it_does l) = absurd (n (inr (inr (inl (k, inl l)))))
    go (it_does_not l) = omega arith

pub destroy_keeps : (s : Session) (caller h : ℕ) → Checked (destroy_checks s caller h) → Kept s → Kept (destroy s caller h)
unfolding destroy
destroy_keeps s caller h m r =
    choose_case Kept (is_kind s template h) (gone s h) of_task (λ a. destroy_template_keeps s h a r) task_else
  where
    is : Holds (made s h)
    is = m 9

    of_block : Session
    of_block = destroy_block s caller h

    of_event : Session
    of_event = choose (is_kind s event h) (destroy_event s h) of_block

    of_task : Session
    of_task = choose (is_kind s task h) (destroy_task s h) of_event

    event_else : (s Kind h ≡ template → ⊥) → (s Kind h ≡ task → ⊥) → Kept of_event
    event_else a b =
        choose_case Kept (is_kind s event h) (destroy_event s h) of_block
        (λ c. destroy_event_keeps s h is (m 10 c) (not_destroyed s h c (m 11)) r)
        (λ c. destroy_block_keeps s caller h (m 8) (block_else s h (r kinds) is a b c) r)

    task_else : (s Kind h ≡ template → ⊥) → Kept of_task
    task_else a =
        choose_case Kept (is_kind s task h) (destroy_task s h) of_event
        (λ b. destroy_task_keeps s h is b (m 16 b) r) (event_else a)
