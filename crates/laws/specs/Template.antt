-- Making a template keeps the rules: one is about templates, its part of the objects.
use Rattle.std.specs.Prelude.{ℕ, ◌≤◌, ◌≡◌}
use Rattle.std.proofs.Math.Path.{refl}
use Rattle.std.proofs.Common.{inl, arith, eq-eqb}
use Rattle.session.specs.Table.{Session, put}
use Rattle.session.specs.declared.Field.TheVariants.{Kind, TemplateState, TemplateCount}
use Rattle.rules.specs.Formula.{Holds}
use Rattle.session.specs.Names.{template, fresh, most_objects}
use Rattle.rules.specs.Checks.{template_checks}
use Rattle.rules.specs.Effects.{new, new_template}
use Rattle.laws.specs.Keeping.{Kept}
use Rattle.laws.specs.Met.{Checked}
use Rattle.laws.specs.Outside.{outside_within}
use Rattle.laws.specs.Writes.{template-writes}
use Rattle.laws.specs.Shape.Sort.{a_template}
use Rattle.laws.specs.Frame.{Shown.due}
use Rattle.laws.specs.Rows.{Name}
use Rattle.laws.specs.Rows.Name.{template_parts}
use Rattle.laws.specs.Grown.{next, Built, Built.counted, Built.written}
use Rattle.laws.specs.Born.{Born}
use Rattle.laws.specs.Making.{New, says_of}
use Rattle.laws.specs.MakingOutputs.{plain_keeps}

module _ (s : Session) (n : ℕ) where
  abbrev after : Session
  after = new_template s n

  built : Built s (next s) after
  unfolding new_template new
  built = written _ TemplateCount n refl (written _ TemplateState fresh refl (written _ Kind template refl counted))

  kind : after Kind (next s) ≡ template
  unfolding new_template new put
  kind = rw (eq-eqb (next s) (next s) refl) refl

  state : after TemplateState (next s) ≡ fresh
  unfolding new_template new put
  state = rw (eq-eqb (next s) (next s) refl) refl

  count : after TemplateCount (next s) ≡ n
  unfolding new_template new put
  count = rw (eq-eqb (next s) (next s) refl) refl

  born : next s ≤ most_objects → Born s after a_template
  born l = record { room = l; built = built; writes = outside_within (template-writes s n) refl; kind = kind }

  shows : n ≤ 17 → (m : Name) → New a_template m → Holds (says_of m after (next s))
  shows l template_parts due =
      let e = state in
      let c = count in
      inl (kind, (omega arith, (omega arith, omega arith)))
  shows l Rattle.laws.specs.Rows.counts x' = elim x' [ ]
  shows l Rattle.laws.specs.Rows.kinds x'' = elim x'' [ ]
  shows l Rattle.laws.specs.Rows.task_parts x3 = elim x3 [ ]
  shows l Rattle.laws.specs.Rows.event_parts x4 = elim x4 [ ]
  shows l Rattle.laws.specs.Rows.block_parts x5 = elim x5 [ ]
  shows l Rattle.laws.specs.Rows.roots x6 = elim x6 [ ]
  shows l Rattle.laws.specs.Rows.creators x7 = elim x7 [ ]
  shows l Rattle.laws.specs.Rows.outputs x8 = elim x8 [ ]
  shows l Rattle.laws.specs.Rows.slots x9 = elim x9 [ ]
  shows l Rattle.laws.specs.Rows.links x10 = elim x10 [ ]
  shows l Rattle.laws.specs.Rows.one_link x11 = elim x11 [ ]
  shows l Rattle.laws.specs.Rows.states x12 = elim x12 [ ]
  shows l Rattle.laws.specs.Rows.blocks x13 = elim x13 [ ]
  shows l Rattle.laws.specs.Rows.compatible x14 = elim x14 [ ]
  shows l Rattle.laws.specs.Rows.latches x15 = elim x15 [ ]
  shows l Rattle.laws.specs.Rows.counted_events x16 = elim x16 [ ]
  shows l Rattle.laws.specs.Rows.dropped x17 = elim x17 [ ]
  shows l Rattle.laws.specs.Rows.free_slots x18 = elim x18 [ ]
  shows l Rattle.laws.specs.Rows.free_links x19 = elim x19 [ ]
  shows l Rattle.laws.specs.Rows.settled x20 = elim x20 [ ]

pub template_keeps : (s : Session) (caller n : ℕ) → Checked (template_checks s caller n) → Kept s → Kept (new_template s n)
template_keeps s caller n m h =
    let k = kind s n in
    let b = born s n (m 20) in
    plain_keeps b (λ e. omega arith) (λ e. absurd (omega arith)) (shows s n (m 7)) h
