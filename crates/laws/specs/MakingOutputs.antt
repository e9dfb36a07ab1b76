-- Making an object keeps the rule of the outputs at the old handles, unless an ended task gets its first live descendant.
use Rattle.std.specs.Prelude.{ℕ, ◌+◌, ◌-◌, ◌≤◌, ◌<◌, ◌≡◌, refl, [], ◌∷◌}
use Rattle.std.proofs.Common.{ap, sym, subst, ◌∙◌, arith}
use Rattle.std.proofs.Math.Decide.{dec_lt}
use Rattle.session.specs.Table.{Session}
use Rattle.session.specs.declared.Field.TheVariants.{Objects, Kind, TaskState, TaskCreator, TaskFinish, TaskOutput, EventState}
use Rattle.session.specs.declared.Field.TheVariants.{EventType}
use Rattle.rules.specs.Formula.{Formula, Holds, Formula.◌≐◌, Formula.◌and◌, Formula.◌then◌}
use Rattle.session.specs.Names.{task, event, ended, output}
use Rattle.rules.specs.Reading.{is_kind, is_live}
use Rattle.rules.specs.Sound.{output_of}
use Rattle.rules.specs.Descendants.{busy, under}
use Rattle.laws.specs.Shape.{Sort}
use Rattle.laws.specs.Frame.{AllOf, Shown.due}
use Rattle.laws.specs.Rows.{Name, says}
use Rattle.laws.specs.Rows.Name.{outputs}
use Rattle.laws.specs.Keeping.{But, but, all, Excepted, Kept}
use Rattle.laws.specs.Conjuncts.{Output, output_row, output_says, output_by_name, output_of_lem}
use Rattle.laws.specs.Conjuncts.Output.{output_made, output_event, output_type, fires_with, goes_with, stands}
use Rattle.laws.specs.Under.{or_map, under_same, creator-made}
use Rattle.laws.specs.Grown.{next, grown, built_grown}
use Rattle.laws.specs.Born.{Born, was}
use Rattle.laws.specs.Making.{New, says_of, each_more, made_keeps}

-- what the rule of the outputs says of one handle
abbrev pub output_at : Session → ℕ → Formula
output_at s h =
    (is_kind s task h and s TaskOutput h ≐ 1 then output_of s h)
    and (is_kind s event h and s EventType h ≐ output then is_kind s task (h - 1) and s TaskOutput (h - 1) ≐ 1)

-- the new object is a live descendant of a
abbrev pub follows : Session → Session → ℕ → Formula
follows s g a = is_live g (next s) and under (g TaskCreator) (next s) (next s) a

module _ {s g : Session} {k : Sort} (b : Born s g k) (h : But (outputs ∷ []) s) where
  maker_made : (t : ℕ) → t ≤ s Objects 0 → s TaskCreator t ≤ s Objects 0
  maker_made = creator-made s h

  busy_stays : (a : ℕ) → Holds (busy s a) → Holds (busy (grown s g) a)
  busy_stays a x =
      let l : x.0 ≤ s Objects 0 = let m = x.1 in omega arith in
      let stays = under_same (s TaskCreator) (g TaskCreator) (s Objects 0) same made x.0 x.0 a l x.2.1 in
      (x.0, omega arith, ((was b Kind refl x.0 l ∙ x.2.0.0, rw (was b TaskState refl x.0 l) x.2.0.1), stays))
    where
      same : (t : ℕ) → t ≤ s Objects 0 → s TaskCreator t ≡ g TaskCreator t
      same t m = sym (was b TaskCreator refl t m)

      made : (t : ℕ) → t ≤ s Objects 0 → g TaskCreator t ≤ s Objects 0
      made t m = rw (was b TaskCreator refl t m) (maker_made t m)

  busy-was : (a : ℕ) → (Holds (follows s g a) → Holds (busy s a)) → Holds (busy (grown s g) a) → Holds (busy s a)
  busy-was a q x = go (dec_lt x.0 (next s))
    where
      go : Dec (x.0 < next s) → Holds (busy s a)
      go (yes m) =
          let l : x.0 ≤ s Objects 0 = omega arith in
          let agree = was b TaskCreator refl in
          let u = under_same (g TaskCreator) (s TaskCreator) (s Objects 0) agree maker_made x.0 x.0 a l x.2.1 in
          (x.0, m, ((sym (was b Kind refl x.0 l) ∙ x.2.0.0, rw (← was b TaskState refl x.0 l) x.2.0.1), u))
      go (no n) =
          let m = x.1 in
          let e : x.0 ≡ next s = omega arith in
          q (subst (λ t. Holds (is_live g t and under (g TaskCreator) t t a)) e x.2)

  old_output_of : (t : ℕ) → t ≤ s Objects 0 → (s TaskState t ≡ ended → Holds (follows s g t) → Holds (busy s t))
      → Holds (output_of s t) → Holds (output_of (grown s g) t)
  old_output_of t l q x = output_of_lem t (grown s g) now
    where
      v : AllOf (output_row t) s
      v = output_by_name t s x

      m : t + 1 ≤ s Objects 0
      m = (v output_made).1

      now : (n : Output) → Holds (output_says t n (grown s g))
      now output_made = ((v output_made).0, let l = m in omega arith)
      now output_event = was b Kind refl (t + 1) m ∙ v output_event
      now output_type = was b EventType refl (t + 1) m ∙ v output_type
      now fires_with =
          rw (was b EventState refl (t + 1) m, was b TaskState refl t l, was b TaskFinish refl t l) (
            (λ e. let y = (v fires_with).0 e in (y.0, or_map (λ n z. n (busy-was t (q y.0) z)) y.1)),
            λ y. (v fires_with).1 (y.0, or_map (λ n z. n (busy_stays t z)) y.1),
          )
      now goes_with = rw (was b EventState refl (t + 1) m, was b TaskState refl t l) (v goes_with)
      now stands = rw (was b EventState refl (t + 1) m) (v stands)

  -- what is said of the outputs at an old handle stays true, unless an ended task gets its first live descendant
  pub made-output : (i : ℕ) → i < next s → (s TaskState i ≡ ended → Holds (follows s g i) → Holds (busy s i))
      → Holds (output_at s i) → Holds (output_at g i)
  made-output i m q x = subst (λ u. Holds (output_at u i)) (built_grown s g b.built) here
    where
      l : i ≤ s Objects 0
      l = omega arith

      p : i - 1 ≤ s Objects 0
      p = omega arith

      here : Holds (output_at (grown s g) i)
      here = (
        rw (was b Kind refl i l, was b TaskOutput refl i l) (λ z. old_output_of i l q (x.0 z)),
        rw (was b Kind refl i l, was b EventType refl i l, was b Kind refl (i - 1) p, was b TaskOutput refl (i - 1) p) x.1,
      )

  pub made-outputs : ((i : ℕ) → i < next s → Holds (output_at g i)) → Holds (output_at g (next s)) → Holds (says outputs g)
  made-outputs old new i l =
      let c : g Objects 0 ≡ next s = sym (ap (λ (u : Session). u Objects 0) (built_grown s g b.built)) in
      each_more (λ j. Holds (output_at g j)) (next s) old new i (omega arith)

-- an object that is neither a task nor an output event
pub plain_keeps : {s g : Session} {k : Sort} → Born s g k → (g Kind (next s) ≡ task → ⊥)
    → (g Kind (next s) ≡ event → g EventType (next s) ≡ output → ⊥) → ((n : Name) → New k n → Holds (says_of n g (next s)))
    → Kept s → Kept g
plain_keeps {s = s} {g = g} b no_task no_output new h = all (outputs ∷ []) (made_keeps b (but (outputs ∷ []) h) new) again
  where
    old : (i : ℕ) → i < next s → Holds (output_at g i)
    old i l = made-output b (but (outputs ∷ []) h) i l (λ _ x. absurd (no_task x.0.0)) (h outputs i l)

    here : Holds (output_at g (next s))
    here = (λ x. absurd (no_task x.0), λ x. absurd (no_output x.0 x.1))

    again : (n : Name) → Excepted (outputs ∷ []) n → Holds (says n g)
    again outputs due = made-outputs b (but (outputs ∷ []) h) old here
    again Rattle.laws.specs.Rows.counts x' = elim x' [ ]
    again Rattle.laws.specs.Rows.kinds x'' = elim x'' [ ]
    again Rattle.laws.specs.Rows.template_parts x3 = elim x3 [ ]
    again Rattle.laws.specs.Rows.task_parts x4 = elim x4 [ ]
    again Rattle.laws.specs.Rows.event_parts x5 = elim x5 [ ]
    again Rattle.laws.specs.Rows.block_parts x6 = elim x6 [ ]
    again Rattle.laws.specs.Rows.roots x7 = elim x7 [ ]
    again Rattle.laws.specs.Rows.creators x8 = elim x8 [ ]
    again Rattle.laws.specs.Rows.slots x9 = elim x9 [ ]
    again Rattle.laws.specs.Rows.links x10 = elim x10 [ ]
    again Rattle.laws.specs.Rows.one_link x11 = elim x11 [ ]
    again Rattle.laws.specs.Rows.states x12 = elim x12 [ ]
    again Rattle.laws.specs.Rows.blocks x13 = elim x13 [ ]
    again Rattle.laws.specs.Rows.compatible x14 = elim x14 [ ]
    again Rattle.laws.specs.Rows.latches x15 = elim x15 [ ]
    again Rattle.laws.specs.Rows.counted_events x16 = elim x16 [ ]
    again Rattle.laws.specs.Rows.dropped x17 = elim x17 [ ]
    again Rattle.laws.specs.Rows.free_slots x18 = elim x18 [ ]
    again Rattle.laws.specs.Rows.free_links x19 = elim x19 [ ]
    again Rattle.laws.specs.Rows.settled x20 = elim x20 [ ]
