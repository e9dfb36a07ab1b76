-- An object is made: the words of the next handle are written, those of its kind alone. A rule that speaks of each object by
-- that object's own words stays true of the others. Of the new object, a rule about another kind is true, since it has none of
-- that kind's fields.
use Rattle.std.specs.Prelude.{ℕ, ◌≤◌, ◌<◌, ◌≡◌, refl, Bool, true, false, [], ◌∷◌, ◌++◌, T}
use Rattle.std.proofs.Common.{ap, sym, subst, ◌∙◌, arith}
use Rattle.session.specs.Names.{most_objects}
use Rattle.session.specs.Table.{Session, pick}
use Rattle.session.specs.declared.Field.{Field}
use Rattle.session.specs.declared.Field.TheVariants.{Objects, Kind}
use Rattle.rules.specs.Formula.{Formula, Holds, Formula.each}
use Rattle.laws.specs.Outside.{among, Outside}
use Rattle.laws.specs.Shape.{Sort, is, kind_of, fields_of, part, None, Extent, reach, Shape}
use Rattle.laws.specs.Shape.{extent, is_each, said_of, is_about, reads_more}
use Rattle.laws.specs.Shape.Sort.{a_template, a_task, an_event, a_block}
use Rattle.laws.specs.Shape.Extent.{made_ones, every_handle}
use Rattle.laws.specs.Shape.Words.{own_words, more_words}
use Rattle.laws.specs.Shape.Shape.{any_shape, each_object}
use Rattle.laws.specs.Frame.{Shown, meets, unwritten, Shown.due}
use Rattle.laws.specs.Rows.Name.{kinds, template_parts, task_parts, event_parts, block_parts, outputs, free_slots}
use Rattle.laws.specs.Keeping.{But}
use Rattle.laws.specs.Grown.{next, grown, Built, built_old, built_grown, own_stays, Blank, blank}
use Rattle.laws.specs.Places.{places, Places, Places.one, Places.two}

-- g is s with an object of kind k at the next handle
pub record Born (s g : Session) (k : Sort) : Type 0 where
  pub room : next s ≤ most_objects
  pub built : Built s (next s) g
  pub writes : Outside s g (fields_of k ++ Kind ∷ Objects ∷ [])
  pub kind : g Kind (next s) ≡ kind_of k

-- two kinds have other numbers, and no field in common
abbrev Differ : Sort → Sort → Type 0
Differ j k = (kind_of k ≡ kind_of j → ⊥) × (meets (fields_of k ++ Kind ∷ Objects ∷ []) (fields_of j) ≡ false)

differ : (j k : Sort) → Shown (pick (is j k) false true) → Differ j k
differ a_template a_task due = (λ e. omega arith, refl)
differ a_template an_event due = (λ e. omega arith, refl)
differ a_template a_block due = (λ e. omega arith, refl)
differ a_task a_template due = (λ e. omega arith, refl)
differ a_task an_event due = (λ e. omega arith, refl)
differ a_task a_block due = (λ e. omega arith, refl)
differ an_event a_template due = (λ e. omega arith, refl)
differ an_event a_task due = (λ e. omega arith, refl)
differ an_event a_block due = (λ e. omega arith, refl)
differ a_block a_template due = (λ e. omega arith, refl)
differ a_block a_task due = (λ e. omega arith, refl)
differ a_block an_event due = (λ e. omega arith, refl)
differ a_template a_template x'' = elim x'' [ ]
differ a_task a_task x3 = elim x3 [ ]
differ an_event an_event x4 = elim x4 [ ]
differ a_block a_block x5 = elim x5 [ ]

module _ {s g : Session} {k : Sort} (b : Born s g k) where
  -- the words of another handle
  pub else : (f : Field) → part f ≡ true → (i : ℕ) → (next s ≡ i → ⊥) → g f i ≡ s f i
  else = built_old b.built

  -- those of an old object
  pub was : (f : Field) → part f ≡ true → (i : ℕ) → i ≤ s Objects 0 → g f i ≡ s f i
  was f p i l = else f p i (λ e. omega arith)

  module _ (h : But (outputs ∷ []) s) where
    -- nothing stood at the next handle
    pub nothing : Blank s (next s)
    nothing =
        blank s (h kinds) (h template_parts) (h task_parts) (h event_parts) (h block_parts) (h free_slots) (next s) (omega arith)
        (let l = b.room in omega arith)

    -- and in the fields of other kinds nothing stands there now
    strange : (j : Sort) → is j k ≡ false → (g Kind (next s) ≡ kind_of j → ⊥) × None (fields_of j) g (next s)
    strange j e = (λ q. d.0 (sym b.kind ∙ q), λ f m. stays f m ∙ nothing.fields j f m)
      where
        d : Differ j k
        d = differ j k (rw e due)

        stays : (f : Field) → among f (fields_of j) ≡ true → g f (next s) ≡ s f (next s)
        stays f m = ap (λ w. w (next s)) (b.writes.as_was f (unwritten b.writes f (fields_of j) d.1 m))

    -- what is said of the new object by a rule about objects of kind j: shown where it is of that kind
    here : (j : Sort) (said : Session → ℕ → Formula)
        → ((u : Session) (i : ℕ) → (u Kind i ≡ kind_of j → ⊥) → None (fields_of j) u i → Holds (said u i))
        → (Shown (is j k) → Holds (said g (next s))) → Holds (said g (next s))
    here j said others new = go (is j k) refl
      where
        go : (c : Bool) → is j k ≡ c → Holds (said g (next s))
        go true c = new (rw c due)
        go false c = let z = strange j c in others g (next s) z.0 z.1

    -- of the others and of the new one: of all
    join : (p : Extent) (said : Session → ℕ → Formula)
        → ((i : ℕ) → (next s ≡ i → ⊥) → i < reach p s → Holds (said (grown s g) i)) → Holds (said g (next s))
        → Holds (each (reach p (grown s g)) (said (grown s g)))
    join p said old new i l = go (places (next s) i)
      where
        within : (p : Extent) → i < reach p (grown s g) → (next s ≡ i → ⊥) → i < reach p s
        within made_ones l n = omega arith
        within every_handle l n = l

        new-grown : Holds (said (grown s g) (next s))
        new-grown = subst (λ u. Holds (said u (next s))) (sym (built_grown s g b.built)) new

        go : Places (next s) i → Holds (said (grown s g) i)
        go (one q) = subst (λ m. Holds (said (grown s g) m)) q new-grown
        go (two n) = old i n (within p l n)

    -- A rule that speaks of each object lasts: its clause for the other objects is needed if it reads more than an object's own
    -- words, and its clause for the new object if it is about objects of the kind made.
    pub each_lasts : {f : Session → Formula} (x : Shape f) → is_each x ≡ true → Holds (f s)
        → (Shown (reads_more x) → (i : ℕ) → (next s ≡ i → ⊥) → i < reach (extent x) s → Holds (said_of x s i)
        → Holds (said_of x (grown s g) i))
        → (Shown (is_about k x) → Holds (said_of x g (next s))) → Holds (f (grown s g))
    each_lasts any_shape e v old new = absurd (subst (λ (c : Bool). T c) (sym e) tt)
    each_lasts (each_object j p said parted others (own_words alone)) e v old new =
        subst Holds (sym (parted (grown s g))) (join p said stays (here j said others new))
      where
        stays : (i : ℕ) → (next s ≡ i → ⊥) → i < reach p s → Holds (said (grown s g) i)
        stays i n l =
            let sees = ap (λ q. said q i) (own_stays s g b.built i n) in
            subst Holds (sym (alone s i) ∙ sym sees ∙ alone (grown s g) i) (subst Holds (parted s) v i l)
    each_lasts (each_object j p said parted others more_words) e v old new =
        subst Holds (sym (parted (grown s g)))
        (join p said (λ i n l. old due i n l (subst Holds (parted s) v i l)) (here j said others new))
