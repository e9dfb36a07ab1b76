-- What no call undoes, field by field: numbers that only grow, places that are written once, states that are never left.
use Rattle.std.specs.Prelude.{ℕ, ◌≤◌, ◌≡◌, refl, Bool, true, false, List, [], ◌∷◌, ◌⊎◌}
use Rattle.std.proofs.Common.{sym, subst, ◌∙◌, inl, inr, arith}
use Rattle.session.specs.Table.{Session, put, change, same, pick}
use Rattle.session.specs.TableLaws.{same_eq}
use Rattle.session.specs.declared.Field.{Field}
use Rattle.session.specs.declared.Field.TheVariants.{Objects, Links, Dropped, Kind, TemplateState, TemplateCount, TaskState}
use Rattle.session.specs.declared.Field.TheVariants.{TaskCreator, TaskSlots, TaskFinish, TaskOutput, EventState, EventType}
use Rattle.session.specs.declared.Field.TheVariants.{EventPayload, EventCount, BlockState, BlockCreator, BlockHeld, SlotMode}
use Rattle.session.specs.declared.Field.TheVariants.{SlotMark, SlotPayload, LinkSource, LinkTarget, LinkSlot, LinkState}
use Rattle.session.specs.Names.{fired, destroyed_unfired, destroyed_fired, ready, delivered, cut}
use Rattle.laws.specs.Outside.{among}
use Rattle.laws.specs.Places.{Places, places, Places.one, Places.two, put-here, put_there, change-here}

-- the states of an event that has fired
abbrev pub HadFired : ℕ → Type 0
HadFired n = (n ≡ fired) ⊎ (n ≡ destroyed_fired)

-- How the places of a field last: anything goes, the number grows, at an object it is the same, grows or falls, at a link it is
-- the same; and six fields that have a rule of their own.
pub data Way : Type 0 where
  any : Way
  grows : Way
  object_same : Way
  object_grows : Way
  object_falls : Way
  link_same : Way
  slot_mode : Way
  slot_mark : Way
  slot_payload : Way
  event_state : Way
  event_payload : Way
  link_state : Way

abbrev pub ways : List (Way × List Field)
ways =
    (grows, Objects ∷ Links ∷ Dropped ∷ [])
    ∷ (
      object_same,
      Kind ∷ TemplateCount ∷ TaskCreator ∷ TaskSlots ∷ TaskFinish ∷ TaskOutput ∷ EventType ∷ EventCount
          ∷ BlockCreator ∷ [],
    )
    ∷ (object_grows, TemplateState ∷ TaskState ∷ BlockState ∷ [])
    ∷ (object_falls, BlockHeld ∷ [])
    ∷ (link_same, LinkSource ∷ LinkTarget ∷ LinkSlot ∷ [])
    ∷ (slot_mode, SlotMode ∷ [])
    ∷ (slot_mark, SlotMark ∷ [])
    ∷ (slot_payload, SlotPayload ∷ [])
    ∷ (event_state, EventState ∷ [])
    ∷ (event_payload, EventPayload ∷ [])
    ∷ (link_state, LinkState ∷ [])
    ∷ []

-- of a field in none of the lists anything goes
abbrev pub way_in : List (Way × List Field) → Field → Way
way_in [] f = any
way_in (w ∷ ws) f = pick (among f w.1) w.0 (way_in ws f)

-- what a session s lets place i go to from a: b
abbrev pub Goes : Session → Way → ℕ → ℕ → ℕ → Type 0
Goes s any i a b = Unit {0}
Goes s grows i a b = a ≤ b
Goes s object_same i a b = i ≤ s Objects 0 → b ≡ a
Goes s object_grows i a b = i ≤ s Objects 0 → a ≤ b
Goes s object_falls i a b = i ≤ s Objects 0 → b ≤ a
Goes s link_same i a b = i ≤ s Links 0 → b ≡ a
Goes s slot_mode i a b = 1 ≤ a → b ≡ a
Goes s slot_mark i a b = 1 ≤ a → 1 ≤ b
Goes s slot_payload i a b = 1 ≤ s SlotMark i → b ≡ a
Goes s event_state i a b = i ≤ s Objects 0 → (HadFired a → HadFired b) × (a ≡ destroyed_unfired → b ≡ destroyed_unfired)
Goes s event_payload i a b = i ≤ s Objects 0 → HadFired (s EventState i) → b ≡ a
Goes s link_state i a b =
    i ≤ s Links 0 → (a ≡ delivered → b ≡ delivered) × (a ≡ cut → b ≡ cut) × (a ≡ ready → (b ≡ ready) ⊎ (b ≡ delivered))

abbrev pub Lasts : Session → Field → ℕ → ℕ → ℕ → Type 0
Lasts s f i a b = Goes s (way_in ways f) i a b

-- r has all that s has for good
pub record Later (s r : Session) : Type 0 where
  pub lasts : (f : Field) (i : ℕ) → Lasts s f i (s f i) (r f i)

pub later_same : (s : Session) → Later s s
later_same s = record { lasts = λ f i. go (way_in ways f) i (s f i) }
  where
    go : (w : Way) (i a : ℕ) → Goes s w i a a
    go any i a = tt
    go grows i a = omega arith
    go object_same i a = λ l. refl
    go object_grows i a = λ l. omega arith
    go object_falls i a = λ l. omega arith
    go link_same i a = λ l. refl
    go slot_mode i a = λ l. refl
    go slot_mark i a = λ l. l
    go slot_payload i a = λ l. refl
    go event_state i a = λ l. (λ x. x, λ x. x)
    go event_payload i a = λ l h. refl
    go link_state i a = λ l. (λ x. x, λ x. x, λ x. inl x)

-- a place that was written
pub later_put : {s r : Session} (f : Field) (i v : ℕ) → Later s r → Lasts s f i (s f i) v → Later s (put r f i v)
unfolding put
later_put {s} {r} f i v x y = record { lasts = λ g j. go g j (same f g) refl (places i j) }
  where
    here : (j : ℕ) → Places i j → Lasts s f j (s f j) (put r f i v f j)
    here j (one e) =
        subst (λ (k : ℕ). Lasts s f k (s f k) (put r f i v f k)) e
        (subst (λ (w : ℕ). Lasts s f i (s f i) w) (sym (put-here r f i i v refl)) y)
    here j (two n) = subst (λ (w : ℕ). Lasts s f j (s f j) w) (sym (put_there r f i j v n)) (x.lasts f j)

    go : (g : Field) (j : ℕ) (b : Bool) → same f g ≡ b → Places i j → Lasts s g j (s g j) (put r f i v g j)
    go g j true e p = subst (λ (g : Field). Lasts s g j (s g j) (put r f i v g j)) (same_eq f g (rw e tt)) (here j p)
    go g j false e p = rw e (x.lasts g j)

-- a field that was changed
pub later_change : {s r : Session} (f : Field) (new : ℕ → ℕ) → Later s r → ((i : ℕ) → Lasts s f i (s f i) (new i))
    → Later s (change r f new)
unfolding change
later_change {s} {r} f new x y = record { lasts = λ g j. go g j (same f g) refl }
  where
    go : (g : Field) (j : ℕ) (b : Bool) → same f g ≡ b → Lasts s g j (s g j) (change r f new g j)
    go g j true e =
        subst (λ (g : Field). Lasts s g j (s g j) (change r f new g j)) (same_eq f g (rw e tt))
        (subst (λ (w : ℕ). Lasts s f j (s f j) w) (sym (change-here r f new j)) (y j))
    go g j false e = rw e (x.lasts g j)

-- one session after another
pub later_then : {s r q : Session} → Later s r → Later r q → Later s q
later_then {s} {r} {q} x y =
    record { lasts = λ f i. go (way_in ways f) i (s f i) (r f i) (q f i) (x.lasts f i) (y.lasts f i) }
  where
    objects : (i : ℕ) → i ≤ s Objects 0 → i ≤ r Objects 0
    objects i l = let m = x.lasts Objects 0 in omega arith

    links : (i : ℕ) → i ≤ s Links 0 → i ≤ r Links 0
    links i l = let m = x.lasts Links 0 in omega arith

    go : (w : Way) (i a b c : ℕ) → Goes s w i a b → Goes r w i b c → Goes s w i a c
    go any i a b c u v = tt
    go grows i a b c u v = omega arith
    go object_same i a b c u v = λ l. v (objects i l) ∙ u l
    go object_grows i a b c u v = λ l. let m = u l in let n = v (objects i l) in omega arith
    go object_falls i a b c u v = λ l. let m = u l in let n = v (objects i l) in omega arith
    go link_same i a b c u v = λ l. v (links i l) ∙ u l
    go slot_mode i a b c u v = λ h. let e = u h in v (omega arith) ∙ e
    go slot_mark i a b c u v = λ h. v (u h)
    go slot_payload i a b c u v = λ h. v (x.lasts SlotMark i h) ∙ u h
    go event_state i a b c u v = λ l. let m = u l in let n = v (objects i l) in (λ h. n.0 (m.0 h), λ h. n.1 (m.1 h))
    go event_payload i a b c u v = λ l h. v (objects i l) ((x.lasts EventState i l).0 h) ∙ u l h
    go link_state i a b c u v =
        λ l. let m = u l in let n = v (links i l) in (λ e. n.0 (m.0 e), λ e. n.1 (m.1 e), λ e. on (m.2 e) n.2 n.0)
      where
        on : (b ≡ ready) ⊎ (b ≡ delivered) → (b ≡ ready → (c ≡ ready) ⊎ (c ≡ delivered)) → (b ≡ delivered → c ≡ delivered)
            → (c ≡ ready) ⊎ (c ≡ delivered)
        on (inl e) f g = f e
        on (inr e) f g = inr (g e)
