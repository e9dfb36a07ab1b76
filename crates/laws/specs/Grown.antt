-- A session with one object more: the count and the words of the next handle are written, and nothing else. At that handle
-- nothing stood before.
use Rattle.std.specs.Prelude.{ℕ, ◌+◌, ◌≤◌, ◌<◌, ◌≡◌, refl, Bool, true, false, List, [], ◌∷◌, ◌⊎◌, T, eqb}
use Rattle.std.proofs.Common.{ap, sym, subst, ◌∙◌, inl, inr, arith, ne_eqb}
use Rattle.std.proofs.Math.Path.{fun_ext}
use Rattle.session.specs.Table.{Session, put, pick, same}
use Rattle.session.specs.TableLaws.{same_eq}
use Rattle.session.specs.declared.Field.{Field}
use Rattle.session.specs.declared.Field.TheVariants.{Objects, Kind}
use Rattle.session.specs.Names.{template, task, event, block, object_places}
use Rattle.rules.specs.Formula.{Formula, Holds, Formula.◌≐◌, Formula.◌and◌}
use Rattle.rules.specs.Reading.{at}
use Rattle.rules.specs.Sound.{no_slot}
use Rattle.laws.specs.Outside.{among, Outside, neither}
use Rattle.laws.specs.Parts.{kinds, template_parts, task_parts, event_parts, block_parts, free_slots}
use Rattle.laws.specs.Shape.{Sort, fields_of, object_fields, part, None, own}
use Rattle.laws.specs.Shape.Sort.{a_template, a_task, an_event, a_block}

-- the handle of the object that is made next
abbrev pub next : Session → ℕ
next s = s Objects 0 + 1

-- s with one object counted more, its objects' words being those of g
abbrev pub grown : Session → Session → Session
grown s g f i = pick (part f) (g f i) (pick (same Objects f) (pick (eqb 0 i) (next s) (s f i)) (s f i))

-- a session made from s by counting up to h and writing words of h
pub data Built (s : Session) (h : ℕ) : Session → Type 0 where
  counted : Built s h (put s Objects 0 h)
  written : (r : Session) (f : Field) (v : ℕ) → part f ≡ true → Built s h r → Built s h (put r f h v)

-- another place, or another field, than the one written
put_away : (s : Session) (f k : Field) (i j v : ℕ) → (i ≡ j → ⊥) → put s f i v k j ≡ s k j
unfolding put
put_away s f k i j v n = go (same f k)
  where
    go : (b : Bool) → pick b (pick (eqb i j) v (s k j)) (s k j) ≡ s k j
    go true = rw (ne_eqb i j n)
    go false = refl

put_beside : (s : Session) (f k : Field) (i j v : ℕ) → same f k ≡ false → put s f i v k j ≡ s k j
unfolding put
put_beside s f k i j v e = rw e

-- two fields of which only one is an object's
apart : (f k : Field) (b : Bool) → part f ≡ b → part k ≡ pick b false true → same f k ≡ false
apart f k b e d = go (same f k) refl b e d
  where
    differ : (b : Bool) → b ≡ pick b false true → ⊥
    differ true q = subst (λ (c : Bool). T c) q tt
    differ false q = subst (λ (c : Bool). T c) (sym q) tt

    go : (c : Bool) → same f k ≡ c → (b : Bool) → part f ≡ b → part k ≡ pick b false true → c ≡ false
    go false x b e d = refl
    go true x b e d = absurd (differ b (sym e ∙ ap part (same_eq f k (rw x tt)) ∙ d))

-- an object's words elsewhere are as they were
pub built_old : {s : Session} {h : ℕ} {g : Session} → Built s h g → (f : Field) → part f ≡ true → (i : ℕ) → (h ≡ i → ⊥) → g f i ≡ s f i
built_old {s = s} {h = h} counted f p i n = put_beside s Objects f 0 i h (apart Objects f false refl p)
built_old {h = h} (written r k v q b) f p i n = put_away r k f h i v n ∙ built_old b f p i n

-- fields that are no objects' words are as they were, but for the count
built_beside : {s : Session} {h : ℕ} {g : Session} → Built s h g → (f : Field) → part f ≡ false → (i : ℕ) → g f i ≡ put s Objects 0 h f i
built_beside counted f p i = refl
built_beside {h = h} (written r k v q b) f p i = put_beside r k f h i v (apart k f true q p) ∙ built_beside b f p i

pub built_grown : (s g : Session) → Built s (next s) g → grown s g ≡ g
unfolding put
built_grown s g b = fun_ext (λ f. fun_ext (λ i. go f i (part f) refl))
  where
    go : (f : Field) (i : ℕ) (c : Bool) → part f ≡ c → pick c (g f i) (put s Objects 0 (next s) f i) ≡ g f i
    go f i true e = refl
    go f i false e = sym (built_beside b f e i)

-- what is written: the count and objects' words
pub grown-writes : (s g : Session) → Outside s (grown s g) (Objects ∷ object_fields)
grown-writes s g =
    record { as_was = λ f e. let n = neither (same Objects f) (part f) e in fun_ext (λ i. rw (n.1, n.0) refl) }

-- what another object sees of the session is as it was
pub own_stays : (s g : Session) → Built s (next s) g → (i : ℕ) → (next s ≡ i → ⊥) → own i (grown s g) ≡ own i s
own_stays s g b i n = fun_ext (λ f. fun_ext (λ j. go f j (part f) refl (same Objects f)))
  where
    go : (f : Field) (j : ℕ) (c : Bool) → part f ≡ c → (d : Bool)
        → pick c (pick c (g f i) (pick d (pick (eqb 0 i) (next s) (s f i)) (s f i)))
        (pick d 0 (pick c (g f j) (pick d (pick (eqb 0 j) (next s) (s f j)) (s f j))))
        ≡ pick c (s f i) (pick d 0 (s f j))
    go f j true e d = built_old b f e i n
    go f j false e true = refl
    go f j false e false = refl

-- fields that are zero, as Sound says it, and by name
abbrev zeroes : Session → ℕ → List Field → Formula
zeroes s h [] = 0 ≐ 0
zeroes s h (f ∷ []) = s f h ≐ 0
zeroes s h (f ∷ g ∷ fs) = s f h ≐ 0 and zeroes s h (g ∷ fs)

either : (s : Session) (h : ℕ) (k f : Field) (b : Bool) → s k h ≡ 0 → (b ≡ true → s f h ≡ 0) → pick (same k f) true b ≡ true
    → s f h ≡ 0
either s h k f b z r e = go (same k f) refl e
  where
    go : (c : Bool) → same k f ≡ c → pick c true b ≡ true → s f h ≡ 0
    go true x e = rw (← same_eq k f (rw x tt)) z
    go false x e = r e

none : (s : Session) (h : ℕ) (fs : List Field) → Holds (zeroes s h fs) → None fs s h
none s h [] z f e = absurd (subst (λ (c : Bool). T c) (sym e) tt)
none s h (k ∷ []) z f e = either s h k f false z (none s h [] refl f) e
none s h (k ∷ l ∷ fs) z f e = either s h k f (among f (l ∷ fs)) z.0 (none s h (l ∷ fs) z.1 f) e

-- what stands at a handle that is not in use: nothing
pub record Blank (s : Session) (h : ℕ) : Type 0 where
  pub kind : s Kind h ≡ 0
  pub fields : (j : Sort) → None (fields_of j) s h
  pub slots : (j : ℕ) → j < 16 → Holds (no_slot s (at h j))

pub blank : (s : Session) → Holds (kinds s) → Holds (template_parts s) → Holds (task_parts s) → Holds (event_parts s)
    → Holds (block_parts s) → Holds (free_slots s) → (h : ℕ) → s Objects 0 < h → h < object_places → Blank s h
blank s k m t e b f h past low = record { kind = no_kind; fields = zero; slots = f h low past }
  where
    no_kind : s Kind h ≡ 0
    no_kind = k.1.1 h low past

    -- the object is of the kind, or the fields are zero
    other : (j : ℕ) → 1 ≤ j → {A B : Type 0} → ((s Kind h ≡ j) × A) ⊎ ((s Kind h ≡ j → ⊥) × B) → B
    other j l (inl x) = let z = no_kind in let q = x.0 in absurd (omega arith)
    other j l (inr x) = x.1

    zero : (j : Sort) → None (fields_of j) s h
    zero a_template = none s h (fields_of a_template) (other template (omega arith) (m h low))
    zero a_task = none s h (fields_of a_task) (other task (omega arith) (t h low))
    zero an_event = none s h (fields_of an_event) (other event (omega arith) (e h low))
    zero a_block = none s h (fields_of a_block) (other block (omega arith) (b h low))
