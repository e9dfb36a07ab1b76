-- A sound session is tidy: its memory has zeros past its objects and links, so that it can be renewed.
use Rattle.std.specs.Prelude.{ℕ, ◌+◌, ◌*◌, ◌/◌, ◌%◌, ◌≤◌, ◌<◌, ◌≡◌, refl, Bool, true, false, List, [], ◌∷◌, ◌++◌}
use Rattle.std.proofs.Common.{sym, subst, arith}
use Rattle.std.proofs.Math.Decide.{dec_lt}
use Rattle.session.specs.Names.{object_places, slot_places, link_places}
use Rattle.session.specs.Table.{Session, Class, class, places_of, fields, read, size, pick, same}
use Rattle.session.specs.Table.Class.{always, per_handle, per_slot, per_link}
use Rattle.session.specs.TableLaws.{Each, Each.◌also◌, Each.done, of_class, at_field, same_refl, read_past}
use Rattle.session.specs.Renew.{Tidy, used}
use Rattle.session.specs.RenewLaws.{more_places}
use Rattle.session.specs.declared.Field.{Field}
use Rattle.session.specs.declared.Field.TheVariants.{Objects, Links, EventState, EventType, EventPayload, EventTally, EventCount}
use Rattle.rules.specs.Formula.{Holds}
use Rattle.rules.specs.Sound.{sound, no_slot, no_link}
use Rattle.laws.specs.SlotPlaces.{place_split, place_low}
use Rattle.laws.specs.Shape.{Sort, None, fields_of}
use Rattle.laws.specs.Shape.Sort.{a_template, a_task, an_event, a_block}
use Rattle.laws.specs.Rows.Name.{counts, kinds, template_parts, task_parts, event_parts, block_parts, free_slots, free_links}
use Rattle.laws.specs.Keeping.{Sound}
use Rattle.laws.specs.ByName.{sound_by_name}
use Rattle.laws.specs.Conjuncts.{no_link_lem}
use Rattle.laws.specs.Grown.{Blank, blank}

-- what is said of each of some fields, and of each of some others
joined : {p : Field → Type 0} {fs gs : List Field} → Each p fs → Each p gs → Each p (fs ++ gs)
joined done r = r
joined (a also l) r = a also joined l r

-- fields in which an object has nothing, one by one
nothing : (s : Session) (h : ℕ) (fs : List Field) → None fs s h → Each (λ f. s f h ≡ 0) fs
nothing s h [] n = done
nothing s h (f ∷ fs) n = n f (rw (same_refl f) refl) also nothing s h fs (λ g e. n g (rw e (either (same f g))))
  where
    either : (b : Bool) → pick b true true ≡ true
    either true = refl
    either false = refl

module _ (s : Session) (r : Sound s) where
  past_handle : (i : ℕ) → s Objects 0 + 1 ≤ i → i < object_places → Blank s i
  past_handle i h =
      blank s (r kinds) (r template_parts) (r task_parts) (r event_parts) (r block_parts) (r free_slots) i (omega arith)

  past_slot : (i : ℕ) → 16 * (s Objects 0 + 1) ≤ i → i < slot_places → Holds (no_slot s i)
  past_slot i h l =
      let p = past_handle (i / 16) (omega arith) (omega arith) in
      subst (λ (k : ℕ). Holds (no_slot s k)) (sym (place_split i)) (p.slots (i % 16) (place_low i))

  past_link : (i : ℕ) → s Links 0 + 1 ≤ i → i < link_places → Holds (no_link s i)
  past_link i h l = (r free_links).1 i l (omega arith)

  -- at the places past the used ones nothing stands: of each class the fields in their order
  handles_past : (i : ℕ) → s Objects 0 + 1 ≤ i → i < object_places → Each (λ f. s f i ≡ 0) (of_class per_handle fields)
  handles_past i h l =
      let b = past_handle i h l in
      let none : (k : Sort) → Each (λ f. s f i ≡ 0) (fields_of k) = λ k. nothing s i (fields_of k) (b.fields k) in
      let e = b.fields an_event in
      b.kind also joined (none a_template) (joined (none a_task)
      (e EventState refl also e EventType refl also e EventPayload refl also e EventTally refl also joined (none a_block)
      (e EventCount refl also done)))

  slots_past : (i : ℕ) → 16 * (s Objects 0 + 1) ≤ i → i < slot_places → Each (λ f. s f i ≡ 0) (of_class per_slot fields)
  slots_past i h l = let n = past_slot i h l in n.0 also n.1.0 also n.1.1 also done

  links_past : (i : ℕ) → s Links 0 + 1 ≤ i → i < link_places → Each (λ f. s f i ≡ 0) (of_class per_link fields)
  links_past i h l =
      let n = no_link_lem s i (past_link i h l) in n.no_source also n.no_target also n.no_slot_lem also n.no_state also done

  past_used : (f : Field) (i : ℕ) → used s f ≤ i → i < size f → s f i ≡ 0
  past_used f i = go (class f) refl
    where
      go : (c : Class) → class f ≡ c → places_of (s Objects 0 + 1) (s Links 0 + 1) c ≤ i → i < places_of object_places link_places c
          → s f i ≡ 0
      go (always n) e h l = absurd (omega arith)
      go per_handle e h l = at_field per_handle (handles_past i h l) f (rw e refl)
      go per_slot e h l = at_field per_slot (slots_past i h l) f (rw e refl)
      go per_link e h l = at_field per_link (links_past i h l) f (rw e refl)

pub sound_tidy : (ws : List ℕ) → Holds (sound (read ws)) → Tidy (read ws)
unfolding Tidy
sound_tidy ws h f =
    (more_places (omega (arith, (r counts).1.0)) (omega (arith, (r counts).1.1)) (class f), λ i l. go i l (dec_lt i (size f)))
  where
    r : Sound (read ws)
    r = sound_by_name (read ws) h

    go : (i : ℕ) → used (read ws) f ≤ i → Dec (i < size f) → read ws f i ≡ 0
    go i l (yes m) = past_used (read ws) r f i l m
    go i l (no n) = read_past ws f i (omega arith)
