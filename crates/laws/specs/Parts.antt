-- What the rules `objects` and `unused` of Sound say, taken together and parted by what they read: the fields of each kind,
-- made or not, the kinds themselves, and the slots and links past the counts.
use Rattle.std.specs.Prelude.{ℕ, suc, ◌+◌, ◌<◌}
use Rattle.std.proofs.Math.Decide.{dec_lt}
use Rattle.std.proofs.Common.{arith}
use Rattle.session.specs.Names.{object_places, link_places}
use Rattle.session.specs.Table.{Session}
use Rattle.session.specs.declared.Field.TheVariants.{Objects, Links, Kind}
use Rattle.rules.specs.Formula.{Formula, Holds, Formula.◌≐◌, Formula.◌≼◌, Formula.◌and◌, Formula.◌then◌, Formula.each}
use Rattle.rules.specs.Reading.{at}
use Rattle.rules.specs.Sound.{counts, template_part, task_part, event_part, block_part, no_slot, no_link, objects, unused}

module _ (s : Session) where
  abbrev pub kinds : Formula
  kinds =
      s Kind 0 ≐ 0 and each (s Objects 0 + 1) (λ h. 1 ≼ h then 1 ≼ s Kind h and s Kind h ≼ 4)
      and each object_places (λ h. suc (s Objects 0) ≼ h then s Kind h ≐ 0)

  abbrev pub template_parts : Formula
  template_parts = each object_places (template_part s)

  abbrev pub task_parts : Formula
  task_parts = each object_places (task_part s)

  abbrev pub event_parts : Formula
  event_parts = each object_places (event_part s)

  abbrev pub block_parts : Formula
  block_parts = each object_places (block_part s)

  abbrev pub free_slots : Formula
  free_slots = each object_places (λ h. suc (s Objects 0) ≼ h then each 16 (λ j. no_slot s (at h j)))

  abbrev pub free_links : Formula
  free_links = no_link s 0 and each link_places (λ l. suc (s Links 0) ≼ l then no_link s l)

  -- the part of a task at an object made
  pub made-task_part : Holds (objects s) → (h : ℕ) → h < s Objects 0 + 1 → Holds (task_part s h)
  made-task_part o h l = (o.1 h l).1.1.0

  -- a part of every object, from those of the objects made and those of the places past them
  everywhere : (part : ℕ → Formula) → ((h : ℕ) → h < s Objects 0 + 1 → Holds (part h))
      → ((h : ℕ) → h < object_places → s Objects 0 < h → Holds (part h)) → Holds (each object_places part)
  everywhere part made past h l = go (dec_lt h (s Objects 0 + 1))
    where
      go : Dec (h < s Objects 0 + 1) → Holds (part h)
      go (yes m) = made h m
      go (no m) = past h l (omega arith)

  module _ (o : Holds (objects s)) (u : Holds (unused s)) where
    pub kinds_of : Holds kinds
    kinds_of = (o.0, ((λ h l. (o.1 h l).0), λ h l g. (u.1.0 h l g).0))

    pub template_parts_of : Holds template_parts
    template_parts_of = everywhere (template_part s) (λ h l. (o.1 h l).1.0) (λ h l g. (u.1.0 h l g).1.0)

    pub task_parts_of : Holds task_parts
    task_parts_of = everywhere (task_part s) (made-task_part o) (λ h l g. (u.1.0 h l g).1.1.0)

    pub event_parts_of : Holds event_parts
    event_parts_of = everywhere (event_part s) (λ h l. (o.1 h l).1.1.1.0) (λ h l g. (u.1.0 h l g).1.1.1.0)

    pub block_parts_of : Holds block_parts
    block_parts_of = everywhere (block_part s) (λ h l. (o.1 h l).1.1.1.1) (λ h l g. (u.1.0 h l g).1.1.1.1.0)

    pub free_slots_of : Holds free_slots
    free_slots_of = λ h l g. (u.1.0 h l g).1.1.1.1.1

    pub free_links_of : Holds free_links
    free_links_of = (u.0, u.1.1)

  module _ (c : Holds (counts s)) (k : Holds kinds) (m : Holds template_parts) (t : Holds task_parts) (e : Holds event_parts)
      (b : Holds block_parts) where
    pub objects-from : Holds (objects s)
    objects-from =
        (k.0, λ h l. let a : h < object_places = omega arith in (k.1.0 h l, (m h a, (t h a, (e h a, b h a)))))

    pub unused-from : Holds free_slots → Holds free_links → Holds (unused s)
    unused-from f g =
        (g.0, ((λ h l p. (k.1.1 h l p, (m h l, (t h l, (e h l, (b h l, f h l p)))))), g.1))
