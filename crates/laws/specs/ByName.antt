-- The formulas `kept` and `sound` and the rules by name say the same. Here and in Parts alone a rule is found by its place.
use Rattle.std.specs.Prelude.{[], ◌∷◌}
use Rattle.session.specs.Table.{Session}
use Rattle.rules.specs.Formula.{Holds}
use Rattle.rules.specs.Sound as rule
use Rattle.rules.specs.Sound.{kept, sound, sound_used}
use Rattle.laws.specs.Parts.{kinds_of, template_parts_of, task_parts_of, event_parts_of, block_parts_of, free_slots_of}
use Rattle.laws.specs.Parts.{free_links_of, objects-from, unused-from}
use Rattle.laws.specs.Frame.{Shown.due}
use Rattle.laws.specs.Rows.{Name, says}
use Rattle.laws.specs.Rows.Name.{counts, kinds, template_parts, task_parts, event_parts, block_parts, roots, creators}
use Rattle.laws.specs.Rows.Name.{outputs, slots, links, one_link, states, blocks, compatible, latches, counted_events}
use Rattle.laws.specs.Rows.Name.{dropped, free_slots, free_links, settled}
use Rattle.laws.specs.Keeping.{but, all, Excepted, Kept, Sound}

-- the rules of `sound` by their names in Sound
pub record Rules (s : Session) : Type 0 where
  pub counts : Holds (rule.counts s)
  pub objects : Holds (rule.objects s)
  pub roots : Holds (rule.roots s)
  pub creators : Holds (rule.creators s)
  pub outputs : Holds (rule.outputs s)
  pub slots : Holds (rule.slots s)
  pub links : Holds (rule.links s)
  pub one_link : Holds (rule.one_link s)
  pub states : Holds (rule.states s)
  pub blocks : Holds (rule.blocks s)
  pub compatible : Holds (rule.compatible s)
  pub latches : Holds (rule.latches s)
  pub counted_events : Holds (rule.counted_events s)
  pub dropped : Holds (rule.dropped s)
  pub unused : Holds (rule.unused s)

pub rules_of : (s : Session) → Holds (sound s) → Rules s
unfolding sound sound_used
rules_of s h = search

-- what a conjunction says, part by part
infixr 5 ◌&◌
abbrev pub ◌&◌ : {A B : Type 0} → A → B → A × B
a & b = (a, b)

pub sound-from : (s : Session) → Rules s → Holds (sound s)
unfolding sound sound_used
sound-from s r = (
  r.counts & r.objects & r.roots & r.creators & r.outputs & r.slots & r.links & r.one_link
      & r.states & r.blocks & r.compatible & r.latches & r.counted_events & r.dropped,
  r.unused,
)

pub sound_by_name : (s : Session) → Holds (sound s) → Sound s
sound_by_name s h = named (rules_of s h)
  where
    named : Rules s → Sound s
    named r counts = r.counts
    named r kinds = kinds_of s r.objects r.unused
    named r template_parts = template_parts_of s r.objects r.unused
    named r task_parts = task_parts_of s r.objects r.unused
    named r event_parts = event_parts_of s r.objects r.unused
    named r block_parts = block_parts_of s r.objects r.unused
    named r roots = r.roots
    named r creators = r.creators
    named r outputs = r.outputs
    named r slots = r.slots
    named r links = r.links
    named r one_link = r.one_link
    named r states = r.states
    named r blocks = r.blocks
    named r compatible = r.compatible
    named r latches = r.latches
    named r counted_events = r.counted_events
    named r dropped = r.dropped
    named r free_slots = free_slots_of s r.objects r.unused
    named r free_links = free_links_of s r.objects r.unused
    named r settled = tt

pub sound_of : (s : Session) → Sound s → Holds (sound s)
sound_of s h =
    sound-from s (record {
      counts = h counts;
      objects = objects-from s (h counts) (h kinds) (h template_parts) (h task_parts) (h event_parts) (h block_parts);
      roots = h roots;
      creators = h creators;
      outputs = h outputs;
      slots = h slots;
      links = h links;
      one_link = h one_link;
      states = h states;
      blocks = h blocks;
      compatible = h compatible;
      latches = h latches;
      counted_events = h counted_events;
      dropped = h dropped;
      unused =
          unused-from s (h counts) (h kinds) (h template_parts) (h task_parts) (h event_parts) (h block_parts)
          (h free_slots) (h free_links);
    })

pub by_name : (s : Session) → Holds (kept s) → Kept s
unfolding kept
by_name s h = all (settled ∷ []) (sound_by_name s h.0) again
  where
    again : (n : Name) → Excepted (settled ∷ []) n → Holds (says n s)
    again settled due = h.1
    again counts x' = elim x' [ ]
    again kinds x'' = elim x'' [ ]
    again template_parts x3 = elim x3 [ ]
    again task_parts x4 = elim x4 [ ]
    again event_parts x5 = elim x5 [ ]
    again block_parts x6 = elim x6 [ ]
    again roots x7 = elim x7 [ ]
    again creators x8 = elim x8 [ ]
    again outputs x9 = elim x9 [ ]
    again slots x10 = elim x10 [ ]
    again links x11 = elim x11 [ ]
    again one_link x12 = elim x12 [ ]
    again states x13 = elim x13 [ ]
    again blocks x14 = elim x14 [ ]
    again compatible x15 = elim x15 [ ]
    again latches x16 = elim x16 [ ]
    again counted_events x17 = elim x17 [ ]
    again dropped x18 = elim x18 [ ]
    again free_slots x19 = elim x19 [ ]
    again free_links x20 = elim x20 [ ]

pub kept_of : (s : Session) → Kept s → Holds (kept s)
unfolding kept
kept_of s h = (sound_of s (but (settled ∷ []) h), h settled)

-- from the rules on what there is, taken as one formula: a session that is given can be tested by it
pub kept_from_used : (s : Session) → Holds (sound_used s) → Holds (rule.unused s) → Holds (rule.settled s) → Holds (kept s)
unfolding kept sound
kept_from_used s used past set = ((used, past), set)

-- a kept session is sound, and a sound one kept where it is settled
pub kept-sound : (s : Session) → Holds (kept s) → Holds (sound s)
unfolding kept
kept-sound s k = k.0

pub kept_from : (s : Session) → Holds (sound s) → Holds (rule.settled s) → Holds (kept s)
unfolding kept
kept_from s h x = (h, x)
