-- What a sound session says of its places past the counts and of open events, in a form that lasts while an operation is under
-- way: the fields that it speaks of are not written, or are written so that it still holds.
use Prim.Native.Nat.{ℕ, ◌≤◌, ◌<◌}
use Rattle.std.specs.Prelude.{◌≡◌, List, ◌⊎◌}
use Rattle.std.proofs.Math.Path.{sym}
use Rattle.std.proofs.Common.{◌∙◌, inl, inr, arith}
use Rattle.std.proofs.Math.Decide.{dec_lt}
use Rattle.session.specs.Table.{Session, put, change, read}
use Rattle.session.specs.declared.Field.TheVariants.{Objects, Links, Kind, TaskState, TaskCreator, EventState, EventPayload}
use Rattle.session.specs.declared.Field.TheVariants.{LinkSource, LinkState}
use Rattle.session.specs.Names.{task, task_destroyed, event, event_open, fired, destroyed_unfired, destroyed_fired, link_open, ready, cut}
use Rattle.session.specs.Names.{most_objects, most_links}
use Rattle.rules.specs.Formula.{Formula, Holds, choose, Formula.◌≐◌, Formula.◌and◌}
use Rattle.rules.specs.FormulaLaws.{Case, decide, choose_yes, choose_no, Case.it_does, Case.it_does_not}
use Rattle.rules.specs.Effects.{let_go, bury_doomed, fire, fire_one, destroy_event}
use Rattle.rules.specs.Sound.{sound, creator, is_link, task_part}
use Rattle.laws.specs.Places.{Places, places, put-here, put_there, Places.one, Places.two}
use Rattle.laws.specs.Rows.Name.{counts, kinds, task_parts, event_parts, roots, creators, links, free_links}
use Rattle.laws.specs.Keeping.{Sound}
use Rattle.laws.specs.ByName.{sound_by_name}
use Rattle.laws.specs.Conjuncts.{roots_by_name, event_by_name, task_by_name, Root.main_creator, Event.paid, Task.state_high}
use Rattle.laws.specs.Under.{creators_fall}
use Rattle.effects.specs.OpenLinks.{NoMoreLinks}
use Rattle.effects.specs.Ready.{no_more_links}
use Rattle.holding.specs.SoundHolds.{unmade}

-- the counts, kinds, creators and links' sources: no operation here writes them
pub record Frame (objects links : ℕ) (kind creator source : ℕ → ℕ) : Type 0 where
  pub few : objects ≤ most_objects
  pub few_links : links ≤ most_links
  pub falls : (h : ℕ) → h ≤ objects → 1 ≤ creator h → creator h < h
  pub makers : (h : ℕ) → h ≤ objects → 1 ≤ creator h → kind (creator h) ≡ task
  pub tasks : (h : ℕ) → h ≤ objects → 1 ≤ creator h → kind h ≡ task
  pub null : kind 0 ≡ 0
  pub unmade : (h : ℕ) → objects < h → kind h ≡ 0
  pub sources : (l : ℕ) → l ≤ links → source l ≤ most_objects

abbrev pub FrameOf : Session → Type 0
FrameOf s = Frame (s Objects 0) (s Links 0) (s Kind) (s TaskCreator) (s LinkSource)

-- an open event has no payload
abbrev pub OpenEmpty : Session → Type 0
OpenEmpty s = (e : ℕ) → s Kind e ≡ event → s EventState e ≡ event_open → s EventPayload e ≡ 0

-- every state of a task is destroyed or an earlier one
abbrev pub StatesLow : Session → Type 0
StatesLow s = (h : ℕ) → h ≤ s Objects 0 → s TaskState h ≤ task_destroyed

pub record Tidy (s : Session) : Type 0 where
  pub frame : FrameOf s
  pub no_more : NoMoreLinks s
  pub open_empty : OpenEmpty s
  pub states : StatesLow s

module _ (ws : List ℕ) (good : Holds (sound (read ws))) where
  abbrev s : Session
  s = read ws

  r : Sound (read ws)
  r = sound_by_name (read ws) good

  source_made : (l : ℕ) → l ≤ s Links 0 → s LinkSource l ≤ most_objects
  source_made l h = go (r links l (omega arith))
    where
      go : (l ≡ 0) ⊎ Holds (is_link s l) → s LinkSource l ≤ most_objects
      go (inl e) = let z : s LinkSource l ≡ 0 = rw e (r free_links).0.0 in omega arith
      go (inr x) = let m = x.0.1 in let c = (r counts).1.0 in omega arith

  -- a creator is a task
  maker : (h : ℕ) → h ≤ s Objects 0 → 1 ≤ s TaskCreator h → s Kind (s TaskCreator h) ≡ task
  maker h l m = go (r task_parts h (omega (arith, (r counts).1.0)))
    where
      higher : Holds (creator s h) → s Kind (s TaskCreator h) ≡ task
      higher (inl e) = let z : s TaskCreator h ≡ 0 = rw e (roots_by_name s (r roots) main_creator) in absurd (omega arith)
      higher (inr (there, (lower, (is_task, started)))) = is_task

      go : Holds (task_part s h) → s Kind (s TaskCreator h) ≡ task
      go (inl x) = higher (r creators h (omega arith) x.0)
      go (inr (other, (no_state, (no_creator, rest)))) = absurd (omega arith)

  -- who has a creator is a task
  made-task : (h : ℕ) → h ≤ s Objects 0 → 1 ≤ s TaskCreator h → s Kind h ≡ task
  made-task h l m = go (r task_parts h (omega (arith, (r counts).1.0)))
    where
      go : Holds (task_part s h) → s Kind h ≡ task
      go (inl x) = x.0
      go (inr (other, (no_state, (no_creator, rest)))) = absurd (omega arith)

  states_low : StatesLow s
  states_low h l = go (r task_parts h (omega (arith, (r counts).1.0)))
    where
      go : Holds (task_part s h) → s TaskState h ≤ task_destroyed
      go (inl x) = task_by_name h s x.0 (inl x) state_high
      go (inr (other, (no_state, rest))) = omega arith

  open_empty : OpenEmpty s
  open_empty e k o = go (dec_lt (s Objects 0) e)
    where
      none : (s EventState e ≡ fired) ⊎ ((s EventState e ≡ destroyed_fired) ⊎ (s EventPayload e ≡ 0)) → s EventPayload e ≡ 0
      none (inl q) = absurd (omega arith)
      none (inr (inl q)) = absurd (omega arith)
      none (inr (inr q)) = q

      go : Dec (s Objects 0 < e) → s EventPayload e ≡ 0
      go (yes l) = let z = unmade ws good e l in absurd (omega arith)
      go (no n) = none (event_by_name e s k (r event_parts e (omega (arith, (r counts).1.0))) paid)

  pub tidy : Tidy s
  tidy =
      record {
        frame = record {
          few = (r counts).1.0;
          few_links = (r counts).1.1;
          falls = creators_fall s (r counts).1.0 (r task_parts) (r roots) (r creators);
          makers = maker;
          tasks = made-task;
          null = (r kinds).0;
          unmade = unmade ws good;
          sources = source_made;
        };
        no_more = no_more_links ws good;
        open_empty = open_empty;
        states = states_low;
      }

-- what an operation leaves tidy
module _ (s : Session) (x : Tidy s) where
  pub tidy_state : (t v : ℕ) → v ≤ task_destroyed → Tidy (put s TaskState t v)
  unfolding put
  tidy_state t v low = record { frame = x.frame; no_more = x.no_more; open_empty = x.open_empty; states = λ h l. after h l (places t h) }
    where
      after : (h : ℕ) → h ≤ s Objects 0 → Places t h → put s TaskState t v TaskState h ≤ task_destroyed
      after h l (one q) = rw (put-here s TaskState t h v q) low
      after h l (two n) = rw (put_there s TaskState t h v n) (x.states h l)

  pub tidy_let_go : (t : ℕ) (which : ℕ → Formula) → Tidy (let_go s t which)
  unfolding let_go bury_doomed change
  tidy_let_go t which = record { frame = x.frame; no_more = x.no_more; open_empty = x.open_empty; states = x.states }

  tidy_links : (f : ℕ → Formula) (v : ℕ) → ((l : ℕ) → Holds (f l) → s LinkState l ≡ link_open) → (l : ℕ) → s Links 0 < l
      → choose (f l) v (s LinkState l) ≡ 0
  tidy_links f v opened l h = go (x.no_more l h)
    where
      go : s LinkState l ≡ 0 → choose (f l) v (s LinkState l) ≡ 0
      go z = choose_no (f l) v (s LinkState l) (λ y. let o = opened l y in omega arith) ∙ z

  pub tidy_fire_one : (e p : ℕ) → Tidy (fire_one s e p)
  unfolding fire_one fire change
  tidy_fire_one e p =
      record {
        frame = x.frame;
        no_more = tidy_links (λ l. (s LinkState l ≐ link_open) and (s LinkSource l ≐ e)) ready (λ l y. y.0);
        open_empty = λ k kind o. after k kind o (decide (k ≐ e));
        states = x.states;
      }
    where
      after : (k : ℕ) → s Kind k ≡ event → choose (k ≐ e) fired (s EventState k) ≡ event_open → Case (k ≐ e)
          → choose (k ≐ e) p (s EventPayload k) ≡ 0
      after k kind o (it_does q) =
          let z : fired ≡ event_open = sym (choose_yes (k ≐ e) fired (s EventState k) q) ∙ o in absurd (omega arith)
      after k kind o (it_does_not n) =
          choose_no (k ≐ e) p (s EventPayload k) n ∙ x.open_empty k kind (sym (choose_no (k ≐ e) fired (s EventState k) n) ∙ o)

  pub tidy_destroy_event : (e : ℕ) → Tidy (destroy_event s e)
  unfolding destroy_event change put
  tidy_destroy_event e =
      record {
        frame = x.frame;
        no_more = tidy_links (λ l. (s LinkSource l ≐ e) and (s LinkState l ≐ link_open)) cut (λ l y. y.1);
        open_empty = λ k kind o. after k kind o (places e k);
        states = x.states;
      }
    where
      v : ℕ
      v = choose (s EventState e ≐ fired) destroyed_fired destroyed_unfired

      late : Case (s EventState e ≐ fired) → destroyed_unfired ≤ v
      late (it_does q) =
          let z : v ≡ destroyed_fired = choose_yes (s EventState e ≐ fired) destroyed_fired destroyed_unfired q in omega arith
      late (it_does_not n) =
          let z : v ≡ destroyed_unfired = choose_no (s EventState e ≐ fired) destroyed_fired destroyed_unfired n in omega arith

      after : (k : ℕ) → s Kind k ≡ event → put s EventState e v EventState k ≡ event_open → Places e k → s EventPayload k ≡ 0
      after k kind o (one q) =
          let z : v ≡ event_open = sym (put-here s EventState e k v q) ∙ o in let l = late (decide (s EventState e ≐ fired)) in
          absurd (omega arith)
      after k kind o (two n) = x.open_empty k kind (sym (put_there s EventState e k v n) ∙ o)
