-- What a sound session and an operation's checks give the functions that write: places that there are, and ranges.
use Rattle.std.specs.Prelude.{ℕ, ◌+◌, ◌≤◌, ◌<◌, ◌≡◌, List, ◌⊎◌}
use Rattle.std.proofs.Common.{inl, inr, arith}
use Rattle.std.proofs.Math.Decide.{dec_lt}
use Rattle.session.specs.Table.{Session, read}
use Rattle.session.specs.declared.Field.TheVariants.{Links, Kind, EventType, EventTally, LinkSource, LinkTarget, LinkSlot}
use Rattle.session.specs.declared.Field.TheVariants.{LinkState}
use Rattle.session.specs.Names.{task, event, latch, delivered, object_places, link_places}
use Rattle.session.specs.TableLaws.{read_past}
use Rattle.rules.specs.Formula.{Holds, Formula.◌≐◌, Formula.◌or◌}
use Rattle.rules.specs.FormulaLaws.{Case, decide, Case.it_does, Case.it_does_not}
use Rattle.rules.specs.Reading.{made, is_kind, is_user_event, has_slot, overflows}
use Rattle.rules.specs.Checks.{dependence_checks, satisfy_checks, deliver_checks}
use Rattle.rules.specs.Sound.{sound}
use Rattle.rules.specs.Effects.{drops}
use Rattle.laws.specs.Met.{met, by_number}
use Rattle.laws.specs.Counting.{count_most}
use Rattle.laws.specs.Frame.{AllOf}
use Rattle.laws.specs.Rows.Name.{counts, task_parts, event_parts, links, dropped, free_links}
use Rattle.laws.specs.Keeping.{Sound}
use Rattle.laws.specs.ByName.{sound_by_name}
use Rattle.laws.specs.Conjuncts.{no_link_lem, event_row, event_by_name, Event.tally_high}
use Rattle.laws.specs.Conjuncts.Linked.{source_made, target_made, target_kind, has_slot_lem}
use Rattle.laws.specs.SlotPlaces.{part-slots, low_slot}
use Rattle.laws.specs.Standing.{made_low, handle_made, handle_or_null, link_at_lem}
use Rattle.effects.specs.OpenLinks.{NoMoreLinks}
use Rattle.effects.specs.Satisfying.{Firable, Countable, Triggerable, Satisfiable}
use Rattle.effects.specs.Linking.{Dependable}
use Rattle.effects.specs.Delivering.{Deliverable}

-- no link stands past the count
pub no_more_links : (ws : List ℕ) → Holds (sound (read ws)) → NoMoreLinks (read ws)
no_more_links ws h l m = go (dec_lt l link_places)
  where
    go : Dec (l < link_places) → read ws LinkState l ≡ 0
    go (yes b) = (no_link_lem (read ws) l ((sound_by_name (read ws) h free_links).1 l b (omega arith))).no_state
    go (no f) = read_past ws LinkState l (omega arith)

-- what is a task or an event, and is no task
task_or_event : (s : Session) (d : ℕ) → Holds (is_kind s task d or is_user_event s d) → (s Kind d ≡ task → ⊥) → s Kind d ≡ event
task_or_event s d (inl x) n = absurd (n x)
task_or_event s d (inr x) n = x.0

module _ (s : Session) (g : Sound s) (n : NoMoreLinks s) (d j : ℕ) (m : Holds (made s d)) where
  firable : Firable s d
  firable = record { handle = handle_made s d g m; links = (g counts).1.1; no_more = n }

  place : d < object_places
  place = let c = (g counts).1.0 in omega arith

  event_of : s Kind d ≡ event → AllOf (event_row d) s
  event_of k = event_by_name d s k (g event_parts d place)

  -- an event that would not leave its range
  countable : s Kind d ≡ event → (Holds (overflows s d j) → ⊥) → s EventType d ≡ latch → Countable s d j
  countable k o t = record { top = event_of k tally_high; low = λ z. low z }
    where
      low : j ≡ 0 → 1 ≤ s EventTally d
      low z = go (decide (s EventTally d ≐ 0))
        where
          go : Case (s EventTally d ≐ 0) → 1 ≤ s EventTally d
          go (it_does e) = absurd (o (k, (t, inl (z, e))))
          go (it_does_not f) = omega arith

  triggerable : s Kind d ≡ event → (Holds (overflows s d j) → ⊥) → Triggerable s d j
  triggerable k o = record { fires = firable; counts = countable k o }

  -- a task or an event with this slot
  satisfiable : Holds (is_kind s task d or is_user_event s d) → Holds (has_slot s d j) → (Holds (overflows s d j) → ⊥)
      → Satisfiable s d j
  satisfiable k h o =
      record {
        fires = firable;
        fills = λ _. record { slot = low_slot s d j (g task_parts d place) h; count = part-slots s d (g task_parts d place) };
        counts = λ n t. countable (task_or_event s d k n) o t;
      }

-- operation 6
pub satisfy-ready : (ws : List ℕ) (caller e b j : ℕ) → Holds (sound (read ws)) → met (satisfy_checks (read ws) caller e b j)
    → Triggerable (read ws) e j
satisfy-ready ws caller e b j h m =
    let s = read ws in
    let c = by_number (satisfy_checks s caller e b j) m in
    triggerable s (sound_by_name s h) (no_more_links ws h) e j (c 9).0 (c 10).0.0 (c 19)

-- operation 5
pub dependence-ready : (ws : List ℕ) (caller source d j mode : ℕ) → Holds (sound (read ws))
    → met (dependence_checks (read ws) caller source d j mode) → Dependable (read ws) source d j
dependence-ready ws caller source d j mode h m =
    let s = read ws in
    let g = sound_by_name s h in
    let c = by_number (dependence_checks s caller source d j mode) m in
    record {
      from = handle_or_null s source g (c 9).0;
      handle = handle_made s d g (c 9).1;
      slot = λ _. low_slot s d j (g task_parts d (made_low s d (g counts) (c 9).1)) (c 12);
      room = λ k. let r = c 21 k in omega arith;
      satisfies = λ k. satisfiable s g (no_more_links ws h) d j (c 9).1 (c 10).1 (c 12) (now k (c 19));
    }
  where
    now : (read ws Kind source ≡ event → ⊥) → (read ws Kind source ≡ event) ⊎ (Holds (overflows (read ws) d j) → ⊥)
        → Holds (overflows (read ws) d j) → ⊥
    now k (inl x) = absurd (k x)
    now k (inr x) = x

-- operation 9
pub deliver-ready : (ws : List ℕ) (l : ℕ) → Holds (sound (read ws)) → met (deliver_checks (read ws) l) → Deliverable (read ws) l
unfolding drops
deliver-ready ws l h m =
    let s = read ws in
    let g = sound_by_name s h in
    let n = no_more_links ws h in
    let x = link_at_lem s l (g links) m.0 in
    let d = s LinkTarget l in
    let j = s LinkSlot l in
    let few = (g counts).1.1 in
    let most = count_most (s Links 0 + 1) (λ k. s LinkState k ≐ delivered) in
    record {
      link = m.0.1;
      links = few;
      source = handle_made s (s LinkSource l) g (x source_made);
      dropped = omega (arith, g dropped, most);
      satisfies = λ f. satisfiable s g n d j (x target_made) (x target_kind) (x has_slot_lem) (λ o. f (inr (inr o)));
    }
