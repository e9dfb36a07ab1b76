-- What a delivery asks of a session, and what becomes of a counted event with the last of its links.
use Rattle.std.specs.Prelude.{ℕ, ◌+◌, ◌≤◌, ◌≡◌}
use Rattle.std.proofs.Common.{ap, ◌∙◌, arith}
use Rattle.session.specs.Table.{Session, put}
use Rattle.session.specs.declared.Field.TheVariants.{Links, Dropped, EventState, LinkSource, LinkTarget, LinkSlot, LinkState}
use Rattle.session.specs.Names.{most_objects, most_links, delivered, destroyed_fired}
use Rattle.rules.specs.Formula.{Holds}
use Rattle.rules.specs.FormulaLaws.{choose_yes, choose_no}
use Rattle.rules.specs.Reading.{serves_last}
use Rattle.rules.specs.Checks.{deliver_checks}
use Rattle.rules.specs.Sound.{sound}
use Rattle.rules.specs.Effects.{drops, expire}
use Rattle.laws.specs.Met.{met, by_number}
use Rattle.laws.specs.ByName.{sound_by_name, sound_of}
use Rattle.laws.specs.Puts.{put_same}
use Rattle.laws.specs.Expire.{expire-sound}
use Rattle.laws.specs.Places.{put_there}
use Rattle.effects.specs.Satisfying.{Satisfiable}

-- link l can be delivered
pub record Deliverable (s : Session) (l : ℕ) : Type 0 where
  pub link : l ≤ s Links 0
  pub links : s Links 0 ≤ most_links
  pub source : s LinkSource l ≤ most_objects
  pub dropped : s Dropped 0 ≤ most_links + 1
  pub satisfies : (Holds (drops s (s LinkTarget l) (s LinkSlot l)) → ⊥) → Satisfiable s (s LinkTarget l) (s LinkSlot l)

-- what can be satisfied can be once a link was marked as delivered
pub delivered_satisfiable : (s : Session) (l d j : ℕ) → l ≤ s Links 0 → Satisfiable s d j
    → Satisfiable (put s LinkState l delivered) d j
unfolding put
delivered_satisfiable s l d j m x =
    record {
      fires =
          record {
            handle = x.fires.handle;
            links = x.fires.links;
            no_more = λ k h. put_there s LinkState l k delivered (λ e. omega arith) ∙ x.fires.no_more k h;
          };
      fills = λ k. record { slot = (x.fills k).slot; count = (x.fills k).count };
      counts = λ n k. record { top = (x.counts n k).top; low = (x.counts n k).low };
    }

-- the source of link l goes, or stays as it was
pub expire_yes : (s : Session) (l : ℕ) → Holds (serves_last s l) → expire s l ≡ put s EventState (s LinkSource l) destroyed_fired
unfolding expire
expire_yes s l x = ap (put s EventState (s LinkSource l)) (choose_yes (serves_last s l) destroyed_fired _ x)

pub expire_no : (s : Session) (l : ℕ) → (Holds (serves_last s l) → ⊥) → expire s l ≡ s
unfolding expire
expire_no s l n =
    ap (put s EventState (s LinkSource l)) (choose_no (serves_last s l) destroyed_fired _ n)
    ∙ put_same s EventState (s LinkSource l)

-- then the link can still be delivered
pub expire-ready : (s : Session) (l : ℕ) → Holds (sound s) → met (deliver_checks s l)
    → Holds (sound (expire s l)) × met (deliver_checks (expire s l) l)
unfolding expire put
expire-ready s l h m =
    (sound_of (expire s l) (expire-sound s l (by_number (deliver_checks s l) m) (sound_by_name s h)), m)
