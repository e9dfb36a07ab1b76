-- Destroying an event: its open links are cut.
use Rattle.std.specs.Prelude.{ℕ, ◌≤◌, ◌≡◌, refl, Bool, true, false, eqb}
use Rattle.std.proofs.Common.{ap}
use Rattle.std.proofs.Math.Path.{fun_ext}
use Rattle.session.specs.Table.{Session, put, change, pick}
use Rattle.session.specs.declared.Field.TheVariants.{Links, EventState, LinkSource, LinkState}
use Rattle.session.specs.Names.{fired, destroyed_unfired, destroyed_fired, link_open, cut, most_links}
use Rattle.rules.specs.Formula.{test, choose, Formula.◌≐◌, Formula.◌and◌}
use Rattle.rules.specs.Effects.{destroy_event}
use Rattle.effects.specs.OpenLinks.{NoMoreLinks, link_set, open_links_set}

-- an event's state once it is destroyed
unfoldable pub retired : ℕ → ℕ
retired state = choose (state ≐ fired) destroyed_fired destroyed_unfired

-- every open link of event e cut
unfoldable pub links_cut : Session → ℕ → Session
links_cut s e = change s LinkState (λ l. choose ((s LinkSource l ≐ e) and (s LinkState l ≐ link_open)) cut (s LinkState l))

-- which is a state given to them
pub cut-set : (s : Session) (e : ℕ) → open_links_set s e cut ≡ links_cut s e
unfolding links_cut open_links_set link_set test
cut-set s e = ap (change s LinkState) (fun_ext (λ l. go l (eqb (s LinkState l) link_open) (eqb (s LinkSource l) e)))
  where
    go : (l : ℕ) (b c : Bool)
        → ◌≡◌ {A = ℕ} (pick (elim b [ true ↦ c | false ↦ false ]) cut (s LinkState l))
        (pick (elim c [ true ↦ b | false ↦ false ]) cut (s LinkState l))
    go l true true = refl
    go l true false = refl
    go l false true = refl
    go l false false = refl

pub destroy_event-cut : (s : Session) (e : ℕ) → links_cut (put s EventState e (retired (s EventState e))) e ≡ destroy_event s e
unfolding links_cut destroy_event put retired
destroy_event-cut s e = refl

-- what cutting asks, once the event's state is written
pub after_retire : (s : Session) (e v : ℕ) → s Links 0 ≤ most_links → NoMoreLinks s → (put s EventState e v Links 0 ≤ most_links)
    × NoMoreLinks (put s EventState e v)
unfolding put
after_retire s e v f n = (f, n)
