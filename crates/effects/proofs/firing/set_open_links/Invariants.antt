-- `effects::firing::set_open_links` meets its contract: the links before l are swept, one more by `set_more` or eight more by
-- `set_pass`; past the count there is no link (`set-end`).
use Prim.Native.Nat.{◌≤◌, ◌+◌, ◌-◌}
use mathlib.Core.Path.{◌≡◌}
use Rattle.session.specs.Names.{most_links}
use Rattle.session.specs.Table.{Wrote, read, sweep}
use Rattle.session.specs.declared.Field.TheVariants.{Links, LinkState}
use Rattle.effects.specs.OpenLinks.{NoMoreLinks, link_set}
use Rattle.effects.proofs.firing.set_open_links.Given as goal

abbrev pub invariant-loop-l : goal.invariant-loop-l
invariant-loop-l l =
    (l.n ≡ read l.initial.s Links 0) × (l.n ≤ most_links) × NoMoreLinks (read l.initial.s)
    × Wrote l.initial.s l.s (sweep (read l.initial.s) LinkState l.l (link_set (read l.initial.s) l.e l.v))

abbrev pub decreases-loop-l : goal.decreases-loop-l
decreases-loop-l l = l.n + 1 - l.l
