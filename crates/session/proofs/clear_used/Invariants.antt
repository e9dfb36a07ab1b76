-- `session::clear_used` meets its contract: each round clears the used places of one field more.
use Prim.Native.Nat.{◌≤◌}
use mathlib.Core.Path.{◌≡◌}
use lib.ListN.{take}
use Rattle.session.specs.Names.{object_places, link_places}
use Rattle.session.specs.Table.{Wrote, read, fields, words_of}
use Rattle.session.specs.Renew.{places_in, cleared}
use Rattle.session.proofs.clear_used.Given as goal

abbrev pub invariant-loop-k : goal.invariant-loop-k
invariant-loop-k l =
    (l.handles ≤ object_places) × (l.links ≤ link_places)
    × (l.used ≡ places_in l.handles l.links fields) × (l.sizes ≡ places_in object_places link_places fields)
    × (l.start ≡ words_of (take l.k fields)) × Wrote l.initial.s l.s (cleared (read l.initial.s) l.handles l.links l.k)
