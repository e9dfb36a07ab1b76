-- `sound::are_linked_up` meets its contract: `one_link` (`single-same`) fails, or the slots (`slots_same`) decide.
use Rattle.std.proofs.Common.{refl, ◌∙◌}
use native.Mathlib.Omega.{arith}
use Rattle.session.specs.Names.{slot_places}
use Rattle.session.specs.Table.{read}
use Rattle.rules.specs.Sound.{one_link, slots}
use Rattle.reading.specs.TestLaws.{wrong, yes, no, after}
use Rattle.sound.specs.LinkOf.{linked_low, single-same, slots_same}
use Rattle.sound.specs.Row.{row_zero}
use Rattle.sound.specs.RulesInOrder.{linked_up}
use Rattle.sound.proofs.are_linked_up.Goals as goal

pub note_links-requires-clause-low : goal.note_links-requires-clause-low
note_links-requires-clause-low c =
    let v = c.args.v.now in
    linked_low (read v.s.now) c.requires (omega (arith, v.counted.objects, v.counted.few_objects))

pub note_links-requires-clause-none : goal.note_links-requires-clause-none
note_links-requires-clause-none c = row_zero slot_places (λ p. 0) (λ p q. refl)

pub are_single-requires : goal.are_single-requires
are_single-requires c =
    let v = c.args.v.now in
    linked_low (read v.s.now) c.requires (omega (arith, v.counted.objects, v.counted.few_objects))

pub returns-then-are_single : goal.returns-then-are_single
returns-then-are_single c =
    let s = read c.args.v.now.s.now in
    let u = yes (one_link s) (c.are_single.ensures ∙ single-same s c.requires) c.if-are_single.true in
    after (one_link s) (slots s) u (c.are_slots.ensures ∙ slots_same s c.requires u)

pub returns-else-are_single : goal.returns-else-are_single
returns-else-are_single c =
    let s = read c.args.v.now.s.now in
    let e = c.are_single.ensures ∙ single-same s c.requires in
    c.if-are_single.false ∙ wrong (linked_up s) (λ y. no (one_link s) e c.if-are_single.false y.0)
