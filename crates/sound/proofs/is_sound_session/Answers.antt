-- `sound::is_sound_session` meets its contract: a rule fails (`wrong`), or all before the last hold (`after`); the order by
-- `sound-grouped`. The marks of busy tasks may be made, since every creator is below its task (`parts_fall`).
use Rattle.std.proofs.Common.{◌∙◌}
use Rattle.session.specs.Table.{read}
use Rattle.rules.specs.Sound.{counts, outputs, links}
use Rattle.reading.specs.TestLaws.{wrong, yes, no, after}
use Rattle.sound.specs.RulesInOrder.{parts, linked_up, uses, from_slots, from_links, from_outputs, from_parts, grouped, sound-grouped}
use Rattle.sound.specs.RulesInOrder.{parts_fall}
use Rattle.sound.proofs.is_sound_session.Goals as goal

pub returns-then-not-are_counts : goal.returns-then-not-are_counts
returns-then-not-are_counts c =
    let s = read c.args.s.now in
    wrong (grouped s) (λ y. no (counts s) c.are_counts.ensures c.if-not-are_counts.true y.0) ∙ sound-grouped s

pub returns-then-not-are_parts : goal.returns-then-not-are_parts
returns-then-not-are_parts c =
    let s = read c.args.s.now in
    wrong (grouped s) (λ y. no (parts s) c.are_parts.ensures c.if-not-are_parts.true y.1.0) ∙ sound-grouped s

pub are_outputs-requires : goal.are_outputs-requires
are_outputs-requires c =
    let s = read c.args.s.now in
    let k = yes (counts s) c.are_counts.ensures c.if-not-are_counts.false in
    parts_fall s k.1.0 (yes (parts s) c.are_parts.ensures c.if-not-are_parts.false)

pub returns-then-not-are_outputs : goal.returns-then-not-are_outputs
returns-then-not-are_outputs c =
    let s = read c.args.s.now in
    wrong (grouped s) (λ y. no (outputs s) c.are_outputs.ensures c.if-not-are_outputs.true y.1.1.0) ∙ sound-grouped s

pub returns-then-not-are_links : goal.returns-then-not-are_links
returns-then-not-are_links c =
    let s = read c.args.s.now in
    wrong (grouped s) (λ y. no (links s) c.are_links.ensures c.if-not-are_links.true y.1.1.1.0) ∙ sound-grouped s

pub are_linked_up-requires : goal.are_linked_up-requires
are_linked_up-requires c =
    let s = read c.args.s.now in
    let p = yes (parts s) c.are_parts.ensures c.if-not-are_parts.false in
    record { objects = p.0; links = yes (links s) c.are_links.ensures c.if-not-are_links.false; null = p.1.1.1.0 }

pub returns-then-not-are_linked_up : goal.returns-then-not-are_linked_up
returns-then-not-are_linked_up c =
    let s = read c.args.s.now in
    wrong (grouped s) (λ y. no (linked_up s) c.are_linked_up.ensures c.if-not-are_linked_up.true y.1.1.1.1.0) ∙ sound-grouped s

pub are_uses-requires : goal.are_uses-requires
are_uses-requires c =
    let s = read c.args.s.now in
    let u = yes (linked_up s) c.are_linked_up.ensures c.if-not-are_linked_up.false in
    record { parts = record { it = yes (parts s) c.are_parts.ensures c.if-not-are_parts.false }; slots = record { it = u.1 } }

pub returns : goal.returns
returns c =
    let s = read c.args.s.now in
    let k = yes (counts s) c.are_counts.ensures c.if-not-are_counts.false in
    let p = yes (parts s) c.are_parts.ensures c.if-not-are_parts.false in
    let o = yes (outputs s) c.are_outputs.ensures c.if-not-are_outputs.false in
    let l = yes (links s) c.are_links.ensures c.if-not-are_links.false in
    let u = yes (linked_up s) c.are_linked_up.ensures c.if-not-are_linked_up.false in
    let linked = after (linked_up s) (uses s) u c.are_uses.ensures in
    let rest = after (outputs s) (from_links s) o (after (links s) (from_slots s) l linked) in
    after (counts s) (from_parts s) k (after (parts s) (from_outputs s) p rest) ∙ sound-grouped s
