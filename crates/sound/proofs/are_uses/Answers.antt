-- `sound::are_uses` meets its contract: the answers on six rules, joined by `test-both`.
-- The rules known before bound a task's slots (`part-slots`) and say what a held slot is (`slots-held`).
use native.Mathlib.Omega.{arith}
use Rattle.session.specs.Table.{read}
use Rattle.sound.specs.RulesInOrder.{slots-held}
use Rattle.sound.proofs.are_uses.Goals as goal

pub are_compatible-requires : goal.are_compatible-requires
are_compatible-requires c =
    let v = c.args.v.now in
    let q = v.counted in
    let p = c.requires in
    slots-held (read v.s.now) p.parts.it.0 (omega (arith, q.objects, q.few_objects)) p.slots.it
