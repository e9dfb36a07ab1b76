-- `effects::delivering::bring` meets its contract: what is read is in range, by the checks (`deliver-ready`); by what `drops`
-- answers one more is dropped, or the target, still satisfiable with the link delivered, is satisfied (`wrote_next`).
use mathlib.Core.Path.{◌≡◌, sym, ◌∙◌}
use mathlib.Core.Bool.{true, false}
use native.Mathlib.Omega.{arith}
use Rattle.session.specs.Table.{read}
use Rattle.session.specs.TableLaws.{wrote_more}
use Rattle.session.specs.declared.Field.TheVariants.{Dropped, LinkTarget, LinkSlot}
use Rattle.rules.specs.Formula.{test}
use Rattle.rules.specs.FormulaLaws.{choose_yes, choose_no, passed, failed}
use Rattle.rules.specs.Effects.{drops, satisfy, bring}
use Rattle.laws.specs.Puts.{wrote_next}
use Rattle.effects.specs.Ready.{deliver-ready}
use Rattle.effects.specs.Delivering.{delivered_satisfiable}
use Rattle.effects.proofs.delivering.bring.Goals as goal

pub get-d-requires : goal.get-d-requires
get-d-requires c =
    let ready = deliver-ready _ _ c.requires.0 c.requires.1 in
    omega (arith, ready.link, ready.links)

pub get-j-requires : goal.get-j-requires
get-j-requires c =
    let ready = deliver-ready _ _ c.requires.0 c.requires.1 in
    omega (arith, ready.link, ready.links)

pub get-source-requires : goal.get-source-requires
get-source-requires c =
    let ready = deliver-ready _ _ c.requires.0 c.requires.1 in
    omega (arith, ready.link, ready.links)

pub get-p-requires : goal.get-p-requires
get-p-requires c =
    let ready = deliver-ready _ _ c.requires.0 c.requires.1 in
    omega (arith, c.get-source.ensures, ready.source)

pub set-requires : goal.set-requires
set-requires c =
    let ready = deliver-ready _ _ c.requires.0 c.requires.1 in
    omega (arith, ready.link, ready.links)

pub overflow_add-n : goal.overflow_add-n
overflow_add-n c =
    let ready = deliver-ready _ _ c.requires.0 c.requires.1 in
    omega (arith, c.get-n.ensures, ready.dropped)

pub returns-then-drops : goal.returns-then-drops
unfolding bring
returns-then-drops c =
    let slot = c.get-j in
    let target = c.get-d in
    let a = c.args in
    let e : test (drops (read a.s.now) (read a.s.now LinkTarget a.l) (read a.s.now LinkSlot a.l)) ≡ true = rw
    (target.ensures, slot.ensures) at (sym c.drops-drops.ensures ∙ c.if-drops.true) in
    rw (choose_yes _ _ _ (passed _ e), ← c.get-n.ensures)
    (wrote_more Dropped _ _ c.set.ensures
    c.set-then-drops.ensures)

pub satisfy_either-requires : goal.satisfy_either-requires
satisfy_either-requires c =
    let slot = c.get-j in
    let target = c.get-d in
    let a = c.args in
    let ready = deliver-ready _ _ c.requires.0 c.requires.1 in
    let e : test (drops (read a.s.now) (read a.s.now LinkTarget a.l) (read a.s.now LinkSlot a.l)) ≡ false = rw
    (target.ensures, slot.ensures) at (sym c.drops-drops.ensures ∙ c.if-drops.false) in
    rw (c.set.ensures.reading, target.ensures, slot.ensures)
    (delivered_satisfiable _ _ _ _ ready.link (ready.satisfies (failed _ e)))

pub returns-else-drops : goal.returns-else-drops
unfolding bring
returns-else-drops c =
    let slot = c.get-j in
    let target = c.get-d in
    let a = c.args in
    let e : test (drops (read a.s.now) (read a.s.now LinkTarget a.l) (read a.s.now LinkSlot a.l)) ≡ false = rw
    (target.ensures, slot.ensures) at (sym c.drops-drops.ensures ∙ c.if-drops.false) in
    rw (
      choose_no _ _ _ (failed _ e),
      ← target.ensures,
      ← slot.ensures,
      ← c.get-source.ensures,
      ← c.get-p.ensures,
    )
    (wrote_next (λ r. satisfy r target.result slot.result c.get-p.result)
    c.set.ensures c.satisfy_either.ensures)
