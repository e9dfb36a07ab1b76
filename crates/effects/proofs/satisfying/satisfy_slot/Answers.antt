-- `effects::satisfying::satisfy_slot` meets its contract: the mark and the payload are put (`wrote_more`); by what `is_filled`
-- answers the state comes behind them (`filled_last`) or does not (`filled-one`).
use mathlib.Core.Path.{◌≡◌, sym, ◌∙◌}
use mathlib.Core.Bool.{true, false}
use Rattle.session.specs.Table.{read, put}
use Rattle.session.specs.TableLaws.{wrote_none, wrote_more}
use Rattle.session.specs.declared.Field.TheVariants.{TaskState, SlotMark, SlotPayload}
use Rattle.rules.specs.Formula.{test}
use Rattle.rules.specs.Sound.{full}
use Rattle.effects.specs.Satisfying.{filled, filled_last, filled-one}
use Rattle.effects.proofs.satisfying.satisfy_slot.Goals as goal

pub is_filled-requires : goal.is_filled-requires
unfolding put
is_filled-requires c =
    let a = c.args in
    let p = c.requires in
    let w = wrote_more SlotPayload _ a.p (wrote_more SlotMark _ _ (wrote_none a.s.now) c.set.ensures)
    c.set-2.ensures in
    (p.0, rw w.reading p.1.count)

pub returns-then-is_filled : goal.returns-then-is_filled
returns-then-is_filled c =
    let a = c.args in
    let w = wrote_more SlotPayload _ a.p (wrote_more SlotMark _ _ (wrote_none a.s.now) c.set.ensures)
    c.set-2.ensures in
    let e : test (full (filled (read a.s.now) a.t a.j a.p) a.t) ≡ true = rw w.reading at
    (sym c.is_filled.ensures ∙ c.if-is_filled.true) in
    rw (← filled_last _ _ _ _ e) (wrote_more TaskState _ _ w c.set-then-is_filled.ensures)

pub returns-else-is_filled : goal.returns-else-is_filled
returns-else-is_filled c =
    let a = c.args in
    let w = wrote_more SlotPayload _ a.p (wrote_more SlotMark _ _ (wrote_none a.s.now) c.set.ensures)
    c.set-2.ensures in
    let e : test (full (filled (read a.s.now) a.t a.j a.p) a.t) ≡ false = rw w.reading at
    (sym c.is_filled.ensures ∙ c.if-is_filled.false) in
    rw (← filled-one _ _ _ _ e) w
