-- `retiring::finishing::fire_finished` meets its contract: with a live descendant nothing finishes (`busy_none`) and there is no step
-- (`busy_steps`); else `fire_over` does both.
use mathlib.Core.Path.{sym, ◌∙◌}
use Rattle.session.specs.Table.{read}
use Rattle.session.specs.TableLaws.{wrote_none}
use Rattle.rules.specs.FormulaLaws.{passed, failed}
use Rattle.retiring.specs.Steps.{busy_none, busy_steps}
use Rattle.retiring.proofs.finishing.fire_finished.Goals as goal

pub returns-then-is_busy : goal.returns-then-is_busy
returns-then-is_busy c =
    let p = c.requires in
    let s = read c.args.s.now in
    let t = c.args.t in
    let b = passed _ (sym c.is_busy.ensures ∙ c.if-is_busy.true) in
    record {
      wrote = rw (busy_none s p.0 t p.3.known p.3 b) (wrote_none _);
      answer = sym (busy_steps s p.0 t p.3.known p.2 b);
    }

pub fire_over-requires : goal.fire_over-requires
fire_over-requires c =
    let p = c.requires in
    (p.0, p.1, p.2, p.3, failed _ (sym c.is_busy.ensures ∙ c.if-is_busy.false))
