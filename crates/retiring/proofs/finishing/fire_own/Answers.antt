-- `retiring::finishing::fire_own` meets its contract: without a live descendant what waits finishes (`finishes-waits`), and it alone
-- (`one_fires`); else nothing does (`fires_nothing`). That its event is made bounds the handle.
use mathlib.Core.Path.{sym, subst, ◌∙◌}
use Prim.Native.Nat.{ℕ}
use native.Mathlib.Omega.{arith}
use Rattle.session.specs.Table.{read}
use Rattle.session.specs.TableLaws.{wrote_none}
use Rattle.rules.specs.Formula.{Holds}
use Rattle.rules.specs.FormulaLaws.{passed, failed}
use Rattle.rules.specs.Effects.{finishes}
use Rattle.retiring.specs.Finish.{finishes-waits, one_fires, fires_nothing}
use Rattle.retiring.specs.Climb.{event-made}
use Rattle.retiring.proofs.finishing.fire_own.Goals as goal

pub fire_one-requires : goal.fire_one-requires
fire_one-requires c =
    let p = c.requires in
    let w = passed _ (sym c.task_waits.ensures ∙ c.if-task_waits.true) in
    let m = event-made (read c.args.s.now) p.0 _ w.0 in
    (omega (arith, m.1, p.0.frame.few), p.0.frame.few_links, p.0.no_more)

pub returns-then-task_waits : goal.returns-then-task_waits
returns-then-task_waits c =
    let p = c.requires in
    let s = read c.args.s.now in
    let t = c.args.t in
    let f = passed _ (sym (finishes-waits s t p.2) ∙ sym c.task_waits.ensures ∙ c.if-task_waits.true) in
    rw (← one_fires s _ f p.3) c.fire_one.ensures

pub returns-else-task_waits : goal.returns-else-task_waits
returns-else-task_waits c =
    let p = c.requires in
    let s = read c.args.s.now in
    let t = c.args.t in
    let n = failed _ (sym (finishes-waits s t p.2) ∙ sym c.task_waits.ensures ∙ c.if-task_waits.false) in
    rw (fires_nothing s (λ e f. n (subst (λ (k : ℕ). Holds (finishes s k)) (p.3 e f) f))) (wrote_none _)
