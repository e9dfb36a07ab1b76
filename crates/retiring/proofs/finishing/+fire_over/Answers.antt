-- `retiring::finishing::fire_over` meets its contract: each call goes to a lower handle. Where the climb stops at the creator, the event of t alone can finish
-- (`own_alone`) and there is one step at the most (`first_step`). Else the creator is over: what finishes is above it (`only_higher`),
-- and the steps are one and those from there (`more_steps`).
use mathlib.Core.Path.{sym, ap, ◌∙◌}
use native.Mathlib.Omega.{arith}
use Rattle.session.specs.Table.{read}
use Rattle.session.specs.declared.Field.TheVariants.{TaskCreator}
use Rattle.rules.specs.FormulaLaws.{failed}
use Rattle.rules.specs.Descendants.{climbed, is_over}
use Rattle.laws.specs.Climbing.{climb_few}
use Rattle.retiring.specs.Finish.{finishes-waits}
use Rattle.retiring.specs.Steps.{own_alone, first_step, only_higher, more_steps}
use Rattle.retiring.proofs.finishing.+fire_over.Goals as goal

pub fire_own-requires : goal.fire_own-requires
fire_own-requires t c =
    let p = c.requires in
    let stop = c.stops_above.ensures.stops c.if-stops_above.true in
    (p.0, p.3.known, p.4, own_alone (read c.args.s.now) p.0 c.args.t p.3.known p.3 stop)

pub returns-then-stops_above : goal.returns-then-stops_above
returns-then-stops_above t c =
    let p = c.requires in
    let s = read c.args.s.now in
    let stop = c.stops_above.ensures.stops c.if-stops_above.true in
    record {
      wrote = c.fire_own.ensures;
      answer = c.first_step-steps.ensures ∙ sym (first_step s p.0 c.args.t p.3.known p.2 p.4 stop);
    }

pub fire_over-requires : goal.fire_over-requires
fire_over-requires t c =
    let e = c.get-c.ensures in
    let p = c.requires in
    let s = read c.args.s.now in
    let u = c.args.t in
    let on = c.stops_above.ensures.goes_on c.if-stops_above.false in
    let ends = sym (finishes-waits s u p.4) ∙ sym c.task_waits.ensures ∙ c.if-task_waits.false in
    let f = p.0.frame.falls u p.3.known on.0 in (
      omega (arith, f, e, c.decreases),
      (
        p.0,
        omega (arith, e, on.0),
        rw e (λ live. on.1.0 (p.0.frame.makers u p.3.known on.0, live)),
        rw e (only_higher s p.0 u p.3.known p.3 on.1 on.0 (failed _ ends)),
        rw e on.1.1,
      ),
    )

pub overflow_add-result : goal.overflow_add-result
overflow_add-result t c =
    let p = c.requires in
    let s = read c.args.s.now in
    let u = c.args.t in
    let on = c.stops_above.ensures.goes_on c.if-stops_above.false in
    let few = climb_few (s TaskCreator) (is_over s) c.get-c.result c.get-c.result in
    let fall = p.0.frame.falls u p.3.known on.0 in
    omega (arith, c.fire_over.ensures.answer, few, c.get-c.ensures, fall, p.3.known, p.0.frame.few)

pub returns : goal.returns
returns t c =
    let p = c.requires in
    let s = read c.args.s.now in
    let u = c.args.t in
    let on = c.stops_above.ensures.goes_on c.if-stops_above.false in
    let up = more_steps s p.0 u p.3.known p.2 p.4 on.0 in
    let same = ap (climbed s) c.get-c.ensures in
    record { wrote = c.fire_over.ensures.wrote; answer = omega (arith, c.fire_over.ensures.answer, up, same) }
