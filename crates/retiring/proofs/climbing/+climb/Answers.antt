-- `retiring::climbing::climb` meets its contract: each call goes to a lower handle (`done_lower`). A busy task stops the walk
-- (`climbed-busy`, `busy_steps`); main has no creator (`main_steps`), a live creator is the last (`one-step`), and else the steps are
-- one and those from the creator (`more_steps`).
use mathlib.Core.Path.{◌≡◌, sym, ap, ◌∙◌}
use native.Mathlib.Omega.{arith}
use Rattle.session.specs.Table.{read}
use Rattle.session.specs.declared.Field.TheVariants.{TaskCreator}
use Rattle.rules.specs.Descendants.{climbed}
use Rattle.ancestors.specs.Above.{Shows}
use Rattle.retiring.specs.Finish.{mark_yes, mark_no}
use Rattle.retiring.specs.Climb.{climbed-busy, creator_none, done_lower, none_handle}
use Rattle.retiring.specs.Steps.{creator_told, live_stops, busy_steps, main_steps, one-step, more_steps}
use Rattle.retiring.proofs.climbing.+climb.Goals as goal

pub returns-then-busy : goal.returns-then-busy
unfolding Shows
returns-then-busy t c =
    let p = c.requires in
    let s = read c.args.s.now in
    let h = c.args.h in
    let b = mark_yes _ _ (p.3 h (omega (arith, p.4.known, p.0.frame.few))) (λ z. omega arith) in
    let z = busy_steps s p.0 h p.4.known p.2 b in
    record { fires = climbed-busy s p.0 h p.4.known _ _ p.1 p.4 b; steps = omega arith }

pub mark_task-walk-requires : goal.mark_task-walk-requires
unfolding Shows
mark_task-walk-requires t c =
    let p = c.requires in
    let h = c.args.h in
    let idle = mark_no _ _ (p.3 h (omega (arith, p.4.known, p.0.frame.few))) (omega arith) in
    (p.0, p.1, idle, p.4)

pub returns-then-get-eq0 : goal.returns-then-get-eq0
returns-then-get-eq0 t c =
    let p = c.requires in
    let s = read c.args.s.now in
    let h = c.args.h in
    let none : s TaskCreator h ≡ 0 = sym c.get.ensures ∙ c.if-get-eq0.true in
    let z = main_steps s p.0 h p.4.known p.2 none in
    record { fires = rw (creator_none s h none) at c.mark_task-walk.ensures; steps = omega arith }

pub returns-in-None : goal.returns-in-None
unfolding Shows
returns-in-None t c =
    let p = c.requires in
    let s = read c.args.s.now in
    let h = c.args.h in
    let idle = mark_no _ _ (p.3 h (omega (arith, p.4.known, p.0.frame.few))) (omega arith) in
    let none = none_handle _ (sym c.in-None.ensures) in
    let some = c.if-get-eq0.false in
    let e = c.get.ensures in
    let z = one-step s p.0 h p.4.known p.2 idle (live_stops s p.0 h p.4.known none) (omega arith) in
    record { fires = rw none at c.mark_task-walk.ensures; steps = omega arith }

pub climb-requires : goal.climb-requires
climb-requires t c =
    let p = c.requires in
    let s = read c.args.s.now in
    let h = c.args.h in
    let e = creator_told s p.0 h p.4.known _ c.in-Some.ensures in
    let low = done_lower s p.0 h p.4.known p.1 in (
      omega (arith, low, e.0, c.decreases),
      (p.0, e.2, rw e.1 e.3, p.3, rw e.0 c.mark_task-walk.ensures, omega (arith, low, e.0, p.5)),
    )

pub returns-in-Some : goal.returns-in-Some
unfolding Shows
returns-in-Some t c =
    let p = c.requires in
    let s = read c.args.s.now in
    let h = c.args.h in
    let idle = mark_no _ _ (p.3 h (omega (arith, p.4.known, p.0.frame.few))) (omega arith) in
    let e = creator_told s p.0 h p.4.known _ c.in-Some.ensures in
    let some = c.if-get-eq0.false in
    let made = c.get.ensures in
    let up = more_steps s p.0 h p.4.known p.2 idle (omega arith) in
    let same = ap (climbed s) e.1 in
    record { fires = c.climb.ensures.fires; steps = omega (arith, c.climb.ensures.steps, up, same) }
